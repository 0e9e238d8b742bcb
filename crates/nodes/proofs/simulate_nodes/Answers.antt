-- The answer at the words that are given is the one at the words of the nodes.
use borrow.Author.Rules.{rules}
use Rattle.nodes.proofs.Answers.{simulate_answer_lem, simulate_written}
use Rattle.nodes.proofs.simulate_nodes.Goals as goal

pub returns-clause-answered : goal.returns-clause-answered
returns-clause-answered c = search (rules, simulate_answer_lem, simulate_written)

pub returns-clause-written : goal.returns-clause-written
returns-clause-written c = search (rules, simulate_answer_lem, simulate_written)
