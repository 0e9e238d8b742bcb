-- The answer at the words that are given is the one at the words of the nodes.
use borrow.Author.Rules.{rules}
use Rattle.nodes.proofs.Answers.{check_answer_lem}
use Rattle.nodes.proofs.check_nodes.Goals as goal

pub returns : goal.returns
returns c = search (rules, check_answer_lem)
