-- The state is state k, the total its cost so far, and the record has its first k rows.
use Rattle.tables.proofs.Grid.{Rowed}
use Rattle.simulate.proofs.Runs.{RanTo, run_word}
use Rattle.simulate.proofs.inner.run.Run.run_steps.Given as goal

abbrev pub invariant-loop-k : goal.invariant-loop-k
invariant-loop-k l =
    RanTo l.self.corridor.words.now l.self.demands.words.now l.self.plan.now l.k l.table l.state l.flows l.total
    × Rowed l.k l.count l.wide (run_word l.self.width l.self.corridor.words.now l.self.demands.words.now l.self.plan.now) l.initial.states l.states
