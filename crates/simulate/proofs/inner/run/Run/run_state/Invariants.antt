-- The state is state k, and the total its cost so far.
use Rattle.lists.specs.Fits.{RowFits}
use Rattle.simulate.proofs.Runs.{RanTo}
use Rattle.simulate.proofs.inner.run.Run.run_state.Given as goal

abbrev pub invariant-loop-k : goal.invariant-loop-k
invariant-loop-k l =
    RanTo l.self.corridor.words.now l.self.demands.words.now l.self.plan.now l.k l.table l.state l.flows l.total × RowFits l.self.width l.row l.self.corridor.links
