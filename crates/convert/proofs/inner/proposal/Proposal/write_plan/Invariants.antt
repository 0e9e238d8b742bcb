-- The first k rows are the plan's.
use Rattle.convert.proofs.Settings.{PlanRows}
use Rattle.convert.proofs.inner.proposal.Proposal.write_plan.Given as goal

abbrev pub invariant-loop-k : goal.invariant-loop-k
invariant-loop-k l =
    PlanRows l.self.record.width l.self.corridor.words.now l.self.demands.words.now l.self.record.words.now l.self.corridor.links
    l.self.demands.steps l.k l.initial.plan l.plan
