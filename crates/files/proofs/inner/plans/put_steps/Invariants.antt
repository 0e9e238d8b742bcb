-- The first k rows stand in the file.
use Rattle.files.proofs.Plans.{PlanPut}
use Rattle.files.proofs.inner.plans.put_steps.Given as goal

abbrev pub invariant-loop-k : goal.invariant-loop-k
invariant-loop-k l =
    PlanPut l.proposal.record.width l.proposal.corridor.words.now l.proposal.demands.bytes.now l.proposal.record.bytes.now l.proposal.corridor.links
    l.proposal.demands.steps l.k l.initial.plan l.plan
