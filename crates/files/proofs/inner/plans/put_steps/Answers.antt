use native.Mathlib.Omega.{arith}
use Rattle.files.proofs.Plans.{put_begun, put_more, put_ended}
use Rattle.files.proofs.inner.plans.put_steps.Goals as goal

pub loop-k-init : goal.loop-k-init
loop-k-init c = put_begun _ _ _ _ _ _ _ c.requires.holds

pub loop-k-preserved : goal.loop-k-preserved
loop-k-preserved c =
    put_more _ _ _ _ _ _ c.args.proposal.ready.ready _ _ _ _ c.loop-k.invariant (omega arith) c.put_step.ensures.put c.put_step.ensures.words

pub returns-clause-put : goal.returns-clause-put
returns-clause-put c = put_ended _ _ _ _ _ _ c.args.proposal.ready.ready _ _ _ c.loop-k.invariant (omega arith)
