-- Every row stands in the file, and the blocks are sealed.
use native.Mathlib.Omega.{arith}
use Rattle.files.proofs.Plans.{seal_fits, plan_sealed}
use Rattle.files.proofs.inner.plans.write_plan.Goals as goal

pub seal-requires : goal.seal-requires
seal-requires c =
    let is = c.proposal-proposal.ensures in
    let count = c.length_of-count.ensures in
    (seal_fits _ _ _ _ _ _ is.told.0 is.told.1 c.put_steps.ensures.holds count.0, omega (arith, count.2))

pub returns : goal.returns
returns c =
    let is = c.proposal-proposal.ensures in
    plan_sealed _ _ _ _ _ c.args.read.fit _ _ _ _ c.number_of.ensures c.length_of-count.ensures.0
    (rw (is.told.0, is.told.1, is.width, is.corridor, is.demands, is.record) at c.put_steps.ensures.put) c.seal.ensures
