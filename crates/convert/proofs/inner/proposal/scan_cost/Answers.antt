-- The fault decides.
use native.Mathlib.Omega.{arith}
use Rattle.convert.proofs.Answers.{cost_told}
use Rattle.convert.proofs.inner.proposal.scan_cost.Goals as goal

pub returns : goal.returns
returns c width links steps known = cost_told _ _ _ _ _ _ c.args.words.now _ c.total_fault.ensures (omega (arith, known.fits)) known.is c.placed.ensures
