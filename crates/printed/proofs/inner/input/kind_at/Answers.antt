-- Where nothing is left past a byte, the oldest kind stays.
use native.Mathlib.Omega.{arith}
use Rattle.printed.proofs.Input.{past_kind}
use Rattle.printed.proofs.inner.input.kind_at.Goals as goal

pub returns-in-None : goal.returns-in-None
returns-in-None c = past_kind c.args.kind c.args.at c.args.input.now (grind (arith, c.in-None.ensures.lookup))
