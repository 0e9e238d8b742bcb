-- The two products say whether r × R ≤ d × S.
use Rattle.std.proofs.Common.{arith}
use Rattle.std.proofs.lemmas.Bool.Decides.{nat_tests}
use Rattle.settings.proofs.Products.{ramp_over, ramp_rest}
use Rattle.settings.proofs.inner.Shared.ramp_up.Goals as goal

pub returns-then-self : goal.returns-then-self
returns-then-self c = grind (arith, nat_tests, ramp_rest _ _ _ _ c.requires)

pub returns-else-self : goal.returns-else-self
returns-else-self c = grind (arith, nat_tests, ramp_over)
