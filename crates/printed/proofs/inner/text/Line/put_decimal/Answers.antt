-- The digits that are put are the number's decimal.
use mathlib.Core.List.{List, ◌++◌}
use mathlib.Core.Path.{◌≡◌, ap, sym, ◌∙◌}
use Prim.Native.Nat.{ℕ, ◌≤◌}
use native.Mathlib.Omega.{arith}
use lib.ListN.{length, take}
use Rattle.printed.specs.Text.{decimal}
use Rattle.printed.proofs.Text.{fewest_short, fewest_decimal}
use Rattle.printed.proofs.inner.text.Line.put_decimal.Goals as goal

pub put_text-requires : goal.put_text-requires
put_text-requires c = omega (arith, c.decimal-count.ensures.in_bounds.1, fewest_short _ _ c.ranges.n.fits c.decimal-count.ensures.len)

pub returns : goal.returns
returns c =
    let few = fewest_short _ _ c.ranges.n.fits c.decimal-count.ensures.len in
    let e = c.decimal-count.ensures.digits ∙ fewest_decimal _ _ c.decimal-count.ensures.len few in
    (c.put_text.ensures ∙ ap (λ (t : List ℕ). c.args.self.now ++ t) e, omega (arith, c.decimal-count.ensures.in_bounds.1, few, ap length e))
