-- Plain facts of numbers and tests that several files need.
use mathlib.Core.Bool.{Bool, true, false, true≢false}
use mathlib.Core.Path.{◌≡◌, refl, sym, ap, ◌∙◌}
use mathlib.Core.Logic.{◌⊎◌, inl, inr}
use Prim.Native.Nat.{ℕ, ◌+◌, ◌*◌, ◌≤◌, ◌<◌}
use native.Mathlib.Nat.{mul-le-mul_right}
use native.Mathlib.Omega.{arith}
use borrow.Author.Tests.{leb-true, leb-false}
use lib.Dec.{leb}

pub le_or_lt : (a b : ℕ) → (a ≤ b) ⊎ (b < a)
le_or_lt a b = by (leb a b) refl
  where
    by : (t : Bool) → leb a b ≡ t → (a ≤ b) ⊎ (b < a)
    by true e = inl (leb-true a b e)
    by false e = inr (leb-false a b e)

-- row k of m rows of n words ends within them
pub row_fits_lem : (k m n : ℕ) → k < m → k * n + n ≤ m * n
row_fits_lem k m n h = omega (arith, mul-le-mul_right n h)

-- a row of as many nodes is as wide
pub width_same : (n p c : ℕ) → p ≡ n → n * c ≡ p * c
width_same n p c e = ap (λ (k : ℕ). k * c) (sym e)

pub not_both : (t : Bool) → t ≡ true → t ≡ false → ⊥
not_both t e f = true≢false (sym e ∙ f)
