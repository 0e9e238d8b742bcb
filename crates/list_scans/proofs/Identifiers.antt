-- The invariant of the loop that looks for a repeated identifier, and what it finds.
use Prim.Native.Nat.{ℕ, ◌+◌, ◌≤◌, ◌<◌}
use mathlib.Core.Bool.{Bool, true, false}
use mathlib.Core.Logic.{⊎_elim}
use mathlib.Core.Path.{◌≡◌, sym, ap, ◌∙◌}
use native.Mathlib.Nat.{not-suc-le-zero}
use native.Mathlib.Omega.{arith}
use borrow.Author.Tests.{eq-eqb, ne_eqb}
use lib.Dec.{eqb}
use Rattle.tables.specs.Least.{least}
use Rattle.tables.proofs.Least.{least_below, least_is}
use Rattle.tables.proofs.Numbers.{le_or_lt, not_both}
use Rattle.list_scans.specs.Refusals.{fresh}

-- as a loop's invariant: none of the first j nodes has the identifier of node i
pub record Unseen (j i : ℕ) (identifier : ℕ → ℕ) : Type 0 where
  pub bound : j ≤ i
  pub other : (y : ℕ) → y < j → eqb (identifier y) (identifier i) ≡ false

pub unseen_begun : (i : ℕ) (identifier : ℕ → ℕ) → Unseen 0 i identifier
unseen_begun i identifier = record { bound = omega arith; other = λ y h. absurd (not-suc-le-zero h) }

-- one more node has another identifier: x is that of node j as the code has it, and own that of node i
pub unseen_more : (j i x own : ℕ) (identifier : ℕ → ℕ) → Unseen j i identifier → j < i → x ≡ identifier j → own ≡ identifier i → (x ≡ own → ⊥)
    → Unseen (j + 1) i identifier
unseen_more j i x own identifier u h a b n =
    record {
      bound = omega arith;
      other = λ y l. ⊎_elim
          (λ (s : j ≤ y). let e : y ≡ j = omega arith in ne_eqb _ _ (λ q. n (a ∙ ap identifier (sym e) ∙ q ∙ sym b)))
          (λ (s : y < j). u.other y s)
          (le_or_lt j y);
    }

pub unseen_ended : (j i : ℕ) (identifier : ℕ → ℕ) → Unseen j i identifier → i ≤ j → true ≡ fresh identifier i
unfolding fresh
unseen_ended j i identifier u h =
    let e : i ≡ least (λ y. eqb (identifier y) (identifier i)) i =
    least_is (λ y. eqb (identifier y) (identifier i)) i i (omega arith) (λ y l. u.other y (omega arith)) (λ l. absurd (omega arith)) in
    sym (eq-eqb _ _ (sym e))

-- node j before node i has its identifier
pub repeated : (j i x own : ℕ) (identifier : ℕ → ℕ) → j < i → x ≡ identifier j → own ≡ identifier i → x ≡ own → false ≡ fresh identifier i
unfolding fresh
repeated j i x own identifier h a b e =
    let p : ℕ → Bool = λ y. eqb (identifier y) (identifier i) in
    let t : p j ≡ true = eq-eqb _ _ (sym a ∙ e ∙ b) in
    sym (ne_eqb _ _ (λ (q : least p i ≡ i). not_both (p j) t (least_below p i j (omega arith))))
