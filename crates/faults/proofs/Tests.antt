-- Tests as facts: what a test that holds says, and what it takes to hold.
use Prim.Native.Nat.{ℕ, ◌≤◌}
use mathlib.Core.Bool.{Bool, true, false, ◌&&◌, ◌||◌, true≢false}
use mathlib.Core.Path.{◌≡◌, refl, sym, ◌∙◌}
use mathlib.Core.Logic.{◌↔◌, ◌≢◌, ◌⊎◌, inl, inr, ⊎_elim}
use borrow.Author.Tests.{leb-true, le-leb, eqb-true, eq-eqb}
use lib.Dec.{leb, eqb}
use Rattle.tables.specs.Answer.{unless}
use Rattle.tables.proofs.Answers.{unless_none}
use Rattle.road.specs.Limits.{Within}
use Rattle.faults.specs.Lists.{within, implies}

pub le_holds : (a b : ℕ) → (leb a b ≡ true) ↔ (a ≤ b)
le_holds a b = (leb-true a b, le-leb a b)

pub eq_holds : (a b : ℕ) → (eqb a b ≡ true) ↔ (a ≡ b)
eq_holds a b = (eqb-true a b, eq-eqb a b)

-- two tests, one after the other, where each says A and B
pub both_hold : {A B : Type 0} (a b : Bool) → (a ≡ true) ↔ A → (b ≡ true) ↔ B → ((a && b) ≡ true) ↔ (A × B)
both_hold true b p q = (λ e. (p.0 refl, q.0 e), λ h. q.1 h.1)
both_hold false b p q = (λ e. absurd (true≢false (sym e)), λ h. p.1 h.0)

-- one test or the other
pub one_holds : {A B : Type 0} (a b : Bool) → (a ≡ true) ↔ A → (b ≡ true) ↔ B → ((a || b) ≡ true) ↔ (A ⊎ B)
one_holds true b p q = (λ e. inl (p.0 refl), λ h. refl)
one_holds false b p q = (λ e. inr (q.0 e), ⊎_elim (λ x. absurd (true≢false (sym (p.1 x)))) (λ y. q.1 y))

-- a test that is asked only where another holds
pub implies_holds : {A B : Type 0} (a b : Bool) → (a ≡ true) ↔ A → (b ≡ true) ↔ B → (implies a b ≡ true) ↔ (A → B)
implies_holds true b p q = (λ e h. q.0 e, λ f. q.1 (f (p.0 refl)))
implies_holds false b p q = (λ e h. absurd (true≢false (sym (p.1 h))), λ f. refl)

pub within_holds : (low high x : ℕ) → (within low high x ≡ true) ↔ Within low high x
within_holds low high x =
    let r = both_hold (leb low x) (leb x high) (le_holds low x) (le_holds x high) in
    (λ e. record { above = (r.0 e).0; below = (r.0 e).1 }, λ h. r.1 (h.above, h.below))

-- no fault is found exactly where the test holds
pub no_fault : {A : Type 0} (t : Bool) (x : ℕ) → x ≢ 0 → (t ≡ true) ↔ A → (unless t x ≡ 0) ↔ A
no_fault t x h p =
    let r = unless_none t x h in
    (λ e. p.0 (r.0 e), λ a. r.1 (p.1 a))

-- ---- tests as a call answered them: t is the answer as the code has it, and x what the call ensures of it

module _ (t x : Bool) (e : t ≡ x) where
  pub told_false : t ≡ false → x ≡ false
  told_false h = sym e ∙ h

  pub told_true : t ≡ true → x ≡ true
  told_true h = sym e ∙ h
