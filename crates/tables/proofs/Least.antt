-- Laws of the least number that passes a test, and the invariant of a loop that halves to find it.
use mathlib.Core.Bool.{Bool, true, false, cond}
use mathlib.Core.Logic.{◌⊎◌, inl, inr, ⊎_elim}
use mathlib.Core.Path.{◌≡◌, refl, sym, subst, ◌∙◌}
use Prim.Native.Nat.{ℕ, zero, suc, ◌+◌, ◌≤◌, ◌<◌}
use native.Mathlib.Nat.{not-suc-le-zero}
use native.Mathlib.Omega.{arith}
use Rattle.tables.specs.Least.{least_from, least}
use Rattle.tables.proofs.Numbers.{le_or_lt, not_both}

-- what `least_from p x m` is
record From (p : ℕ → Bool) (x m r : ℕ) : Type 0 where
  low : x ≤ r
  high : r ≤ x + m
  none : (y : ℕ) → x ≤ y → y < r → p y ≡ false
  some : r < x + m → p r ≡ true

from_is : (p : ℕ → Bool) (x m : ℕ) → From p x m (least_from p x m)
unfolding least_from
from_is p x zero = record { low = omega arith; high = omega arith; none = λ y a b. absurd (omega arith); some = λ h. absurd (omega arith) }
from_is p x (suc m) = by (p x) refl (from_is p (suc x) m)
  where
    by : (t : Bool) → p x ≡ t → From p (suc x) m (least_from p (suc x) m) → From p x (suc m) (cond t x (least_from p (suc x) m))
    by true e f = record { low = omega arith; high = omega arith; none = λ y a b. absurd (omega arith); some = λ h. e }
    by false e f =
        record {
          low = omega (arith, f.low);
          high = omega (arith, f.high);
          none = λ y a b. ⊎_elim (λ (h : suc x ≤ y). f.none y h b)
              (λ (h : y < suc x). let q : x ≡ y = omega arith in subst (λ (z : ℕ). p z ≡ false) q e)
              (le_or_lt (suc x) y);
          some = λ h. f.some (omega arith);
        }

pub least_bound : (p : ℕ → Bool) (m : ℕ) → least p m ≤ m
least_bound p m = omega (arith, (from_is p 0 m).high)

pub least_below : (p : ℕ → Bool) (m y : ℕ) → y < least p m → p y ≡ false
least_below p m y h = (from_is p 0 m).none y (omega arith) h

pub least_passes : (p : ℕ → Bool) (m : ℕ) → least p m < m → p (least p m) ≡ true
least_passes p m h = (from_is p 0 m).some (omega arith)

-- no other number is the least
pub least_is : (p : ℕ → Bool) (m x : ℕ) → x ≤ m → ((y : ℕ) → y < x → p y ≡ false) → (x < m → p x ≡ true) → x ≡ least p m
least_is p m x b none some =
    ⊎_elim
    (λ (h : x ≤ least p m).
    ⊎_elim (λ (g : least p m ≤ x). omega arith)
    (λ (g : x < least p m). absurd (not_both (p x) (some (omega (arith, least_bound p m))) (least_below p m x g)))
    (le_or_lt (least p m) x))
    (λ (h : least p m < x). absurd (not_both (p (least p m)) (least_passes p m (omega arith)) (none (least p m) h)))
    (le_or_lt x (least p m))

-- tests that agree below m have one least number
pub least_same : (p q : ℕ → Bool) (m : ℕ) → ((y : ℕ) → y < m → p y ≡ q y) → least p m ≡ least q m
least_same p q m e =
    least_is q m (least p m) (least_bound p m)
    (λ y h. sym (e y (omega (arith, least_bound p m))) ∙ least_below p m y h)
    (λ h. sym (e (least p m) h) ∙ least_passes p m h)

-- where the least below c, or c, does not pass, none of 0..c does
pub least_fails : (p : ℕ → Bool) (c : ℕ) → p (least p c) ≡ false → (x : ℕ) → x ≤ c → p x ≡ false
least_fails p c e x h =
    ⊎_elim
    (λ (l : c ≤ least p c).
    ⊎_elim (λ (g : c ≤ x). let q : least p c ≡ x = omega (arith, least_bound p c) in subst (λ (y : ℕ). p y ≡ false) q e)
    (λ (g : x < c). least_below p c x (omega arith))
    (le_or_lt c x))
    (λ (l : least p c < c). absurd (not_both (p (least p c)) (least_passes p c l) e))
    (le_or_lt c (least p c))

-- ---- halving, for a test that, once it holds, holds for every larger number

abbrev pub Upward : (ℕ → Bool) → Type 0
Upward q = (x y : ℕ) → x ≤ y → q x ≡ true → q y ≡ true

-- as a loop's invariant: the least number below c that passes q, or c, lies from lo to hi
pub record Bracket (q : ℕ → Bool) (c lo hi : ℕ) : Type 0 where
  pub ordered : lo ≤ hi
  pub within : hi ≤ c
  pub below : (y : ℕ) → y < lo → q y ≡ false
  pub above : (hi ≡ c) ⊎ (q hi ≡ true)

pub bracket_begun : (q : ℕ → Bool) (c : ℕ) → Bracket q c 0 c
bracket_begun q c = record { ordered = omega arith; within = omega arith; below = λ y h. absurd (not-suc-le-zero h); above = inl refl }

-- the numbers up to m are kept
pub bracket_up_to : (q : ℕ → Bool) (c lo hi m : ℕ) → Bracket q c lo hi → lo ≤ m → m < hi → q m ≡ true → Bracket q c lo m
bracket_up_to q c lo hi m b l h e = record { ordered = l; within = omega (arith, b.within); below = b.below; above = inr e }

-- the numbers above m are kept
pub bracket_past : (q : ℕ → Bool) (c lo hi m : ℕ) → Upward q → Bracket q c lo hi → lo ≤ m → m < hi → q m ≡ false → Bracket q c (m + 1) hi
bracket_past q c lo hi m up b l h e =
    record { ordered = omega arith; within = b.within; below = λ y g. fails (q y) refl (omega arith); above = b.above }
  where
    fails : {y : ℕ} (t : Bool) → q y ≡ t → y ≤ m → q y ≡ false
    fails {y} true s g = absurd (not_both (q m) (up y m g s) e)
    fails false s g = s

pub bracket_ended : (q : ℕ → Bool) (c lo hi : ℕ) → Bracket q c lo hi → hi ≤ lo → lo ≡ least q c
bracket_ended q c lo hi b h =
    let e : hi ≡ lo = omega (arith, b.ordered) in
    least_is q c lo (omega (arith, b.within)) b.below
    (λ l. ⊎_elim (λ (s : hi ≡ c). absurd (omega arith)) (λ s. subst (λ (z : ℕ). q z ≡ true) e s) b.above)

-- ---- the least number that passes p, found by halving with a test q that p's numbers pass

pub record Searchable (p q : ℕ → Bool) : Type 0 where
  pub implied : (x : ℕ) → p x ≡ true → q x ≡ true
  pub upward : Upward q
  pub between : (x y : ℕ) → x ≤ y → q x ≡ true → p y ≡ true → p x ≡ true

module _ (p q : ℕ → Bool) (c : ℕ) (s : Searchable p q) where
  pub searched_passes : p (least q c) ≡ true → least p c ≡ least q c
  searched_passes e =
      sym (least_is p c (least q c) (least_bound q c) (λ y h. fails y (p y) refl (least_below q c y h)) (λ h. e))
    where
      fails : (y : ℕ) (t : Bool) → p y ≡ t → q y ≡ false → p y ≡ false
      fails y true a b = absurd (not_both (q y) (s.implied y a) b)
      fails y false a b = a

  pub searched_fails : p (least q c) ≡ false → (y : ℕ) → y ≤ c → p y ≡ false
  searched_fails e y h = by (p y) refl
    where
      by : (t : Bool) → p y ≡ t → p y ≡ false
      by false a = a
      by true a =
          ⊎_elim
          (λ (l : least q c ≤ y).
          ⊎_elim
          (λ (g : c ≤ least q c). let t : least q c ≡ y = omega arith in subst (λ (x : ℕ). p x ≡ false) t e)
          (λ (g : least q c < c). absurd (not_both (p (least q c)) (s.between (least q c) y l (least_passes q c g) a) e))
          (le_or_lt c (least q c)))
          (λ (l : y < least q c). absurd (not_both (q y) (s.implied y a) (least_below q c y l)))
          (le_or_lt (least q c) y)
