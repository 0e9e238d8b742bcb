-- Laws of sums by index, and the invariant of a loop that adds.
use mathlib.Core.Path.{◌≡◌, refl, sym, ap, ◌∙◌}
use Prim.Native.Nat.{ℕ, zero, suc, ◌+◌, ◌*◌, ◌≤◌, ◌<◌}
use native.Mathlib.Nat.{add-suc, add-zero, zero-mul, suc-mul}
use native.Mathlib.Numerals.{add-one}
use native.Mathlib.Omega.{arith}
use Rattle.tables.specs.Grid.{cell}
use Rattle.tables.specs.Sum.{sum}
use Rattle.tables.proofs.Grid.{cell_at}

pub sum_none : (f : ℕ → ℕ) → sum 0 f ≡ 0
unfolding sum
sum_none f = refl

pub sum_more : (n : ℕ) (f : ℕ → ℕ) → sum (n + 1) f ≡ sum n f + f n
unfolding sum
sum_more n f = ap (λ (k : ℕ). sum k f) (add-one n)

pub sum_same : (n : ℕ) (f g : ℕ → ℕ) → ((i : ℕ) → i < n → f i ≡ g i) → sum n f ≡ sum n g
unfolding sum
sum_same zero f g h = refl
sum_same (suc n) f g h = omega (arith, sum_same n f g (λ i l. h i (omega arith)), h n (omega arith))

pub sum_bound : (n b : ℕ) (f : ℕ → ℕ) → ((i : ℕ) → i < n → f i ≤ b) → sum n f ≤ n * b
unfolding sum
sum_bound zero b f h = omega arith
sum_bound (suc n) b f h = omega (arith, sum_bound n b f (λ i l. h i (omega arith)), h n (omega arith))

pub sum_append : (n m : ℕ) (f : ℕ → ℕ) → sum (n + m) f ≡ sum n f + sum m (λ j. f (n + j))
unfolding sum
sum_append n zero f = rw (add-zero n) (omega arith)
sum_append n (suc m) f = rw (add-suc n m) (omega (arith, sum_append n m f))

-- the sum of m rows of n is the sum of the rows' sums
pub sum_grid : (m n : ℕ) (f : ℕ → ℕ → ℕ) → sum (m * n) (cell n f) ≡ sum m (λ k. sum n (f k))
unfolding sum
sum_grid zero n f = ap (λ (k : ℕ). sum k (cell n f)) (zero-mul n)
sum_grid (suc m) n f =
    ap (λ (k : ℕ). sum k (cell n f)) (suc-mul m n)
    ∙ sum_append (m * n) n (cell n f)
    ∙ omega (arith, sum_grid m n f, sum_same n (λ j. cell n f (m * n + j)) (f m) (λ i l. cell_at n f m i l))

-- ---- as a loop's invariant: s is the sum of the first i of n, each at most b

pub record Summed (i n b : ℕ) (f : ℕ → ℕ) (s : ℕ) : Type 0 where
  pub bound : i ≤ n
  pub low : s ≤ i * b
  pub is : s ≡ sum i f

pub summed_begun : (n b : ℕ) (f : ℕ → ℕ) → Summed 0 n b f 0
summed_begun n b f = record { bound = omega arith; low = omega arith; is = sym (sum_none f) }

-- v is the number as the code has it
pub summed_more : (i n b : ℕ) (f : ℕ → ℕ) (s v : ℕ) → Summed i n b f s → i < n → v ≡ f i → v ≤ b → Summed (i + 1) n b f (s + v)
summed_more i n b f s v a h e l = record { bound = omega arith; low = omega (arith, a.low); is = omega (arith, sum_more i f, a.is, e) }

pub summed_ended : (i n b : ℕ) (f : ℕ → ℕ) (s : ℕ) → Summed i n b f s → n ≤ i → s ≡ sum n f
summed_ended i n b f s a h =
    let e : i ≡ n = omega arith in
    a.is ∙ ap (λ (k : ℕ). sum k f) e
