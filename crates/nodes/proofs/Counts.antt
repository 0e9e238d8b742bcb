-- How many nodes a corridor has, and what is given on where there are as many or not.
use mathlib.Core.Path.{◌≡◌}
use mathlib.Core.Logic.{◌⊎◌, inl, inr, ⊎_elim}
use Prim.Native.Nat.{ℕ, ◌≤◌, ◌<◌}
use Rattle.tables.proofs.Numbers.{le_or_lt}

-- no corridor has as many nodes, or one has
pub none_or_all : (n : ℕ) → ((n < 2) ⊎ (65 < n)) ⊎ ((2 ≤ n) × (n ≤ 65))
none_or_all n =
    ⊎_elim
    (λ (h : 2 ≤ n).
    ⊎_elim
    (λ (k : n ≤ 65). inr (h, k))
    (λ (k : 65 < n). inl (inr k))
    (le_or_lt n 65))
    (λ (h : n < 2). inl (inl h))
    (le_or_lt 2 n)
