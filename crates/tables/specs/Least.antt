-- The least number that passes a test.
use Rattle.std.specs.Prelude.{Bool, cond, ℕ, zero, suc}

-- the least of x, .. x + m - 1 that passes p, and x + m where none does
unfoldable pub least_from : (ℕ → Bool) → ℕ → ℕ → ℕ
least_from p x zero = x
least_from p x (suc m) = cond (p x) x (least_from p (suc x) m)

-- the least number below m that passes p, and m where none does
abbrev pub least : (ℕ → Bool) → ℕ → ℕ
least p m = least_from p 0 m
