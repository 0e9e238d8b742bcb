-- 1,441 rows at most, of at most 325 words.
use Prim.Native.Nat.{ℕ, suc, ◌+◌, ◌*◌, ◌≤◌}
use mathlib.Core.Path.{◌≡◌, ap}
use native.Mathlib.Nat.{mul-le-mul}
use native.Mathlib.Omega.{arith}
use Rattle.lengths.proofs.inner.record_length.Goals as goal

few : (steps w r : ℕ) → steps ≤ 1440 → w ≤ 325 → r ≡ (steps + 1) * w → r ≤ 468325
few steps w r h b e = let a : steps + 1 ≤ 1441 = omega arith in omega (arith, mul-le-mul a b)

is : (steps w n r : ℕ) → w ≡ n → r ≡ (steps + 1) * w → r + 2 ≡ suc steps * n + 2
is steps w n r e h = omega (arith, ap (λ (x : ℕ). (steps + 1) * x) e)

pub overflow_add-result : goal.overflow_add-result
overflow_add-result c = omega (arith, few _ _ _ c.requires.1 c.state_words.ensures.1 c.table_length.ensures)

pub returns : goal.returns
returns c = is _ _ _ _ c.state_words.ensures.0 c.table_length.ensures
