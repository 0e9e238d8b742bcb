-- 65 nodes at most, of at most 5 words.
use Prim.Native.Nat.{ℕ, suc, ◌*◌, ◌≤◌}
use native.Mathlib.Nat.{mul-le-mul}
use native.Mathlib.Omega.{arith}
use Rattle.lists.specs.Words.{Width}
use Rattle.lists.proofs.inner.rows.state_words.Goals as goal

fits : (links width : ℕ) → links ≤ 64 → Width width → suc links * width ≤ 325
fits links width h w = let few : suc links ≤ 65 = omega arith in omega (arith, mul-le-mul few w.most)

pub overflow_mul-result : goal.overflow_mul-result
overflow_mul-result c = omega (arith, fits c.args.links c.args.width c.requires.0 c.requires.1)

pub returns : goal.returns
returns c = omega (arith, fits c.args.links c.args.width c.requires.0 c.requires.1)
