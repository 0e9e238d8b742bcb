-- The product is at least 1 and at most that of the greatest rows and nodes.
use mathlib.Core.Path.{refl}
use native.Mathlib.Omega.{arith}
use native.Mathlib.Nat.{mul-le-mul}
use Rattle.block.proofs.Calls.{words_low, words_high}
use Rattle.block.proofs.inner.kinds.row_words.Goals as goal

pub overflow_mul-result : goal.overflow_mul-result
overflow_mul-result c = let a = c.args in let p = c.requires in omega (arith, mul-le-mul p.3 p.5)

pub overflow_mul-result-2 : goal.overflow_mul-result-2
overflow_mul-result-2 c = let a = c.args in let p = c.requires in omega (arith, words_high a.rows a.nodes a.c 5 p.1 p.3 p.5)

pub returns : goal.returns
returns c = let a = c.args in let p = c.requires in (refl, words_low a.rows a.nodes a.c p.0 p.2 p.4, words_high a.rows a.nodes a.c a.c p.1 p.3 (omega arith))
