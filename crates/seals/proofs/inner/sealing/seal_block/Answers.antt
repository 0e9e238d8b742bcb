-- The words of the block, call by call.
use native.Mathlib.Omega.{arith}
use borrow.Author.Rules.{rules}
use Rattle.seals.proofs.Blocks.{sealed}
use Rattle.seals.proofs.inner.sealing.seal_block.Goals as goal

pub returns : goal.returns
returns c = sealed _ _ _ _ _ _ _ _ c.requires c.put_word.ensures c.put_word-2.ensures c.clear.ensures _ c.check_word-check.ensures c.put_word-3.ensures
    (λ i. omega (arith, c.slice_known-5-1.given i)) (search rules) (search rules)
