use mathlib.Core.Path.{refl}
use native.Mathlib.Omega.{arith}
use lib.ListN.{length-take, length-drop}
use Rattle.tables.proofs.Grid.{rowed_begun}
use Rattle.seals.proofs.Blocks.{written_more, file_ended}
use Rattle.seals.proofs.inner.sealing.write.Goals as goal

pub loop-t-init : goal.loop-t-init
loop-t-init c = rowed_begun _ 512 _ _ (omega arith)

pub write_block-requires : goal.write_block-requires
write_block-requires c = (simp (length-take, length-drop) (omega arith), simp (length-take, length-drop) (omega arith))

pub loop-t-preserved : goal.loop-t-preserved
loop-t-preserved c =
    written_more _ _ _ _ _ _ _ _ _ _ c.loop-t.invariant (omega arith) refl refl c.words_in.ensures c.blocks_for-blocks.ensures c.write_block.ensures

pub returns : goal.returns
returns c = search file_ended
