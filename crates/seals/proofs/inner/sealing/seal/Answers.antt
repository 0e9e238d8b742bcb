use native.Mathlib.Omega.{arith}
use lib.ListN.{length-take, length-drop}
use Rattle.tables.proofs.Grid.{rowed_begun}
use Rattle.seals.proofs.Blocks.{blocks_more, blocks_ended}
use Rattle.seals.proofs.inner.sealing.seal.Goals as goal

pub loop-t-init : goal.loop-t-init
loop-t-init c = rowed_begun _ 512 _ _ (omega arith)

pub seal_block-requires : goal.seal_block-requires
seal_block-requires c = simp (length-take, length-drop) (omega arith)

pub loop-t-preserved : goal.loop-t-preserved
loop-t-preserved c = search blocks_more

pub returns : goal.returns
returns c = search blocks_ended
