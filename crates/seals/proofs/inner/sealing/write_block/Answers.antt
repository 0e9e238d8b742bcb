-- The words are put, and then sealed.
use mathlib.Core.Path.{ap, ◌∙◌}
use lib.ListN.{length}
use Rattle.payload.proofs.Payloads.{put_length_same}
use Rattle.seals.proofs.Blocks.{block_written}
use Rattle.seals.proofs.inner.sealing.write_block.Goals as goal

pub seal_block-requires : goal.seal_block-requires
seal_block-requires c = ap length c.put.ensures.0 ∙ put_length_same c.args.block.now 0 c.args.words.now ∙ c.requires.0

pub returns : goal.returns
returns c = block_written _ _ c.args.block.now _ c.args.words.now _ c.requires.0 c.requires.1 c.put.ensures.1 c.put.ensures.0 c.seal_block.ensures
