-- A loop that writes a block at a time.
use Rattle.tables.proofs.Grid.{Rowed}
use Rattle.seals.proofs.Blocks.{file_byte}
use Rattle.seals.proofs.inner.sealing.write.Given as goal

abbrev pub invariant-loop-t : goal.invariant-loop-t
invariant-loop-t l = Rowed l.t l.blocks 512 (file_byte l.kind l.words) l.initial.file l.file
