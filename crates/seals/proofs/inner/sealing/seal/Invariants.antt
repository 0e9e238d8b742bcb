-- A loop that seals a block at a time.
use Rattle.tables.proofs.Grid.{Rowed}
use Rattle.payload.specs.File.{payload_of}
use Rattle.seals.proofs.Blocks.{file_byte}
use Rattle.seals.proofs.inner.sealing.seal.Given as goal

abbrev pub invariant-loop-t : goal.invariant-loop-t
invariant-loop-t l = Rowed l.t l.blocks 512 (file_byte l.kind (payload_of l.m l.initial.file)) l.initial.file l.file
