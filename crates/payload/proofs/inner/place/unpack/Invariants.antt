-- A loop that fills the list, one run of words at a time.
use Prim.Native.Nat.{◌+◌, ◌-◌}
use lib.ListN.{length}
use Rattle.tables.proofs.Tabulate.{Filled}
use Rattle.payload.specs.File.{payload_word}
use Rattle.payload.proofs.inner.place.unpack.Given as goal

abbrev pub invariant-loop-i : goal.invariant-loop-i
invariant-loop-i l = Filled l.i (λ j. payload_word l.file (l.from + j)) l.initial.words l.words

abbrev pub decreases-loop-i : goal.decreases-loop-i
decreases-loop-i l = length l.initial.words - l.i
