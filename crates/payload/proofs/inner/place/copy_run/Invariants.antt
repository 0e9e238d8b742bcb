-- A loop that fills the list.
use Prim.Native.Nat.{◌+◌}
use Rattle.tables.proofs.Tabulate.{Filled}
use Rattle.payload.specs.Word.{word_at}
use Rattle.payload.proofs.inner.place.copy_run.Given as goal

abbrev pub invariant-loop-q : goal.invariant-loop-q
invariant-loop-q l = Filled l.q (λ k. word_at l.file (l.first + k)) l.initial.words l.words
