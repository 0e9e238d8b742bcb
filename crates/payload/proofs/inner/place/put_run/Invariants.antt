-- A loop that puts a word at a time.
use Rattle.payload.proofs.Payloads.{Put}
use Rattle.payload.proofs.inner.place.put_run.Given as goal

abbrev pub invariant-loop-q : goal.invariant-loop-q
invariant-loop-q l = Put l.q l.initial.file l.j l.words l.file
