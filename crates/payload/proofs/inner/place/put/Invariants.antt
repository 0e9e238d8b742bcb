-- A loop that puts one run of words at a time.
use Prim.Native.Nat.{◌-◌}
use lib.ListN.{length}
use Rattle.payload.proofs.Payloads.{Put}
use Rattle.payload.proofs.inner.place.put.Given as goal

abbrev pub invariant-loop-i : goal.invariant-loop-i
invariant-loop-i l = Put l.i l.initial.file l.from l.words l.file

abbrev pub decreases-loop-i : goal.decreases-loop-i
decreases-loop-i l = length l.words - l.i
