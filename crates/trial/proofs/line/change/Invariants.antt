-- No more words are told than places were gone through.
use Rattle.std.proofs.Common.{◌≤◌}
use Rattle.trial.proofs.line.change.Given as goal

abbrev pub invariant-loop-at : goal.invariant-loop-at
invariant-loop-at l = l.next ≤ l.at
