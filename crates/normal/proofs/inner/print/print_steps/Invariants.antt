-- The bytes so far, at most 8,320 for a step; and a failure told before the loop is told.
use mathlib.Core.Bool.{true}
use mathlib.Core.Path.{◌≡◌}
use lib.ListN.{length}
use Rattle.tables.proofs.Sum.{Summed}
use Rattle.printed.specs.Text.{step_text}
use Rattle.normal.proofs.inner.print.print_steps.Given as goal

abbrev pub invariant-loop-k : goal.invariant-loop-k
invariant-loop-k l = Summed l.k l.steps 8320 (λ j. length (step_text l.input j)) l.bytes × (l.initial.failed ≡ true → l.failed ≡ true)
