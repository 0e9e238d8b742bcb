-- The bytes so far, at most 128 for a node; and a failure told before the loop is told.
use mathlib.Core.Bool.{true}
use mathlib.Core.Path.{◌≡◌}
use lib.ListN.{length}
use Rattle.tables.proofs.Sum.{Summed}
use Rattle.printed.specs.Text.{plan_line}
use Rattle.normal.proofs.inner.print.print_step.Given as goal

abbrev pub invariant-loop-i : goal.invariant-loop-i
invariant-loop-i l = Summed l.i l.nodes 128 (λ j. length (plan_line l.input l.k j)) l.bytes × (l.initial.failed ≡ true → l.failed ≡ true)
