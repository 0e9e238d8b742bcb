-- Each node before i has the two words of its setting.
use Prim.Native.Nat.{◌+◌}
use Rattle.tables.proofs.Grid.{Placed}
use Rattle.convert_rows.specs.Rows.{setting_word}
use Rattle.convert_rows.proofs.inner.plans.plan_row.Given as goal

abbrev pub invariant-loop-i : goal.invariant-loop-i
invariant-loop-i l =
    Placed 2 l.i (l.corridor.links + 1) (setting_word l.row.width l.corridor.words.now l.demand.row.now l.demand.downstream.0 l.row.words.now)
    l.initial.out l.out
