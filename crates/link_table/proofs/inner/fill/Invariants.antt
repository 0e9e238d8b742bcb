-- The first i nodes are filled.
use Rattle.link_table.proofs.Table.{Tabled}
use Rattle.link_table.proofs.inner.fill.Given as goal

abbrev pub invariant-loop-i : goal.invariant-loop-i
invariant-loop-i l = Tabled l.i l.corridor.links l.corridor.words.now l.initial.table l.table
