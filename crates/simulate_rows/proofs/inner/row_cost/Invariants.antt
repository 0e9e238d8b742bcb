-- The sum so far, each node at most two words.
use Prim.Native.Nat.{◌+◌}
use Rattle.tables.proofs.Sum.{Summed}
use Rattle.lists.specs.Rows.{state_in}
use Rattle.simulate_rows.proofs.inner.row_cost.Given as goal

abbrev pub invariant-loop-i : goal.invariant-loop-i
invariant-loop-i l = Summed l.i (l.links + 1) 8589934590 (λ j. (state_in l.row.width l.row.words.now j).vehicles + (state_in l.row.width l.row.words.now j).queue) l.total
