-- No word above its bound, no fault.
use mathlib.Core.List.{[]}
use mathlib.Core.Path.{sym, ap, ◌∙◌}
use native.Mathlib.Omega.{arith}
use lib.ListN.{length}
use Rattle.list_scans.specs.Scans.{Demand, ReadsRow}
use Rattle.list_scans.proofs.Clear.{clear_accepts, most_length}
use Rattle.list_scans.proofs.inner.demand_row.Goals as goal

pub row_within-requires : goal.row_within-requires
row_within-requires c = c.requires.small.2 ∙ sym (ap length c.requires.bounds ∙ most_length Demand [] c.args.links)

pub returns-then-row_within : goal.returns-then-row_within
unfolding ReadsRow
returns-then-row_within c =
    clear_accepts Demand [] _ _ _ _ _ tt c.requires.small.2 c.requires.bounds
    (record { words = c.row_within.ensures c.if-row_within.true; beyond = omega arith })
