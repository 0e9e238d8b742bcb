-- By the link and the vehicles that are read.
use mathlib.Core.Path.{ap, ap₂, ◌∙◌}
use native.Mathlib.Omega.{arith}
use Rattle.road.specs.Corridor.{Link}
use Rattle.road.specs.Step.{receiving}
use Rattle.lists.specs.Rows.{state_in}
use Rattle.link_table.proofs.inner.receiving_at.Goals as goal

pub receiving-requires : goal.receiving-requires
unfolding state_in
receiving-requires c = omega (arith, c.requires.jam_kept, ap (λ (x : Link). x.jam) c.link_at-link.ensures, c.word.ensures)

pub returns : goal.returns
unfolding state_in
returns c = c.receiving.ensures ∙ ap₂ receiving c.link_at-link.ensures c.word.ensures
