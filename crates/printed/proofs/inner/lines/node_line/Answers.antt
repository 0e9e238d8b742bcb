-- The setting that is matched picks the limit and the letter.
use mathlib.Core.Path.{ap}
use Rattle.road.specs.Corridor.{Link}
use Rattle.printed.proofs.Text.{full_line, held_line}
use Rattle.printed.proofs.inner.lines.node_line.Goals as goal

pub returns-in-Full : goal.returns-in-Full
returns-in-Full c =
    full_line _ _ _ _ _ _ c.identifier-identifier.ensures _ c.in-Full.is _ (ap (λ (x : Link). x.full_speed) c.link.ensures) c.fields_line.ensures

pub returns-in-Held : goal.returns-in-Held
returns-in-Held c = held_line _ _ _ _ _ _ c.identifier-identifier.ensures _ _ c.in-Held.is c.fields_line-in-Held.ensures
