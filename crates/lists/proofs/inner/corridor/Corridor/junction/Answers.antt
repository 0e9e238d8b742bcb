-- By what each part ensures.
use Rattle.road.specs.Run.{junction}
use Rattle.lists.specs.Rows.{step_road}
use Rattle.lists.proofs.inner.corridor.Corridor.junction.Goals as goal

pub returns : goal.returns
unfolding junction step_road
returns c = simp (c.link.ensures, c.ramp.ensures, c.state.ensures, c.split.ensures, c.supply.ensures c.args.demand.row.now)
