-- By the scan of the plan.
use mathlib.Core.Path.{ap, ◌∙◌}
use Prim.Native.Nat.{ℕ}
use mathlib.Core.List.{List}
use Rattle.list_scans.specs.Scans.{plan_refusal}
use Rattle.list_scans.proofs.Scans.{bounds_are}
use Rattle.lengths.proofs.Sizes.{steps_few, plan_length_as}
use Rattle.list_scans.proofs.inner.bounds.Goals as goal

pub scan_plan-requires : goal.scan_plan-requires
scan_plan-requires c =
    (steps_few _ _ _ c.requires.sizes_fit c.steps_of.ensures, plan_length_as _ _ _ _ _ c.requires.plan_len c.sized_corridor-corridor.ensures.1 c.steps_of.ensures)

pub returns : goal.returns
returns c =
    bounds_are _ _ _ _ _ _ c.sized_corridor-corridor.ensures.1 c.steps_of.ensures
    (c.scan_plan.ensures
    ∙ ap (λ (corridor : List ℕ). plan_refusal corridor c.sized_corridor-corridor.result.links c.steps_of.result c.args.plan.now) c.sized_corridor-corridor.ensures.0)
