-- N and K are tested first, then the corridor, then the demands.
use mathlib.Core.Bool.{true≢false}
use mathlib.Core.Path.{sym, ◌∙◌}
use Rattle.lengths.proofs.Sizes.{range_fails, corridor_fails, demands_decide}
use Rattle.lengths.proofs.inner.lengths_fit.Goals.{then-in_range, else-in_range}
use Rattle.lengths.proofs.inner.lengths_fit.Goals as goal

pub returns-then-corridor_sized : goal.returns-then-corridor_sized
returns-then-corridor_sized c =
    elim c.if-in_range.branch [
      | then-in_range w ↦ demands_decide _ _ _ _ _ c.in_range.ensures _ _ w.if-in_range.true w.corridor_sized.ensures (sym w.value-is ∙ c.if-corridor_sized.true) c.demands_sized.ensures
      | else-in_range w ↦ absurd (true≢false (sym c.if-corridor_sized.true ∙ w.value-is ∙ w.if-in_range.false))
    ]

pub returns-else-corridor_sized : goal.returns-else-corridor_sized
returns-else-corridor_sized c =
    elim c.if-in_range.branch [
      | then-in_range w ↦
          c.if-corridor_sized.false ∙ corridor_fails _ _ _ _ _ c.in_range.ensures _ w.if-in_range.true w.corridor_sized.ensures (sym w.value-is ∙ c.if-corridor_sized.false)
      | else-in_range w ↦ c.if-corridor_sized.false ∙ range_fails _ _ _ _ _ c.in_range.ensures w.if-in_range.false
    ]
