-- Each test decides one part of `simulate_sizes`.
use mathlib.Core.Bool.{true≢false}
use mathlib.Core.Path.{sym, ◌∙◌}
use Rattle.simulate.proofs.Answers.{few, sizes_fail, plan_fails, record_decides}
use Rattle.simulate.proofs.inner.answer.fits.Goals.{then-sizes, else-sizes}
use Rattle.simulate.proofs.inner.answer.fits.Goals as goal

pub plan_length-requires : goal.plan_length-requires
plan_length-requires c = few _ _ _ _ _ c.sizes.ensures c.if-sizes.true c.links_of-links.ensures c.steps_of-steps.ensures

pub record_sized-requires : goal.record_sized-requires
record_sized-requires c =
    elim c.if-sizes.branch [
      | then-sizes w ↦ few _ _ _ _ _ c.sizes.ensures w.if-sizes.true c.links_of-links.ensures c.steps_of-steps.ensures
      | else-sizes w ↦ absurd (true≢false (sym c.if-plan-plan_length.true ∙ w.value-is ∙ w.if-sizes.false))
    ]

pub returns-then-plan-plan_length : goal.returns-then-plan-plan_length
returns-then-plan-plan_length c =
    elim c.if-sizes.branch [
      | then-sizes w ↦ record_decides _ _ _ _ _ c.sizes.ensures w.if-sizes.true _ _ c.links_of-links.ensures c.steps_of-steps.ensures _ _
          w.plan_length.ensures (sym w.value-is ∙ c.if-plan-plan_length.true) c.record_sized.ensures
      | else-sizes w ↦ absurd (true≢false (sym c.if-plan-plan_length.true ∙ w.value-is ∙ w.if-sizes.false))
    ]

pub returns-else-plan-plan_length : goal.returns-else-plan-plan_length
returns-else-plan-plan_length c =
    c.if-plan-plan_length.false
    ∙ elim c.if-sizes.branch [
      | then-sizes w ↦ plan_fails _ _ _ _ _ c.sizes.ensures w.if-sizes.true _ _ c.links_of-links.ensures c.steps_of-steps.ensures _
          w.plan_length.ensures (sym w.value-is ∙ c.if-plan-plan_length.false)
      | else-sizes w ↦ sizes_fail _ _ _ _ _ c.sizes.ensures w.if-sizes.false
    ]
