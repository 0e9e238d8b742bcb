use mathlib.Core.Path.{sym, ◌∙◌}
use native.Mathlib.Omega.{arith}
use Rattle.tables.proofs.Halving.{halving_begun, halving_up_to, halving_past, halving_ended, halving_room}
use Rattle.settings.proofs.inner.Shared.halved.Goals as goal

pub loop-more-init : goal.loop-more-init
loop-more-init c = halving_begun _ _

pub overflow_add-middle : goal.overflow_add-middle
overflow_add-middle c = record { fits = omega (arith, c.loop-more.invariant.within) }

pub overflow_add-tries : goal.overflow_add-tries
overflow_add-tries c = record { fits = omega (arith, halving_room _ _ _ _ _ c.loop-more.invariant (omega arith)) }

pub loop-more-preserved-then-tested : goal.loop-more-preserved-then-tested
loop-more-preserved-then-tested c = halving_up_to _ _ _ _ _ _ c.loop-more.invariant (omega arith) (omega arith) (sym c.tested.ensures ∙ c.if-tested.true)

pub overflow_add-low : goal.overflow_add-low
overflow_add-low c = record { fits = omega (arith, c.loop-more.invariant.within) }

pub loop-more-preserved : goal.loop-more-preserved
loop-more-preserved c = halving_past _ _ _ _ _ _ c.loop-more.invariant (omega arith) (omega arith) (sym c.tested.ensures ∙ c.if-tested.false)

pub overflow_add-result : goal.overflow_add-result
overflow_add-result c = record { fits = omega (arith, halving_room _ _ _ _ _ c.loop-more.invariant (omega arith)) }

pub returns : goal.returns
returns c = sym (halving_ended _ _ _ _ _ c.loop-more.invariant (omega arith))
