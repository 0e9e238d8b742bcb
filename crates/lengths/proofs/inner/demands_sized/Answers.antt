-- Each test picks the case of `◌||◌`.
use mathlib.Core.Path.{◌∙◌}
use borrow.Author.Tests.{eq-eqb}
use Rattle.lengths.proofs.Sizes.{short_sized, long_sized}
use Rattle.lengths.proofs.inner.demands_sized.Goals as goal

pub returns-then-count-short : goal.returns-then-count-short
returns-then-count-short c = eq-eqb _ _ c.if-count-short.true ∙ short_sized _ _ _ _ c.table_length-short.ensures c.if-count-short.true

pub returns-else-count-short : goal.returns-else-count-short
returns-else-count-short c = long_sized _ _ _ _ c.table_length-short.ensures c.if-count-short.false
