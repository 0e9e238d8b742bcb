-- Each test picks the case of `◌||◌`.
use mathlib.Core.Path.{◌∙◌}
use borrow.Author.Tests.{eq-eqb}
use Rattle.lengths.proofs.Sizes.{plain_sized, dropped_sized}
use Rattle.lengths.proofs.inner.corridor_sized.Goals as goal

pub returns-then-count-nodes : goal.returns-then-count-nodes
returns-then-count-nodes c = eq-eqb _ _ c.if-count-nodes.true ∙ plain_sized _ _ c.if-count-nodes.true

pub returns-else-count-nodes : goal.returns-else-count-nodes
returns-else-count-nodes c = search dropped_sized
