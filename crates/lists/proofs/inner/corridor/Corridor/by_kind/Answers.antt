-- The test is the definition's.
use Rattle.lists.proofs.Corridors.{told_dropped, told_plain}
use Rattle.lists.proofs.inner.corridor.Corridor.by_kind.Goals as goal

pub returns-then-self : goal.returns-then-self
returns-then-self c = search told_dropped

pub returns-else-self : goal.returns-else-self
returns-else-self c = search told_plain
