-- By what the later kind is, where it is chosen.
use Rattle.block.proofs.inner.kinds.choose.Goals as goal

pub returns-then-chosen : goal.returns-then-chosen
returns-then-chosen c = rw c.if-chosen.true c.later.ensures
