-- `low` and `more` above it are left, and `tries` were tried.
use Rattle.tables.proofs.Halving.{Halving}
use Rattle.settings.specs.Tested.{tested}
use Rattle.settings.proofs.inner.Shared.halved.Given as goal

abbrev pub invariant-loop-more : goal.invariant-loop-more
invariant-loop-more l = Halving (tested l.self.sent l.self.beside l.self.supply l.self.most l.self.main l.self.ramp) l.top l.low l.more l.tries

abbrev pub decreases-loop-more : goal.decreases-loop-more
decreases-loop-more l = l.more
