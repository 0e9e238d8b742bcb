use Rattle.tables.proofs.Sets.{all}
use Rattle.payload.proofs.inner.place.copy_run.Goals as goal

pub returns : goal.returns
returns c = search all
