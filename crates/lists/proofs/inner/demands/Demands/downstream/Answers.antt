-- The rows of the demands end before the words of the steps.
use Rattle.lists.proofs.Downstream.{past_rows, past_fits}
use Rattle.lists.proofs.inner.demands.Demands.downstream.Goals as goal

pub downstream_past-requires : goal.downstream_past-requires
downstream_past-requires c = search past_fits

pub returns : goal.returns
returns c = search past_rows
