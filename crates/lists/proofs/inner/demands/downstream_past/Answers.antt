-- A list that ends before the word gives 65,536.
use Rattle.lists.proofs.Downstream.{past_there, past_missing}
use Rattle.lists.proofs.inner.demands.downstream_past.Goals as goal

pub returns-then-k-list : goal.returns-then-k-list
returns-then-k-list c = search past_there

pub returns : goal.returns
returns c = search past_missing
