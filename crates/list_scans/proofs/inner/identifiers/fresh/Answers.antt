use Rattle.list_scans.proofs.Identifiers.{unseen_begun, unseen_more, unseen_ended, repeated}
use Rattle.list_scans.proofs.inner.identifiers.fresh.Goals as goal

pub loop-j-init : goal.loop-j-init
loop-j-init c = search unseen_begun

pub returns-then-identifier-own : goal.returns-then-identifier-own
returns-then-identifier-own c = search repeated

pub loop-j-preserved : goal.loop-j-preserved
loop-j-preserved c = search unseen_more

pub returns : goal.returns
returns c = search unseen_ended
