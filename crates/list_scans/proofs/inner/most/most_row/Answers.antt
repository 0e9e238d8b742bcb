use Rattle.std.proofs.Common.{arith}
use Rattle.tables.proofs.Grid.{placed_begun}
use Rattle.list_scans.proofs.Clear.{most_more, most_ended}
use Rattle.list_scans.proofs.inner.most.most_row.Goals as goal

pub loop-i-init : goal.loop-i-init
loop-i-init g c test corridor h = placed_begun 2 _ _ _ (omega arith)

pub loop-i-preserved : goal.loop-i-preserved
loop-i-preserved g c test corridor h =
    most_more test corridor c.loop-i.i _ _ _ _ _ _ (c.loop-i.invariant test corridor h) (omega arith) (h c.loop-i.i _ (omega arith) c.bound-bounds.ensures) c.put_two.ensures

pub returns : goal.returns
returns g c test corridor h = most_ended test corridor c.loop-i.i _ _ _ (c.loop-i.invariant test corridor h) (omega arith)
