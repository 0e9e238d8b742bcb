use mathlib.Core.Path.{sym}
use borrow.Author.Rules.{rules}
use native.Mathlib.Omega.{arith}
use Rattle.link_table.proofs.Table.{tabled_begun, tabled_more, tabled_room, tabled_ended}
use Rattle.link_table.proofs.inner.fill.Goals as goal

pub loop-i-init : goal.loop-i-init
loop-i-init c = search (tabled_begun, rules)

pub put_link-requires : goal.put_link-requires
put_link-requires c = search (tabled_room, rules)

pub loop-i-preserved : goal.loop-i-preserved
loop-i-preserved c = tabled_more c.loop-i.i _ _ _ _ _ _ _ c.loop-i.invariant (omega arith) c.link.ensures c.ramp.ensures c.put_link.ensures

pub shape_of-table : goal.shape_of-table
shape_of-table c = sym c.loop-i.invariant.is.same

pub returns : goal.returns
returns c = search (tabled_ended, rules)
