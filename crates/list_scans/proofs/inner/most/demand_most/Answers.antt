-- By the node.
use mathlib.Core.List.{[]}
use Rattle.list_scans.proofs.Clear.{demand_at_last, demand_at_entry, demand_between}
use Rattle.list_scans.proofs.inner.most.demand_most.Goals as goal

pub returns-then-i-links : goal.returns-then-i-links
returns-then-i-links c = demand_at_last [] _ _ c.if-i-links.true

pub returns-then-i-eq0 : goal.returns-then-i-eq0
returns-then-i-eq0 c = demand_at_entry [] _ _ c.if-i-links.false c.if-i-eq0.true

pub returns-else-i-eq0 : goal.returns-else-i-eq0
returns-else-i-eq0 c = demand_between [] _ _ c.if-i-links.false c.if-i-eq0.false
