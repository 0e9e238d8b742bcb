-- Below N the next link receives within its jam, and node N has a supply of its own.
use Rattle.lists.proofs.Rows.{supply_next, supply_ends}
use Rattle.lists.proofs.inner.corridor.Corridor.supply.Goals as goal

pub returns-then-i-self : goal.returns-then-i-self
returns-then-i-self c = λ demand. supply_next _ _ _ demand _ _ _ _ _ _ c.args.self.fits.first c.if-i-self.true c.link.ensures c.state.ensures c.receiving.ensures

pub returns : goal.returns
returns c = λ demand. supply_ends _ _ _ demand _ _ _ c.args.self.fits.first c.requires.i_le_links c.if-i-self.false
