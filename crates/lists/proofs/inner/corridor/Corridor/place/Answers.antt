-- Node i ends where the next begins, within the list, whose length fits.
use native.Mathlib.Omega.{arith}
use lib.ListN.{length}
use Rattle.lists.proofs.Corridors.{node_fits}
use Rattle.lists.proofs.inner.corridor.Corridor.place.Goals as goal

pub overflow_mul-result : goal.overflow_mul-result
overflow_mul-result c =
    let e = node_fits c.args.self.links (length c.args.self.words.now) c.args.i _ c.requires c.args.self.fits.words c.by_kind.ensures in
    omega (arith, e.0, e.1)

pub overflow_add-result : goal.overflow_add-result
overflow_add-result c =
    let e = node_fits c.args.self.links (length c.args.self.words.now) c.args.i _ c.requires c.args.self.fits.words c.by_kind.ensures in
    omega (arith, e.0, e.1)

pub returns : goal.returns
returns c = node_fits c.args.self.links (length c.args.self.words.now) c.args.i _ c.requires c.args.self.fits.words c.by_kind.ensures
