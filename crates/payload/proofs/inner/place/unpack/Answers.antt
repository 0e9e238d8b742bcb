use mathlib.Core.Path.{refl}
use native.Mathlib.Omega.{arith}
use lib.ListN.{length-take, length-drop}
use Rattle.tables.proofs.Sets.{all}
use Rattle.payload.proofs.Payloads.{run_fits, unpack_more}
use Rattle.payload.proofs.inner.place.unpack.Goals as goal

pub copy_run-requires : goal.copy_run-requires
copy_run-requires c =
    let n = c.run_of.ensures in
    run_fits _ _ _ _ _ _ _ c.requires n.0 (omega (arith, n.1, c.loop-i.invariant.same)) n.2 refl
    (simp (length-take, length-drop) (omega (arith, n.1, c.loop-i.invariant.same)))

pub loop-i-preserved : goal.loop-i-preserved
loop-i-preserved c = let n = c.run_of.ensures in
    let l = c.loop-i.invariant in
    unpack_more _ _ _ _ _ _ _ _ _ l c.copy_run.ensures (omega (arith, n.1, l.same)) n.2 refl (simp (length-take, length-drop) (omega (arith, n.1, l.same)))

pub returns : goal.returns
returns c = search all
