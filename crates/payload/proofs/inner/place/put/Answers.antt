use borrow.Author.Rules.{rules}
use native.Mathlib.Omega.{arith}
use lib.ListN.{length-take, length-drop}
use Rattle.payload.proofs.Payloads.{put_begun, put_runs, put_ended}
use Rattle.payload.proofs.inner.place.put.Goals as goal

pub loop-i-init : goal.loop-i-init
loop-i-init c = search put_begun

pub put_run-requires : goal.put_run-requires
put_run-requires c = let r = c.run_of.ensures in
    let l = c.loop-i.invariant in
    (simp (length-take, length-drop) (omega (arith, r.1, r.2)), simp (length-take, length-drop) (omega (arith, r.1, r.2, l.same)))

pub loop-i-preserved : goal.loop-i-preserved
loop-i-preserved c = let n = c.run_of.ensures in
    let l = c.loop-i.invariant in
    put_runs _ _ _ _ _ _ _ l (omega (arith, n.1, l.bound)) c.put_run.ensures

pub returns : goal.returns
returns c = (search put_ended, λ i. search rules)
