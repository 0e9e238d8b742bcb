use native.Mathlib.Omega.{arith}
use Rattle.payload.proofs.Payloads.{put_begun, run_more, put_ended}
use Rattle.payload.proofs.inner.place.put_run.Goals as goal

pub loop-q-init : goal.loop-q-init
loop-q-init c = search put_begun

pub loop-q-preserved : goal.loop-q-preserved
loop-q-preserved c = run_more _ _ _ _ _ _ _ c.loop-q.invariant (omega arith) c.requires.0 (omega arith) c.put_word.ensures

pub returns : goal.returns
returns c = search put_ended
