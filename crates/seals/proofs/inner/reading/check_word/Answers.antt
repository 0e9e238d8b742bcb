use mathlib.Core.Path.{◌∙◌}
use native.Mathlib.Omega.{arith}
use Rattle.seals.proofs.Lanes.{lanes_begun, lanes_more, lanes_ended, lane_word}
use Rattle.seals.proofs.inner.reading.check_word.Goals as goal

pub loop-q-init : goal.loop-q-init
loop-q-init c = search lanes_begun

pub loop-q-preserved : goal.loop-q-preserved
loop-q-preserved c =
    lanes_more _ _ _ _ _ _ _ _ _ _ _ _ _ _ _ _ _ _ _ _ _ _ c.loop-q.invariant (omega arith) (c.word_at.ensures ∙ lane_word _ _ _ 0 _ (omega arith))
    (c.word_at-in-loop-q.ensures ∙ lane_word _ _ _ 1 _ (omega arith)) (c.word_at-in-loop-q-2.ensures ∙ lane_word _ _ _ 2 _ (omega arith))
    (c.word_at-in-loop-q-3.ensures ∙ lane_word _ _ _ 3 _ (omega arith)) c.with-a.ensures c.with-b.ensures c.with-c.ensures c.with-d.ensures

pub returns : goal.returns
returns c = lanes_ended _ _ _ _ _ _ _ _ _ _ _ _ c.loop-q.invariant (omega arith) c.word_at-2.ensures c.lanes_check.ensures (omega arith)
