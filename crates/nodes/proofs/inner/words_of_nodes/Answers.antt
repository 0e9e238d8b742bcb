-- N first, then the words of node after node.
use mathlib.Core.Path.{sym, ◌∙◌}
use Prim.Native.Nat.{◌≤◌}
use native.Mathlib.Omega.{arith}
use lib.ListN.{length}
use lib.Seq.{take-suc-set}
use Rattle.std.proofs.lemmas.Grind.{common_steps}
use Rattle.nodes.specs.Nodes.{corridor_words}
use Rattle.nodes.proofs.Words.{taken_whole}
use Rattle.nodes.proofs.Copies.{copied, copies_ended}
use Rattle.nodes.proofs.inner.words_of_nodes.Goals as goal

pub loop-i-init : goal.loop-i-init
unfolding corridor_words
loop-i-init c = take-suc-set c.args.room.now 0 _ (omega (arith, c.told-room))

pub loop-i-preserved : goal.loop-i-preserved
loop-i-preserved c =
    let few : length c.args.nodes.now ≤ 65 = grind (arith, common_steps) in
    copied c.args.nodes.now c.loop-i.i c.loop-i-test.true c.loop-i.room _ _ (c.copy_from_slice.ensures.after ∙ c.words_of_node.ensures)
    (omega arith) c.loop-i.invariant

pub returns : goal.returns
returns c =
    let few : length c.args.nodes.now ≤ 65 = grind (arith, common_steps) in
    let some : 2 ≤ length c.args.nodes.now = grind (arith, common_steps) in
    copies_ended c.args.nodes.now c.loop-i.room c.loop-i.i (omega arith) c.loop-i.invariant ∙ sym (taken_whole c.args.nodes.now some few)
