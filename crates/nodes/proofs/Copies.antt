-- The loop that copies the nodes' words into a room: those of the first i nodes stand at its front.
use mathlib.Core.Path.{◌≡◌, sym, ap, ap₂, ◌∙◌}
use Prim.Native.Nat.{ℕ, ◌+◌, ◌*◌, ◌≤◌, ◌<◌}
use native.Mathlib.Omega.{arith}
use borrow.Rule.Slice.PartMut.{put_mid}
use mathlib.Core.List.{List, ◌++◌}
use lib.ListN.{length, get_or, take, drop, length-drop}
use lib.Seq.{length-take-le, ext_get_or, take-add, take_all}
use Rattle.std.proofs.lemmas.List.{get_or-take, get_or-drop}
use Rattle.std.proofs.lemmas.Slice.{take-put_mid}
use Rattle.nodes.specs.declared.Node.{Node}
use Rattle.nodes.specs.Nodes.{node_words, node_in, corridor_words}
use Rattle.nodes.proofs.Words.{eleven, words_length, words_at}

module _ (nodes : List Node) (i : ℕ) (h : i < length nodes) where
  -- the words of node i stand behind those before it
  words_here : take 11 (drop (i * 11 + 1) (corridor_words nodes)) ≡ node_words (node_in nodes i)
  words_here =
      let r : 11 ≤ length (drop (i * 11 + 1) (corridor_words nodes)) = simp length-drop (omega (arith, words_length nodes)) in
      let l : length (take 11 (drop (i * 11 + 1) (corridor_words nodes))) ≡ 11 = length-take-le 11 _ r in
      ext_get_or 0 _ _ (l ∙ sym (eleven (node_in nodes i)))
      (λ q b.
      let w : q < 11 = omega arith in
      let e : i * 11 + 1 + q ≡ 1 + (i * 11 + q) = omega arith in
      get_or-take 11 _ q 0 w ∙ get_or-drop (i * 11 + 1) (corridor_words nodes) q 0 ∙ ap (λ (k : ℕ). get_or (corridor_words nodes) k 0) e ∙ words_at nodes i q h w)

  -- one more node is copied
  pub copied : (room words : List ℕ) (k : ℕ) → words ≡ node_words (node_in nodes i) → i * 11 + 1 + 11 ≤ length room
      → take (i * 11 + 1) room ≡ take (i * 11 + 1) (corridor_words nodes)
      → take ((i + 1) * 11 + 1) (put_mid (i * 11 + 1) k room words) ≡ take ((i + 1) * 11 + 1) (corridor_words nodes)
  copied room words k w r e =
      let n : (i + 1) * 11 + 1 ≡ i * 11 + 1 + length words = omega (arith, ap length w ∙ eleven (node_in nodes i)) in
      let m : i * 11 + 1 + 11 ≡ (i + 1) * 11 + 1 = omega arith in
      take-put_mid (i * 11 + 1) k room words _ n (omega arith)
      ∙ ap₂ (λ (x y : List ℕ). x ++ y) e (w ∙ sym words_here)
      ∙ sym (take-add (i * 11 + 1) 11 (corridor_words nodes))
      ∙ ap (λ (k : ℕ). take k (corridor_words nodes)) m

-- all are
pub copies_ended : (nodes : List Node) (room : List ℕ) (i : ℕ) → i ≡ length nodes → take (i * 11 + 1) room ≡ take (i * 11 + 1) (corridor_words nodes)
    → take (length nodes * 11 + 1) room ≡ corridor_words nodes
copies_ended nodes room i e t =
    ap (λ (n : ℕ). take (n * 11 + 1) room) (sym e) ∙ t ∙ take_all (i * 11 + 1) (corridor_words nodes) (omega (arith, words_length nodes))
