-- Laws of the words that nodes lay out: how many, which stand where, and what the word lists read of them.
use mathlib.Core.Path.{◌≡◌, refl, ap, ◌∙◌}
use Prim.Native.Nat.{ℕ, suc, ◌+◌, ◌-◌, ◌*◌, ◌≤◌, ◌<◌}
use native.Mathlib.Omega.{arith}
use mathlib.Core.Logic.{◌⊎◌, ⊎_elim}
use mathlib.Core.List.{List, []}
use borrow.Author.Tests.{le-leb, lt-leb}
use lib.ListN.{length, get_or}
use Rattle.tables.proofs.Grid.{row_words_length, row_words_at}
use Rattle.lists.specs.Words.{links_of, by_kind, corridor_word, node_at}
use Rattle.lists.proofs.Corridors.{by_dropped}
use Rattle.nodes.specs.declared.Node.{Node}
use Rattle.nodes.specs.Nodes.{node_words, node_of, node_in, corridor_words, words_taken}

-- a node has eleven words
pub eleven : (node : Node) → length (node_words node) ≡ 11
unfolding node_words
eleven node = refl

module _ (nodes : List Node) where
  pub words_links : links_of (corridor_words nodes) ≡ length nodes - 1
  unfolding corridor_words links_of
  words_links = refl

  pub words_length : length (corridor_words nodes) ≡ length nodes * 11 + 1
  unfolding corridor_words
  words_length = let e = row_words_length 11 (length nodes) (λ i q. get_or (node_words (node_in nodes i)) q 0) in omega (arith, e)

  pub words_first : get_or (corridor_words nodes) 0 0 ≡ length nodes - 1
  unfolding corridor_words
  words_first = refl

  -- word q of node i
  pub words_at : (i q : ℕ) → i < length nodes → q < 11 → get_or (corridor_words nodes) (1 + (i * 11 + q)) 0 ≡ get_or (node_words (node_in nodes i)) q 0
  unfolding corridor_words
  words_at i q h b =
      let e : 1 + (i * 11 + q) ≡ suc (i * 11 + q) = omega arith in
      ap (λ (k : ℕ). get_or (corridor_words nodes) k 0) e ∙ row_words_at 11 (length nodes) (λ i q. get_or (node_words (node_in nodes i)) q 0) i q 0 h b

  module _ (i : ℕ) (h : i < length nodes) where
    -- the words have the length of kind 10
    words_kind : (dropped plain : ℕ) → by_kind (links_of (corridor_words nodes)) (length (corridor_words nodes)) dropped plain ≡ dropped
    words_kind dropped plain = by_dropped _ _ dropped plain (omega (arith, words_length, words_links))

    -- word q of node i, where the word lists read it
    words_read_lem : (q : ℕ) → q < 11 → corridor_word (corridor_words nodes) i q ≡ get_or (node_words (node_in nodes i)) q 0
    words_read_lem q b = ap (λ (w : ℕ). get_or (corridor_words nodes) (1 + (i * w + q)) 0) (words_kind 11 9) ∙ words_at i q h b

    -- node i as the word lists read it: each value is the node's own
    pub words_node : node_at (corridor_words nodes) i ≡ node_of (node_in nodes i)
    unfolding node_words node_at node_of
    words_node = λ z. record {
      identifier = words_read_lem 0 (omega arith) z;
      link =
          record {
            capacity = words_read_lem 1 (omega arith) z;
            full_speed = words_read_lem 2 (omega arith) z;
            wave_speed = words_read_lem 3 (omega arith) z;
            jam = words_read_lem 4 (omega arith) z;
            dropped_capacity = (ap (corridor_word (corridor_words nodes) i) (words_kind 9 1) ∙ words_read_lem 9 (omega arith)) z;
            drop_density = (ap (corridor_word (corridor_words nodes) i) (words_kind 10 4) ∙ words_read_lem 10 (omega arith)) z;
          };
      ramp = record { capacity = words_read_lem 5 (omega arith) z; queue_limit = words_read_lem 6 (omega arith) z };
      start = record { vehicles = words_read_lem 7 (omega arith) z; queue = words_read_lem 8 (omega arith) z };
    }

  -- the words that are given on: all, or none
  pub taken_whole : 2 ≤ length nodes → length nodes ≤ 65 → words_taken nodes ≡ corridor_words nodes
  unfolding words_taken
  taken_whole p q = simp (le-leb _ _ p, le-leb _ _ q)

  pub taken_none : (length nodes < 2) ⊎ (65 < length nodes) → words_taken nodes ≡ []
  unfolding words_taken
  taken_none out = ⊎_elim few many out
    where
      few : length nodes < 2 → words_taken nodes ≡ []
      few h = simp (lt-leb _ _ h)

      many : 65 < length nodes → words_taken nodes ≡ []
      many h = let p : 2 ≤ length nodes = omega arith in simp (le-leb _ _ p, lt-leb _ _ h)
