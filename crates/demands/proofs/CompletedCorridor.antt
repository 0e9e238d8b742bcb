-- A corridor of kind 1 and the same completed are proved to do the same, as lists: each node reads as the same node.
use Prim.Native.Nat.{ℕ, suc, ◌+◌, ◌*◌, ◌≤◌, ◌<◌}
use mathlib.Core.Bool.{Bool, true, false, ◌&&◌, ◌||◌}
use mathlib.Core.List.{List}
use mathlib.Core.Path.{◌≡◌, refl, sym, ap, ◌∙◌}
use native.Mathlib.Omega.{arith}
use borrow.Author.Tests.{eq-eqb, lt-ltb}
use lib.Dec.{eqb}
use lib.ListN.{length, get_or}
use Rattle.tables.proofs.Grid.{row_words_length, row_words_at}
use Rattle.road.proofs.Roads.{SameRoads}
use Rattle.faults.specs.Lists.{within}
use Rattle.lists.specs.Words.{links_of, steps_of, corridor_length, by_kind, corridor_word, node_at, road_of}
use Rattle.lengths.specs.Lengths.{corridor_sized, demands_sized, sizes}
use Rattle.lists.proofs.Corridors.{by_dropped, by_plain}
use Rattle.convert.specs.Convert.{converted, check_answer}
use Rattle.demands.specs.Completed.{completed_word, completed_corridor, SameOnLists}
use Rattle.demands.proofs.Alike.{alike_lists, alike_checks, alike_plans}

-- the words of a node: nine as they were, then F and J
module _ (corridor : List ℕ) (i : ℕ) where
  pub word_kept : (q : ℕ) → q < 9 → completed_word corridor i q ≡ get_or corridor (1 + (i * 9 + q)) 0
  unfolding completed_word
  word_kept q h = rw (lt-ltb q 9 h)

  word_capacity : completed_word corridor i 9 ≡ get_or corridor (1 + (i * 9 + 1)) 0
  unfolding completed_word
  word_capacity = refl

  word_jam : completed_word corridor i 10 ≡ get_or corridor (1 + (i * 9 + 4)) 0
  unfolding completed_word
  word_jam = refl

pub completed_length : (links : ℕ) (corridor : List ℕ) → length (completed_corridor links corridor) ≡ corridor_length 11 links
unfolding completed_corridor
completed_length links corridor = omega (arith, row_words_length 11 (suc links) (completed_word corridor))

pub completed_links : (links : ℕ) (corridor : List ℕ) → links_of (completed_corridor links corridor) ≡ links_of corridor
unfolding completed_corridor links_of
completed_links links corridor = refl

module _ (corridor : List ℕ) (fits : length corridor ≡ corridor_length 9 (links_of corridor)) where
  abbrev links : ℕ
  links = links_of corridor

  abbrev full : List ℕ
  full = completed_corridor (links_of corridor) corridor

  own : links_of full ≡ links
  own = completed_links links corridor

  -- each list has its own kind's length
  plain : (dropped other : ℕ) → by_kind (links_of corridor) (length corridor) dropped other ≡ other
  plain dropped other = by_plain (links_of corridor) (length corridor) dropped other (λ e. omega arith)

  dropped : (first other : ℕ) → by_kind (links_of full) (length full) first other ≡ first
  dropped first other = by_dropped (links_of full) (length full) first other (completed_length links corridor ∙ ap (corridor_length 11) (sym own))

  module _ (i : ℕ) (h : i ≤ links) where
    -- word q of node i, as each list reads it
    short_word : (q : ℕ) → corridor_word corridor i q ≡ get_or corridor (1 + (i * 9 + q)) 0
    short_word q = ap (λ (w : ℕ). get_or corridor (1 + (i * w + q)) 0) (plain 11 9)

    long_word : (q : ℕ) → q < 11 → corridor_word full i q ≡ completed_word corridor i q
    unfolding completed_corridor
    long_word q b =
        let e : 1 + (i * 11 + q) ≡ suc (i * 11 + q) = omega arith in
        ap (λ (w : ℕ). get_or full (1 + (i * w + q)) 0) (dropped 11 9)
        ∙ ap (λ (j : ℕ). get_or full j 0) e
        ∙ row_words_at 11 (suc links) (completed_word corridor) i q 0 (omega arith) b

    same : (q : ℕ) → q < 9 → corridor_word corridor i q ≡ corridor_word full i q
    same q b = short_word q ∙ sym (long_word q (omega arith) ∙ word_kept corridor i q b)

    node_same : node_at corridor i ≡ node_at full i
    unfolding node_at
    node_same =
        λ z. record {
          identifier = same 0 (omega arith) z;
          link =
              record {
                capacity = same 1 (omega arith) z;
                full_speed = same 2 (omega arith) z;
                wave_speed = same 3 (omega arith) z;
                jam = same 4 (omega arith) z;
                dropped_capacity =
                    (ap (corridor_word corridor i) (plain 9 1)
                    ∙ short_word 1
                    ∙ sym (ap (corridor_word full i) (dropped 9 1) ∙ long_word 9 (omega arith) ∙ word_capacity corridor i)) z;
                drop_density =
                    (ap (corridor_word corridor i) (plain 10 4)
                    ∙ short_word 4
                    ∙ sym (ap (corridor_word full i) (dropped 10 4) ∙ long_word 10 (omega arith) ∙ word_jam corridor i)) z;
              };
          ramp = record { capacity = same 5 (omega arith) z; queue_limit = same 6 (omega arith) z };
          start = record { vehicles = same 7 (omega arith) z; queue = same 8 (omega arith) z };
        }

  -- ---- 1: both lengths are lengths of a corridor

  short_sized : corridor_sized links (length corridor) ≡ true
  unfolding corridor_sized
  short_sized = ap (λ (t : Bool). t || eqb (length corridor) (corridor_length 11 links)) (eq-eqb _ _ fits)

  long_sized : corridor_sized links (length full) ≡ true
  unfolding corridor_sized
  long_sized = by (eqb (length full) (corridor_length 9 links))
    where
      by : (t : Bool) → (t || eqb (length full) (corridor_length 11 links)) ≡ true
      by true = refl
      by false = eq-eqb _ _ (completed_length links corridor)

  sized_same : corridor_sized links (length corridor) ≡ corridor_sized (links_of full) (length full)
  sized_same = short_sized ∙ sym long_sized ∙ ap (λ (n : ℕ). corridor_sized n (length full)) (sym own)

  module _ (demands : List ℕ) where
    roads : SameRoads (road_of corridor demands) (road_of full demands)
    unfolding road_of completed_corridor links_of
    roads =
        record {
          links = sym own;
          steps = refl;
          node = node_same;
          arrivals = λ k i hk hi. refl;
          split = λ k i hk hi. refl;
          downstream = λ k h. refl;
        }

    fit : sizes corridor demands ≡ sizes full demands
    unfolding sizes
    fit =
        λ z. within 1 64 (sym own z)
        && (within 1 1440 (steps_of demands)
        && (sized_same z && demands_sized (sym own z) (steps_of demands) (length demands)))

    pub corridor_alike : SameOnLists corridor demands (completed_corridor (links_of corridor) corridor) demands
    corridor_alike = alike_lists corridor demands full demands roads fit

    pub corridor_checks : (words : List ℕ) → check_answer corridor demands words ≡ check_answer (completed_corridor (links_of corridor) corridor) demands words
    corridor_checks = alike_checks corridor demands full demands roads fit

    pub corridor_plans : (words : List ℕ) → converted corridor demands words ≡ converted (completed_corridor (links_of corridor) corridor) demands words
    corridor_plans = alike_plans corridor demands full demands roads fit
