-- Demands of kind 2 and the same completed are proved to do the same: they tell roads that agree at every node and step.
use Prim.Native.Nat.{ℕ, suc, ◌+◌, ◌≤◌, ◌<◌}
use mathlib.Core.Bool.{Bool, true, false, ◌&&◌, ◌||◌}
use mathlib.Core.List.{List}
use mathlib.Core.Path.{◌≡◌, refl, sym, ap, ◌∙◌}
use native.Mathlib.Omega.{arith}
use borrow.Author.Tests.{eq-eqb}
use lib.Dec.{eqb}
use lib.ListN.{length, get_or, replicate, length-append, length-replicate, get_or-replicate, get_or-append, get_or-eq_default}
use lib.Seq.{get_or-append-add}
use Rattle.tables.specs.Grid.{place}
use Rattle.tables.proofs.Grid.{place_fits}
use Rattle.road.proofs.Roads.{SameRoads}
use Rattle.faults.specs.Lists.{within}
use Rattle.lists.specs.Words.{links_of, steps_of, demands_length, downstream_length, downstream_word, free, road_of}
use Rattle.lengths.specs.Lengths.{corridor_sized, demands_sized, sizes}
use Rattle.convert.specs.Convert.{converted, check_answer}
use Rattle.demands.specs.Completed.{completed, SameOnLists}
use Rattle.demands.proofs.Alike.{alike_lists, alike_checks, alike_plans}

module _ (links : ℕ) (demands : List ℕ) (fits : length demands ≡ demands_length links (steps_of demands)) where
  abbrev other : List ℕ
  other = completed (steps_of demands) demands

  kept : (j : ℕ) → j < length demands → get_or demands j 0 ≡ get_or other j 0
  unfolding completed
  kept j h = sym (get_or-append demands _ 0 j h)

  steps_same : steps_of demands ≡ steps_of other
  unfolding steps_of
  steps_same = kept 0 (omega arith)

  length_other : length other ≡ length demands + steps_of demands
  unfolding completed
  length_other = length-append demands _ ∙ ap (λ (n : ℕ). length demands + n) (length-replicate (steps_of demands) _)

  -- the words of the rows, and those after them
  word_same : (k i q : ℕ) → k < steps_of demands → i ≤ links → q < 2 → get_or demands (1 + place 2 (suc links) k i q) 0 ≡ get_or other (1 + place 2 (suc links) k i q) 0
  word_same k i q hk hi hq =
      kept (1 + place 2 (suc links) k i q) (omega (arith, place_fits 2 (suc links) (steps_of demands) k i q hk (omega arith) hq))

  downstream_same : (k : ℕ) → k < steps_of demands → downstream_word demands links (steps_of demands) k ≡ downstream_word other links (steps_of other) k
  unfolding completed
  downstream_same k h =
      get_or-eq_default demands free (omega arith)
      ∙ sym (get_or-replicate (steps_of demands) k free free h)
      ∙ sym (get_or-append-add demands (replicate (steps_of demands) free) k free)
      ∙ ap (λ (n : ℕ). get_or other (n + k) free) fits
      ∙ ap (λ (n : ℕ). downstream_word other links n k) steps_same

  -- ---- 1: both lengths are lengths of demands

  short : demands_sized links (steps_of demands) (length demands) ≡ true
  unfolding demands_sized
  short = ap (λ (t : Bool). t || eqb (length demands) (downstream_length links (steps_of demands))) (eq-eqb _ _ fits)

  long : demands_sized links (steps_of demands) (length other) ≡ true
  unfolding demands_sized
  long = by (eqb (length other) (demands_length links (steps_of demands)))
    where
      by : (t : Bool) → (t || eqb (length other) (downstream_length links (steps_of demands))) ≡ true
      by true = refl
      by false = eq-eqb _ _ (length_other ∙ ap (λ (n : ℕ). n + steps_of demands) fits)

  sized_same : demands_sized links (steps_of demands) (length demands) ≡ demands_sized links (steps_of other) (length other)
  sized_same = short ∙ sym long ∙ ap (λ (n : ℕ). demands_sized links n (length other)) steps_same

module _ (corridor demands : List ℕ) (fits : length demands ≡ demands_length (links_of corridor) (steps_of demands)) where
  abbrev full : List ℕ
  full = completed (steps_of demands) demands

  steps : steps_of demands ≡ steps_of full
  steps = steps_same (links_of corridor) demands fits

  roads : SameRoads (road_of corridor demands) (road_of corridor full)
  unfolding road_of
  roads =
      record {
        links = refl;
        steps = steps;
        node = λ i h. refl;
        arrivals = λ k i hk hi. word_same (links_of corridor) demands fits k i 0 hk hi (omega arith);
        split = λ k i hk hi. word_same (links_of corridor) demands fits k i 1 hk hi (omega arith);
        downstream = downstream_same (links_of corridor) demands fits;
      }

  fit : sizes corridor demands ≡ sizes corridor full
  unfolding sizes
  fit =
      λ z. within 1 64 (links_of corridor)
      && (within 1 1440 (steps z)
      && (corridor_sized (links_of corridor) (length corridor) && sized_same (links_of corridor) demands fits z))

  pub demands_alike : SameOnLists corridor demands corridor (completed (steps_of demands) demands)
  demands_alike = alike_lists corridor demands corridor full roads fit

  pub demands_checks : (words : List ℕ) → check_answer corridor demands words ≡ check_answer corridor (completed (steps_of demands) demands) words
  demands_checks = alike_checks corridor demands corridor full roads fit

  pub demands_plans : (words : List ℕ) → converted corridor demands words ≡ converted corridor (completed (steps_of demands) demands) words
  demands_plans = alike_plans corridor demands corridor full roads fit
