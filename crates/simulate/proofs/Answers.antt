-- Laws of the simulator's answer, as its code finds it.
use Prim.Native.Nat.{ℕ, ◌≤◌}
use mathlib.Core.Bool.{Bool, true, false}
use mathlib.Core.List.{List}
use mathlib.Core.Path.{◌≡◌, refl, sym, ap, ◌∙◌}
use native.Mathlib.Omega.{arith}
use lib.Dec.{eqb}
use lib.ListN.{length}
use Rattle.tables.specs.Answer.{Answer}
use Rattle.tables.specs.Answer.{Accepted}
use Rattle.tables.specs.Answer.{or_else, sized}
use Rattle.tables.proofs.Answers.{Refuses, or_else_accepts, or_else_stop, or_else_next, sized_iff}
use Rattle.lists.specs.Words.{links_of, steps_of, road_of, plan_of, plan_length, record_length, width_of}
use Rattle.lengths.specs.Lengths.{record_sized, sizes}
use Rattle.list_scans.specs.Refusals.{ranges, bounds, plan_bounds}
use Rattle.faults.proofs.Tests.{both_hold, eq_holds}
use Rattle.lengths.proofs.Sizes.{sizes_iff, corridor_fits_lem, demands_long, record_sized_iff}
use Rattle.list_scans.proofs.Limits.{ranges_iff, bounds_iff}
use Rattle.simulate.specs.Simulate.{simulate_sizes, simulate_answer, Sound}

-- N and K in range, as the code has them
pub few : (corridor demands : List ℕ) (links steps : ℕ) (t : Bool) → t ≡ sizes corridor demands → t ≡ true → links ≡ links_of corridor → steps ≡ steps_of demands
    → (links ≤ 64) × (steps ≤ 1440)
few corridor demands links steps t e h n k =
    let s = (sizes_iff corridor demands).0 (sym e ∙ h) in
    (omega (arith, s.links), omega (arith, s.steps))

-- ---- 1

module _ (corridor demands plan : List ℕ) (room : ℕ) where
  pub sizes_fail : (t : Bool) → t ≡ sizes corridor demands → t ≡ false → false ≡ simulate_sizes corridor demands plan room
  unfolding simulate_sizes
  sizes_fail t e h = let q : sizes corridor demands ≡ false = sym e ∙ h in rw q

  module _ (t : Bool) (e : t ≡ sizes corridor demands) (h : t ≡ true) (links steps : ℕ) (n : links ≡ links_of corridor) (k : steps ≡ steps_of demands) where
    pub plan_fails : (m : ℕ) → m ≡ plan_length links steps → eqb (length plan) m ≡ false → false ≡ simulate_sizes corridor demands plan room
    unfolding simulate_sizes
    plan_fails m p f =
        let q : sizes corridor demands ≡ true = sym e ∙ h in
        let g : eqb (length plan) (plan_length (links_of corridor) (steps_of demands)) ≡ false = cc in
        rw (q, g)

    pub record_decides : (m : ℕ) (r : Bool) → m ≡ plan_length links steps → eqb (length plan) m ≡ true → r ≡ record_sized links steps room → r ≡ simulate_sizes corridor demands plan room
    unfolding simulate_sizes
    record_decides m r p f s =
        let q : sizes corridor demands ≡ true = sym e ∙ h in
        let g : eqb (length plan) (plan_length (links_of corridor) (steps_of demands)) ≡ true = cc in
        rw (q, g) cc

  pub record Lengths : Type 0 where
    pub listed : sizes corridor demands ≡ true
    pub plan_fits : length plan ≡ plan_length (links_of corridor) (steps_of demands)
    pub room_fits : room ≡ record_length (width_of corridor demands room) (links_of corridor) (steps_of demands)

  pub lengths : simulate_sizes corridor demands plan room ≡ true → Lengths
  unfolding simulate_sizes
  lengths e =
      let plan_test = eq_holds (length plan) (plan_length (links_of corridor) (steps_of demands)) in
      let room_test_lem = record_sized_iff (links_of corridor) (steps_of demands) room in
      let all = (both_hold (sizes corridor demands) _ (λ h. h, λ h. h) (both_hold _ _ plan_test room_test_lem)).0 e in
      record { listed = all.0; plan_fits = all.1.0; room_fits = all.1.1 }

  -- ---- 1, then 2 to 5, then 6

  abbrev rest : Answer
  rest = or_else (ranges (road_of corridor demands)) (bounds (road_of corridor demands) (plan_of (road_of corridor demands) plan))

  -- f, a, b and d are what the calls answered
  module _ (f : Bool) (s : f ≡ simulate_sizes corridor demands plan room) (a : Answer) (e : a ≡ sized f) where
    pub answer_lengths : a ≡ Accepted → Lengths
    answer_lengths g = lengths (sym s ∙ (sized_iff f).0 (sym e ∙ g))

    pub answer_one : Refuses a → a ≡ simulate_answer corridor demands plan room
    unfolding simulate_answer
    answer_one r = or_else_stop a _ _ (e ∙ ap sized s) r

    module _ (g : a ≡ Accepted) (b : Answer) (q : b ≡ ranges (road_of corridor demands)) where
      pub answer_ranges : Refuses b → b ≡ simulate_answer corridor demands plan room
      unfolding simulate_answer
      answer_ranges r = or_else_next a b _ _ (e ∙ ap sized s) g (or_else_stop b _ _ q r)

      pub answer_bounds : (d : Answer) → b ≡ Accepted → d ≡ plan_bounds corridor demands plan → d ≡ simulate_answer corridor demands plan room
      unfolding simulate_answer
      answer_bounds d h p = or_else_next a d _ _ (e ∙ ap sized s) g (or_else_next b d _ _ q h p)

  -- what an accepting answer says
  pub accepted_sizes : simulate_answer corridor demands plan room ≡ Accepted → Lengths
  unfolding simulate_answer
  accepted_sizes e = lengths ((sized_iff (simulate_sizes corridor demands plan room)).0 ((or_else_accepts (sized (simulate_sizes corridor demands plan room)) rest).0 e).0)

  pub accepted_sound : simulate_answer corridor demands plan room ≡ Accepted → Sound corridor demands plan
  unfolding simulate_answer road_of
  accepted_sound e =
      let l = accepted_sizes e in
      let s = (sizes_iff corridor demands).0 l.listed in
      let r = (or_else_accepts (ranges (road_of corridor demands)) (bounds (road_of corridor demands) (plan_of (road_of corridor demands) plan))).0
      ((or_else_accepts (sized (simulate_sizes corridor demands plan room)) rest).0 e).1 in
      record {
        corridor_fits = corridor_fits_lem corridor demands (links_of corridor) l.listed refl;
        steps = omega (arith, s.steps);
        demands_fit = demands_long _ _ _ s.demands_fit;
        plan_fits = l.plan_fits;
        limits = (ranges_iff (road_of corridor demands) s.links s.steps).0 r.0;
        bounded = (bounds_iff (road_of corridor demands) (plan_of (road_of corridor demands) plan)).0 r.1;
      }
