-- What refusals 2 to 6 say of a road is told by nodes 0..N and steps 0..K − 1 alone: roads that agree there have the same.
use Prim.Native.Nat.{ℕ, ◌≤◌}
use mathlib.Core.Bool.{Bool}
use mathlib.Core.List.{List}
use mathlib.Core.Path.{◌≡◌, ap, ap₂, ◌∙◌}
use native.Mathlib.Omega.{arith}
use lib.Dec.{eqb}
use Rattle.tables.specs.Answer.{or_else, refusal}
use Rattle.tables.proofs.First.{first_same, first_place_same}
use Rattle.tables.proofs.Least.{least_same}
use Rattle.road.specs.Corridor.{Node, Road, nodes}
use Rattle.road.proofs.Roads.{SameRoads, with_sizes, with_sizes_lem}
use Rattle.faults.specs.Lists.{link_fault, ramp_fault, start_fault, demand_fault, plan_fault}
use Rattle.lists.specs.Words.{plan_of}
use Rattle.list_scans.specs.Refusals.{fresh, link_refusal, ramp_refusal, start_refusal, demand_refusal, ranges, bounds}

fresh_same : (x y : ℕ → ℕ) (i : ℕ) → ((j : ℕ) → j ≤ i → x j ≡ y j) → fresh x i ≡ fresh y i
unfolding fresh
fresh_same x y i e =
    ap (λ (n : ℕ). eqb n i)
    (least_same (λ j. eqb (x j) (x i)) (λ j. eqb (y j) (y i)) i (λ j h. ap₂ eqb (e j (omega arith)) (e i (omega arith))))

module _ (road other : Road) (e : SameRoads road other) where
  -- ---- 2 to 5

  like_links : link_refusal road ≡ link_refusal (with_sizes road other)
  unfolding link_refusal
  like_links = first_same (nodes road) _ _ (λ i h. ap (λ (n : Node). refusal (link_fault i n.link) 0 i) (e.node i (omega arith)))

  like_ramps : ramp_refusal road ≡ ramp_refusal (with_sizes road other)
  unfolding ramp_refusal
  like_ramps =
      first_same (nodes road) _ _
      (λ i h.
      let new : fresh (λ j. (road.node j).identifier) i ≡ fresh (λ j. (other.node j).identifier) i =
      fresh_same _ _ i (λ j b. ap (λ (n : Node). n.identifier) (e.node j (omega arith))) in
      ap₂ (λ (n : Node) (b : Bool). refusal (ramp_fault (eqb i road.links) n.identifier n.ramp b) 0 i) (e.node i (omega arith)) new)

  like_starts : start_refusal road ≡ start_refusal (with_sizes road other)
  unfolding start_refusal
  like_starts = first_same (nodes road) _ _ (λ i h. ap (λ (n : Node). refusal (start_fault n) 0 i) (e.node i (omega arith)))

  like_demands : demand_refusal road ≡ demand_refusal (with_sizes road other)
  unfolding demand_refusal
  like_demands =
      first_place_same road.steps (nodes road) _ _
      (λ k i hk hi z.
      demand_fault road.links i (e.arrivals k i hk (omega arith) z) (e.split k i hk (omega arith) z) (e.downstream k hk z))

  pub roads_ranges : ranges road ≡ ranges other
  unfolding ranges
  roads_ranges =
      (λ z. or_else (like_links z) (or_else (like_ramps z) (or_else (like_starts z) (like_demands z)))) ∙ ap ranges (with_sizes_lem road other e)

  -- ---- 6

  pub roads_bounds : (words : List ℕ) → bounds road (plan_of road words) ≡ bounds other (plan_of other words)
  unfolding bounds plan_of
  roads_bounds words =
      first_place_same road.steps (nodes road) _ _
      (λ k i hk hi. ap (λ (n : Node). plan_fault n.link n.ramp ((plan_of road words).rate k i) ((plan_of road words).limit k i)) (e.node i (omega arith)))
      ∙ ap (λ (x : Road). bounds x (plan_of x words)) (with_sizes_lem road other e)
