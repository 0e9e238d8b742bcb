-- Within limits, as refusals 2 to 6 test it and as facts, and 1 to 5 together: each refusal is due exactly where its facts fail.
use Prim.Native.Nat.{ℕ, zero, suc, ◌≤◌, ◌<◌}
use mathlib.Core.Bool.{Bool, true}
use mathlib.Core.List.{List}
use mathlib.Core.Path.{◌≡◌, refl, sym, subst}
use mathlib.Core.Logic.{◌↔◌}
use native.Mathlib.Omega.{arith}
use borrow.Author.Tests.{eq-eqb, ne_eqb}
use lib.ListN.{length}
use lib.Dec.{eqb}
use Rattle.tables.specs.Answer.{Accepted}
use Rattle.tables.specs.Answer.{or_else, sized}
use Rattle.tables.specs.Least.{least}
use Rattle.tables.proofs.Numbers.{not_both}
use Rattle.tables.proofs.Least.{least_below, least_is}
use Rattle.tables.proofs.Answers.{or_else_accepts, sized_iff}
use Rattle.tables.proofs.First.{first_node_accepts, first_place_accepts}
use Rattle.road.specs.Corridor.{Link, Ramp, Node, Road, Plan, nodes}
use Rattle.road.specs.Limits.{Within, LinkLimits, NoLink, RampLimits, NoRamp, StartLimits, Identified, DemandLimits, Limits, Bounds, Bounded}
use Rattle.lists.specs.Words.{links_of, steps_of, road_of}
use Rattle.faults.specs.Lists.{link_fault, ramp_fault, start_fault, demand_fault, plan_fault}
use Rattle.lengths.specs.Lengths.{sizes}
use Rattle.lengths.proofs.Sizes.{CorridorSized, DemandsSized, sizes_iff}
use Rattle.list_scans.specs.Refusals.{fresh, link_refusal, ramp_refusal, start_refusal, demand_refusal, ranges, bounds, limits}
use Rattle.faults.proofs.Tests.{le_holds, eq_holds, both_hold, implies_holds, within_holds, no_fault}

-- ---- 2. links

entry_iff : (link : Link) → (link_fault 0 link ≡ 0) ↔ NoLink link
unfolding link_fault
entry_iff link =
    let r = no_fault _ 2 (λ e. omega arith)
    (both_hold _ _ (eq_holds link.capacity 0)
    (both_hold _ _ (eq_holds link.full_speed 0)
    (both_hold _ _ (eq_holds link.wave_speed 0)
    (both_hold _ _ (eq_holds link.jam 0)
    (both_hold _ _ (eq_holds link.dropped_capacity 0) (eq_holds link.drop_density 0)))))) in (
      λ e. let h = r.0 e in
          record {
            capacity = h.0;
            full_speed = h.1.0;
            wave_speed = h.1.1.0;
            jam = h.1.1.1.0;
            dropped_capacity = h.1.1.1.1.0;
            drop_density = h.1.1.1.1.1;
          },
      λ s. r.1 (s.capacity, (s.full_speed, (s.wave_speed, (s.jam, (s.dropped_capacity, s.drop_density))))),
    )

link_iff : (i : ℕ) (link : Link) → (link_fault (suc i) link ≡ 0) ↔ LinkLimits link
unfolding link_fault
link_iff i link =
    let r = no_fault _ 2 (λ e. omega arith)
    (both_hold _ _ (le_holds link.capacity 65536)
    (both_hold _ _ (within_holds 1 65536 link.full_speed)
    (both_hold _ _ (within_holds 1 65536 link.wave_speed)
    (both_hold _ _ (within_holds 1 65536 link.jam)
    (both_hold _ _ (le_holds link.dropped_capacity link.capacity) (le_holds link.drop_density link.jam)))))) in (
      λ e. let h = r.0 e in
          record {
            capacity = h.0;
            full_speed = h.1.0;
            wave_speed = h.1.1.0;
            jam = h.1.1.1.0;
            dropped_capacity = h.1.1.1.1.0;
            drop_density = h.1.1.1.1.1;
          },
      λ s. r.1 (s.capacity, (s.full_speed, (s.wave_speed, (s.jam, (s.dropped_capacity, s.drop_density))))),
    )

pub record LinksWithin (road : Road) : Type 0 where
  pub entry : NoLink (road.node 0).link
  pub link : (i : ℕ) → 1 ≤ i → i ≤ road.links → LinkLimits (road.node i).link

pub links_iff : (road : Road) → (link_refusal road ≡ Accepted) ↔ LinksWithin road
unfolding link_refusal
links_iff road = (
  λ e. record { entry = (entry_iff _).0 (r.0 e 0 (omega arith)); link = λ i. to e i },
  λ s. r.1 (λ i h. from s i h),
)
  where
    r : (link_refusal road ≡ Accepted) ↔ ((i : ℕ) → i < nodes road → link_fault i (road.node i).link ≡ 0)
    r = first_node_accepts (nodes road) 0 (λ i. link_fault i (road.node i).link)

    to : link_refusal road ≡ Accepted → (i : ℕ) → 1 ≤ i → i ≤ road.links → LinkLimits (road.node i).link
    to e zero p h = absurd (omega arith)
    to e (suc i) p h = (link_iff i _).0 (r.0 e (suc i) (omega arith))

    from : LinksWithin road → (i : ℕ) → i < nodes road → link_fault i (road.node i).link ≡ 0
    from s zero h = (entry_iff _).1 s.entry
    from s (suc i) h = (link_iff i _).1 (s.link (suc i) (omega arith) (omega arith))

-- ---- 3. ramps and identifiers

-- no node before i has the identifier of node i
pub fresh_iff : (identifier : ℕ → ℕ) (i : ℕ) → (fresh identifier i ≡ true) ↔ ((j : ℕ) → j < i → identifier j ≡ identifier i → ⊥)
unfolding fresh
fresh_iff identifier i =
    let p : ℕ → Bool = λ j. eqb (identifier j) (identifier i) in
    let r = eq_holds (least p i) i in (
      λ e j h q. not_both (p j) (eq-eqb _ _ q) (least_below p i j (subst (λ (x : ℕ). j < x) (sym (r.0 e)) h)),
      λ f. r.1 (sym (least_is p i i (omega arith) (λ j h. ne_eqb _ _ (f j h)) (λ h. absurd (omega arith)))),
    )

record RampFacts (last : Bool) (identifier : ℕ) (ramp : Ramp) (is_fresh : Bool) : Type 0 where
  named : 1 ≤ identifier
  distinct : is_fresh ≡ true
  limits : RampLimits ramp
  exit : last ≡ true → NoRamp ramp

ramp_iff : (last : Bool) (identifier : ℕ) (ramp : Ramp) (is_fresh : Bool) → (ramp_fault last identifier ramp is_fresh ≡ 0) ↔ RampFacts last identifier ramp is_fresh
unfolding ramp_fault
ramp_iff last identifier ramp is_fresh =
    let r = no_fault _ 3 (λ e. omega arith)
    (both_hold _ _ (le_holds 1 identifier)
    (both_hold is_fresh _ (λ e. e, λ e. e)
    (both_hold _ _ (le_holds ramp.capacity 65536)
    (both_hold _ _ (le_holds ramp.queue_limit 134217728)
    (implies_holds last _ (λ e. e, λ e. e) (both_hold _ _ (eq_holds ramp.capacity 0) (eq_holds ramp.queue_limit 0))))))) in (
      λ e.
          let h = r.0 e in
          record {
            named = h.0;
            distinct = h.1.0;
            limits = record { capacity = h.1.1.0; queue_limit = h.1.1.1.0 };
            exit = λ q. record { capacity = (h.1.1.1.1 q).0; queue_limit = (h.1.1.1.1 q).1 };
          },
      λ s. r.1 (s.named, (s.distinct, (s.limits.capacity, (s.limits.queue_limit, λ q. ((s.exit q).capacity, (s.exit q).queue_limit))))),
    )

pub record RampsWithin (road : Road) : Type 0 where
  pub ramp : (i : ℕ) → i ≤ road.links → RampLimits (road.node i).ramp
  pub exit : NoRamp (road.node road.links).ramp
  pub identified : (i : ℕ) → i ≤ road.links → Identified road i

pub ramps_iff : (road : Road) → (ramp_refusal road ≡ Accepted) ↔ RampsWithin road
unfolding ramp_refusal
ramps_iff road = (
  λ e.
      record {
        ramp = λ i h. (facts e i (omega arith)).limits;
        exit = (facts e road.links (omega arith)).exit (eq-eqb road.links road.links refl);
        identified = λ i h. record { named = (facts e i (omega arith)).named; distinct = (fresh_iff identifier i).0 (facts e i (omega arith)).distinct };
      },
  λ s. r.1 (λ i h. (ramp_iff (eqb i road.links) (identifier i) (road.node i).ramp (fresh identifier i)).1
      (record {
        named = (s.identified i (omega arith)).named;
        distinct = (fresh_iff identifier i).1 (s.identified i (omega arith)).distinct;
        limits = s.ramp i (omega arith);
        exit = λ q. subst (λ (j : ℕ). NoRamp (road.node j).ramp) (sym ((eq_holds i road.links).0 q)) s.exit;
      })),
)
  where
    identifier : ℕ → ℕ
    identifier j = (road.node j).identifier

    fault : ℕ → ℕ
    fault i = ramp_fault (eqb i road.links) (identifier i) (road.node i).ramp (fresh identifier i)

    r : (ramp_refusal road ≡ Accepted) ↔ ((i : ℕ) → i < nodes road → fault i ≡ 0)
    r = first_node_accepts (nodes road) 0 fault

    facts : ramp_refusal road ≡ Accepted → (i : ℕ) → i < nodes road → RampFacts (eqb i road.links) (identifier i) (road.node i).ramp (fresh identifier i)
    facts e i h = (ramp_iff _ _ _ _).0 (r.0 e i h)

-- ---- 4. the start

start_iff : (node : Node) → (start_fault node ≡ 0) ↔ StartLimits node
unfolding start_fault
start_iff node =
    let r = no_fault _ 4 (λ e. omega arith)
    (both_hold _ _ (le_holds node.start.vehicles node.link.jam) (le_holds node.start.queue node.ramp.queue_limit)) in
    (λ e. record { vehicles = (r.0 e).0; queue = (r.0 e).1 }, λ s. r.1 (s.vehicles, s.queue))

pub starts_iff : (road : Road) → (start_refusal road ≡ Accepted) ↔ ((i : ℕ) → i ≤ road.links → StartLimits (road.node i))
unfolding start_refusal
starts_iff road =
    let r = first_node_accepts (nodes road) 0 (λ i. start_fault (road.node i)) in
    (λ e i h. (start_iff (road.node i)).0 (r.0 e i (omega arith)), λ s. r.1 (λ i h. (start_iff (road.node i)).1 (s i (omega arith))))

-- ---- 5. demands

demand_iff : (road : Road) (k i : ℕ) → (demand_fault road.links i (road.arrivals k i) (road.split k i) (road.downstream k) ≡ 0) ↔ DemandLimits road k i
unfolding demand_fault
demand_iff road k i =
    let split : ℕ = road.split k i in
    let arrivals : ℕ = road.arrivals k i in
    let r = no_fault _ 5 (λ e. omega arith)
    (both_hold _ _ (le_holds arrivals 65536)
    (both_hold _ _ (le_holds split 65536)
    (both_hold _ _ (implies_holds _ _ (eq_holds i 0) (eq_holds split 0))
    (implies_holds _ _ (eq_holds i road.links) (both_hold _ _ (eq_holds split 0) (both_hold _ _ (eq_holds arrivals 0) (le_holds (road.downstream k) 65536))))))) in (
      λ e.
          let h = r.0 e in
          record {
            arrivals = h.0;
            split = h.1.0;
            entry = h.1.1.0;
            exit_split = λ q. (h.1.1.1 q).0;
            exit_arrivals = λ q. (h.1.1.1 q).1.0;
            downstream = λ q. (h.1.1.1 q).1.1;
          },
      λ s. r.1 (s.arrivals, (s.split, (s.entry, λ q. (s.exit_split q, (s.exit_arrivals q, s.downstream q))))),
    )

pub demands_iff : (road : Road) → (demand_refusal road ≡ Accepted) ↔ ((k i : ℕ) → k < road.steps → i ≤ road.links → DemandLimits road k i)
unfolding demand_refusal
demands_iff road =
    let r = first_place_accepts road.steps (nodes road) (λ k i. demand_fault road.links i (road.arrivals k i) (road.split k i) (road.downstream k)) in (
      λ e k i hk hi. (demand_iff road k i).0 (r.0 e k i hk (omega arith)),
      λ s. r.1 (λ k i hk hi. (demand_iff road k i).1 (s k i hk (omega arith))),
    )

-- ---- 2 to 5

pub ranges_iff : (road : Road) → Within 1 64 road.links → Within 1 1440 road.steps → (ranges road ≡ Accepted) ↔ Limits road
unfolding ranges
ranges_iff road links steps =
    let a = or_else_accepts (start_refusal road) (demand_refusal road) in
    let b = or_else_accepts (ramp_refusal road) (or_else (start_refusal road) (demand_refusal road)) in
    let c = or_else_accepts (link_refusal road) (or_else (ramp_refusal road) (or_else (start_refusal road) (demand_refusal road))) in (
      λ e.
          let (x, h) = c.0 e in
          let (y, g) = b.0 h in
          let (z, w) = a.0 g in
          let l = (links_iff road).0 x in
          let m = (ramps_iff road).0 y in
          record {
            links = links;
            steps = steps;
            entry = l.entry;
            link = l.link;
            ramp = m.ramp;
            exit = m.exit;
            identified = m.identified;
            start = (starts_iff road).0 z;
            demand = (demands_iff road).0 w;
          },
      λ s.
          c.1 (
            (links_iff road).1 (record { entry = s.entry; link = s.link }),
            b.1 (
              (ramps_iff road).1 (record { ramp = s.ramp; exit = s.exit; identified = s.identified }),
              a.1 ((starts_iff road).1 s.start, (demands_iff road).1 s.demand),
            ),
          ),
    )

-- ---- 6. a plan

plan_iff : (road : Road) (plan : Plan) (k i : ℕ) → (plan_fault (road.node i).link (road.node i).ramp (plan.rate k i) (plan.limit k i) ≡ 0) ↔ Bounds road plan k i
unfolding plan_fault
plan_iff road plan k i =
    let r = no_fault _ 6 (λ e. omega arith)
    (both_hold _ _ (le_holds (plan.rate k i) (road.node i).ramp.capacity) (le_holds (plan.limit k i) (road.node i).link.full_speed)) in
    (λ e. record { rate = (r.0 e).0; limit = (r.0 e).1 }, λ s. r.1 (s.rate, s.limit))

pub bounds_iff : (road : Road) (plan : Plan) → (bounds road plan ≡ Accepted) ↔ Bounded road plan
unfolding bounds
bounds_iff road plan =
    let r = first_place_accepts road.steps (nodes road) (λ k i. plan_fault (road.node i).link (road.node i).ramp (plan.rate k i) (plan.limit k i)) in (
      λ e k i hk hi. (plan_iff road plan k i).0 (r.0 e k i hk (omega arith)),
      λ s. r.1 (λ k i hk hi. (plan_iff road plan k i).1 (s k i hk (omega arith))),
    )

-- ---- 1 to 5: within limits

pub record WithinLimits (corridor demands : List ℕ) : Type 0 where
  pub corridor_fits : CorridorSized (links_of corridor) (length corridor)
  pub demands_fit : DemandsSized (links_of corridor) (steps_of demands) (length demands)
  pub road : Limits (road_of corridor demands)

pub limits_iff : (corridor demands : List ℕ) → (limits corridor demands ≡ Accepted) ↔ WithinLimits corridor demands
unfolding limits road_of
limits_iff corridor demands =
    let r = or_else_accepts (sized (sizes corridor demands)) (ranges (road_of corridor demands)) in (
      λ e.
          let (x, y) = r.0 e in
          let s = (sizes_iff corridor demands).0 ((sized_iff (sizes corridor demands)).0 x) in
          record { corridor_fits = s.corridor_fits; demands_fit = s.demands_fit; road = (ranges_iff (road_of corridor demands) s.links s.steps).0 y },
      λ s.
          let links = s.road.links in
          let steps = s.road.steps in
          r.1 (
            (sized_iff (sizes corridor demands)).1
                ((sizes_iff corridor demands).1 (record { links = links; steps = steps; corridor_fits = s.corridor_fits; demands_fit = s.demands_fit })),
            (ranges_iff (road_of corridor demands) links steps).1 s.road,
          ),
    )
