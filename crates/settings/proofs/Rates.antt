-- Laws of the search for a rate: halving finds the smallest rate that gives the flows, and finds none only where none of 0..C gives them.
use Prim.Native.Nat.{ℕ, ◌≤◌}
use mathlib.Core.Bool.{Bool, true, false, cond}
use mathlib.Core.Path.{◌≡◌, refl, sym, ap, subst, ◌∙◌}
use mathlib.Core.Logic.{◌↔◌, ⊎_elim}
use native.Mathlib.Omega.{arith}
use borrow.Author.Tests.{leb-true, eqb-true, le-leb, eq-eqb}
use Rattle.std.specs.Prelude.{Option, Some, None}
use Rattle.tables.specs.Least.{least}
use Rattle.tables.proofs.Numbers.{le_or_lt, not_both}
use Rattle.tables.proofs.Tests.{and_iff}
use Rattle.tables.proofs.Least.{least_bound, least_below, least_fails, Searchable, searched_passes, searched_fails}
use Rattle.tables.proofs.Halving.{halving_rate}
use Rattle.road.specs.declared.Units.{Units}
use Rattle.road.specs.Corridor.{Flows}
use Rattle.road.specs.Step.{Junction}
use Rattle.road.proofs.Rules.{flows_eq, main_falls, ramp_rises}
use Rattle.settings.specs.declared.Search.{Search}
use Rattle.settings.specs.Rate.{full_flows, gives, reaches, candidate, search, rate_for}
use Rattle.settings.specs.Share.{Gives, Finds}

module _ (junction : Junction) (wanted : Flows) where
  -- ---- the two tests as facts

  pub gives_flows : (rate : ℕ) → gives junction wanted rate ≡ true → Gives junction wanted rate
  unfolding gives full_flows
  gives_flows rate e =
      let (p, q) = (and_iff _ _).0 e in
      flows_eq (full_flows junction rate) wanted (eqb-true _ _ p) (eqb-true _ _ q)

  pub flows_gives : (rate : ℕ) → Gives junction wanted rate → gives junction wanted rate ≡ true
  unfolding gives full_flows
  flows_gives rate e =
      simp (eq-eqb _ _ (ap (λ (x : Flows). x.main) e), eq-eqb _ _ (ap (λ (x : Flows). x.ramp) e))

  record Reaches (rate : ℕ) : Type 0 where
    main : (full_flows junction rate).main ≤ wanted.main
    ramp : wanted.ramp ≤ (full_flows junction rate).ramp

  reaches_facts : (rate : ℕ) → reaches junction wanted rate ≡ true → Reaches rate
  unfolding reaches
  reaches_facts rate e = let (p, q) = (and_iff _ _).0 e in record { main = leb-true _ _ p; ramp = leb-true _ _ q }

  facts_reaches : (rate : ℕ) → Reaches rate → reaches junction wanted rate ≡ true
  unfolding reaches
  facts_reaches rate h = simp (le-leb _ _ h.main, le-leb _ _ h.ramp)

  -- ---- a higher rate is high enough too, and below a rate that gives the flows each that is high enough gives them

  falls : (x y : ℕ) → x ≤ y → (full_flows junction y).main ≤ (full_flows junction x).main
  unfolding full_flows
  falls x y h = main_falls junction x y junction.link.full_speed h

  rises : (x y : ℕ) → x ≤ y → (full_flows junction x).ramp ≤ (full_flows junction y).ramp
  unfolding full_flows
  rises x y h = ramp_rises junction x y junction.link.full_speed h

  pub searchable : Searchable (gives junction wanted) (reaches junction wanted)
  unfolding full_flows
  searchable =
      record {
        implied = λ x e.
            let g = gives_flows x e in
            facts_reaches x (record { main = omega (arith, ap (λ (z : Flows). z.main) g); ramp = omega (arith, ap (λ (z : Flows). z.ramp) g) });
        upward = λ x y h e.
            let a = reaches_facts x e in
            facts_reaches y (record { main = omega (arith, falls x y h); ramp = omega (arith, rises x y h) });
        between = λ x y h e k.
            let a = reaches_facts x e in
            let g = gives_flows y k in
            flows_gives x
            (flows_eq _ wanted (omega (arith, falls x y h, ap (λ (z : Flows). z.main) g)) (omega (arith, rises x y h, ap (λ (z : Flows). z.ramp) g)));
      }

  -- ---- what the search finds

  -- by cases of whether the smallest that passes, or C, passes
  finds_by : (t : Bool) → gives junction wanted (least (gives junction wanted) junction.ramp.capacity) ≡ t
      → Finds junction wanted (cond t (Some (record { 0 = least (gives junction wanted) junction.ramp.capacity })) None)
  finds_by true e =
      record {
        gives = gives_flows _ e;
        within = least_bound (gives junction wanted) junction.ramp.capacity;
        least = λ other g.
            ⊎_elim (λ h. h) (λ h. absurd (not_both (gives junction wanted other) (flows_gives other g) (least_below (gives junction wanted) junction.ramp.capacity other h)))
            (le_or_lt (least (gives junction wanted) junction.ramp.capacity) other);
      }
  finds_by false e = λ rate h g. not_both (gives junction wanted rate) (flows_gives rate g) (least_fails (gives junction wanted) junction.ramp.capacity e rate h)

  pub rate_finds : Finds junction wanted (rate_for junction wanted)
  unfolding rate_for
  rate_finds = finds_by (gives junction wanted (least (gives junction wanted) junction.ramp.capacity)) refl

  -- and no other answer is right
  finds_once : (x y : Option Units) → Finds junction wanted x → Finds junction wanted y → x ≡ y
  finds_once (Some x) (Some y) h k =
      let e : x.0 ≡ y.0 = omega (arith, h.least y.0 k.gives, k.least x.0 h.gives) in
      λ i. Some (record { 0 = e i })
  finds_once (Some x) None h k = absurd (k x.0 h.within h.gives)
  finds_once None (Some y) h k = absurd (h y.0 k.within k.gives)
  finds_once None None h k = refl

  pub rate_iff : (found : Option Units) → (rate_for junction wanted ≡ found) ↔ Finds junction wanted found
  rate_iff found =
      (λ e. subst (λ (x : Option Units). Finds junction wanted x) e rate_finds, λ h. finds_once (rate_for junction wanted) found rate_finds h)

  -- ---- halving comes to the same

  -- the one rate left is the smallest that is high enough, or C
  pub candidate_is : (candidate junction wanted).rate ≡ least (reaches junction wanted) junction.ramp.capacity
  unfolding candidate
  candidate_is = halving_rate (reaches junction wanted) searchable.upward junction.ramp.capacity

  -- by whether it gives the flows
  decides : (rate : ℕ) (t : Bool) → rate ≡ least (reaches junction wanted) junction.ramp.capacity → gives junction wanted rate ≡ t → cond t (Some (record { 0 = rate })) None ≡ rate_for junction wanted
  unfolding rate_for
  decides rate true q e =
      let t : least (gives junction wanted) junction.ramp.capacity ≡ rate =
      searched_passes _ _ _ searchable (subst (λ (x : ℕ). gives junction wanted x ≡ true) q e) ∙ sym q in
      rw (t, e)
  decides rate false q e =
      sym
      ((rate_iff None).1
      (λ other h g.
      not_both (gives junction wanted other) (flows_gives other g)
      (searched_fails _ _ _ searchable (subst (λ (x : ℕ). gives junction wanted x ≡ false) q e) other h)))

  -- "The rate found, and the finding that there is none, are those of document 01."
  pub search_found : (search junction wanted).found ≡ rate_for junction wanted
  unfolding search
  search_found = decides (candidate junction wanted).rate (gives junction wanted (candidate junction wanted).rate) candidate_is refl

  pub found_told : (s : Search) → s ≡ search junction wanted → s.found ≡ rate_for junction wanted
  found_told s e = ap (λ (x : Search). x.found) e ∙ search_found

-- no rate sends more on the mainline than rate 0, nor less from the ramp
pub first_reaches : (junction : Junction) (rate : ℕ) → reaches junction (full_flows junction 0) rate ≡ true
first_reaches junction rate =
    facts_reaches junction (full_flows junction 0) rate
    (record { main = falls junction (full_flows junction 0) 0 rate (omega arith); ramp = rises junction (full_flows junction 0) 0 rate (omega arith) })
