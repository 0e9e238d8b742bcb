-- Laws of a node's setting: the node's share of demand 3.
use Prim.Native.Nat.{ℕ, ◌*◌, ◌/◌, ◌≤◌, ◌<◌}
use mathlib.Core.Bool.{Bool, true, false}
use mathlib.Core.Path.{◌≡◌, refl, sym, ap, ap₂, subst, ◌∙◌}
use mathlib.Core.Logic.{◌↔◌, inl, inr, ⊎_elim}
use native.Mathlib.Nat.{le_trans, eq-zero-or-pos}
use native.Mathlib.Omega.{arith}
use borrow.Author.Tests.{eq-eqb, eqb-true}
use lib.Dec.{eqb}
use Rattle.std.specs.Prelude.{Option, Some, None}
use Rattle.std.specs.Int.{div_ceil}
use Rattle.tables.proofs.Numbers.{le_or_lt}
use Rattle.tables.proofs.Least.{least_is}
use Rattle.road.specs.declared.Units.{Units}
use Rattle.road.specs.Corridor.{Flows}
use Rattle.road.specs.Step.{Junction, sending, flows_with}
use Rattle.road.specs.Limits.{NoLink, JunctionLimits}
use Rattle.road.proofs.Quotients.{share_le, ceiling, ceiling_is}
use Rattle.road.proofs.Rules.{SmallestLimit, some_limit_sends, sending_product, sending_capacity, sending_rises, sending_exact, offer_exact, merge_free, flows_sent, flows_offered, flows_metered, flows_fit_lem}
use Rattle.settings.specs.declared.Setting.TheVariants.{Full}
use Rattle.settings.specs.Rate.{rate_for}
use Rattle.settings.specs.Setting.{held_limit, settle, setting_for, rate_in, limit_in}
use Rattle.settings.specs.Share.{Permitted, Gives, SmallestRate, Finds, IsFull, IsHeld, IsSetting}
use Rattle.settings.proofs.Rates.{rate_finds, rate_iff}

-- ---- the held limit

-- it is f × 65,536 / n rounded up
pub held_ceiling : (vehicles flow : ℕ) → vehicles ≤ 65536 → flow ≤ vehicles → held_limit vehicles flow ≡ ceiling (flow * 65536) vehicles
unfolding held_limit
held_ceiling n f h l =
    let s = some_limit_sends n f 65536 h (omega arith) in
    sym
    (least_is (λ v. eqb (n * v / 65536) f) 65536 (ceiling (f * 65536) n) s.within
    (λ v below. fails v (eqb (n * v / 65536) f) refl below)
    (λ below. eq-eqb _ _ s.sends))
  where
    fails : (v : ℕ) (t : Bool) → eqb (n * v / 65536) f ≡ t → v < ceiling (f * 65536) n → eqb (n * v / 65536) f ≡ false
    fails v false e below = e
    fails v true e below = absurd (let b = (some_limit_sends n f 65536 h (omega arith)).least v (eqb-true _ _ e) in omega arith)

-- as the code divides: the library rounds up, and where n is 0 so is f
pub held_quotient : (vehicles flow : ℕ) → vehicles ≤ 65536 → flow ≤ vehicles → held_limit vehicles flow ≡ div_ceil (flow * 65536) vehicles
held_quotient n f h l = ⊎_elim none some (eq-zero-or-pos n)
  where
    none : n ≡ 0 → held_limit n f ≡ div_ceil (f * 65536) n
    none z =
        let e : f ≡ 0 = omega arith in
        held_ceiling n f h l ∙ ap₂ (λ (x y : ℕ). ceiling (x * 65536) y) e z ∙ sym (ap₂ (λ (x y : ℕ). div_ceil (x * 65536) y) e z)

    some : 0 < n → held_limit n f ≡ div_ceil (f * 65536) n
    some p = held_ceiling n f h l ∙ sym (ceiling_is (f * 65536) n p)

pub held_smallest : (vehicles flow top : ℕ) → vehicles ≤ 65536 → top ≤ 65536 → flow ≤ vehicles * top / 65536 → SmallestLimit vehicles flow top (held_limit vehicles flow)
held_smallest n f top h t l =
    let le : f ≤ n = omega (arith, share_le n top 65536 t) in
    subst (λ (v : ℕ). SmallestLimit n f top v) (sym (held_ceiling n f h le)) (some_limit_sends n f top h l)

-- ---- the flows that some setting reaches are those that the checker's rules permit

module _ (junction : Junction) (limits : JunctionLimits junction) (flows : Flows) where
  -- a limit that sends f, at rate r, gives f and r
  sent_gives : Permitted junction flows → (limit : ℕ) → sending junction.link junction.state.vehicles limit ≡ flows.main → flows_with junction flows.ramp limit ≡ flows
  unfolding flows_with
  sent_gives permitted limit e =
      merge_free _ _ junction.split junction.supply flows e
      (offer_exact junction.ramp junction.state.queue flows.ramp permitted.offered)
      permitted.fits

  exact_gives : Permitted junction flows → (limit : ℕ) → junction.state.vehicles * limit / 65536 ≡ flows.main → flows_with junction flows.ramp limit ≡ flows
  exact_gives permitted limit e =
      sent_gives permitted limit (sending_exact junction.link junction.state.vehicles limit junction.link.full_speed flows.main e permitted.sent)

  held_sends : Permitted junction flows → SmallestLimit junction.state.vehicles flows.main junction.link.full_speed (held_limit junction.state.vehicles flows.main)
  held_sends permitted =
      held_smallest junction.state.vehicles flows.main junction.link.full_speed limits.vehicles limits.full_speed
      (le_trans permitted.sent (sending_product junction.link junction.state.vehicles junction.link.full_speed))

  pub reached_permitted : (rate limit : ℕ) → limit ≤ junction.link.full_speed → flows_with junction rate limit ≡ flows → Permitted junction flows
  reached_permitted rate limit h e =
      subst (λ (x : Flows). Permitted junction x) e
      (record {
        sent = le_trans (flows_sent junction rate limit) (sending_rises junction.link junction.state.vehicles limit junction.link.full_speed h);
        fits = flows_fit_lem junction rate limit limits.split;
        offered = flows_offered junction rate limit;
      })

  pub reached_iff_permitted : ((rate : ℕ) × (limit : ℕ) × (rate ≤ junction.ramp.capacity) × (limit ≤ junction.link.full_speed) × (flows_with junction rate limit ≡ flows))
      ↔ Permitted junction flows
  reached_iff_permitted = (
    λ (rate, limit, a, b, e). reached_permitted rate limit b e,
    λ permitted.
        let held = held_sends permitted in
        (flows.ramp, held_limit junction.state.vehicles flows.main, omega (arith, permitted.offered), held.within, exact_gives permitted _ held.sends),
  )

  -- ---- the setting of permitted flows

  module _ (permitted : Permitted junction flows) where
    settled : (found : Option Units) → Finds junction flows found
        → IsSetting junction flows (rate_in (settle found junction.state.vehicles flows)) (limit_in junction.link.full_speed (settle found junction.state.vehicles flows))
    settled (Some rate) h = inl (record { posted = refl; smallest = h })
    settled None h =
        let held = held_sends permitted in
        inr (record { none = h; ramp = refl; sends = held.sends; least = held.least; within = held.within })

    -- it is the one that document 01 names
    pub setting_named : IsSetting junction flows (rate_in (setting_for junction flows)) (limit_in junction.link.full_speed (setting_for junction flows))
    unfolding setting_for
    setting_named = settled (rate_for junction flows) (rate_finds junction flows)

    module _ (rate limit : ℕ) (named : IsSetting junction flows rate limit) where
      -- it gives back exactly f and r
      pub named_gives : flows_with junction rate limit ≡ flows
      named_gives =
          ⊎_elim
          (λ (full : IsFull junction flows rate limit). ap (λ (v : ℕ). flows_with junction rate v) full.posted ∙ full.smallest.gives)
          (λ (held : IsHeld junction flows rate limit). ap (λ (c : ℕ). flows_with junction c limit) held.ramp ∙ exact_gives permitted limit held.sends)
          named

      -- it is within bounds
      pub named_rate : rate ≤ junction.ramp.capacity
      named_rate =
          ⊎_elim
          (λ (full : IsFull junction flows rate limit). full.smallest.within)
          (λ (held : IsHeld junction flows rate limit). omega (arith, held.ramp, permitted.offered))
          named

      pub named_limit : limit ≤ junction.link.full_speed
      named_limit =
          ⊎_elim
          (λ (full : IsFull junction flows rate limit). omega (arith, full.posted))
          (λ (held : IsHeld junction flows rate limit). held.within)
          named

    -- held posts a limit below V: at V the rate r would give the flows
    pub held_below : (rate limit : ℕ) → IsHeld junction flows rate limit → limit < junction.link.full_speed
    held_below rate limit held =
        ⊎_elim
        (λ (h : junction.link.full_speed ≤ limit).
        let e : limit ≡ junction.link.full_speed = omega (arith, held.within) in
        absurd
        (held.none flows.ramp (omega (arith, permitted.offered))
        (exact_gives permitted junction.link.full_speed (subst (λ (v : ℕ). junction.state.vehicles * v / 65536 ≡ flows.main) e held.sends))))
        (λ h. h)
        (le_or_lt junction.link.full_speed limit)

    -- full speed is posted exactly where some rate of 0..C gives the flows at full speed
    pub full_speed_iff : (rate limit : ℕ) → IsSetting junction flows rate limit
        → (limit ≡ junction.link.full_speed) ↔ ((c : ℕ) × (c ≤ junction.ramp.capacity) × Gives junction flows c)
    full_speed_iff rate limit named =
        ⊎_elim
        (λ (full : IsFull junction flows rate limit). (λ e. (rate, full.smallest.within, full.smallest.gives), λ g. full.posted))
        (λ (held : IsHeld junction flows rate limit). (
          λ e. absurd (let b = held_below rate limit held in omega arith),
          λ (c, b, g). absurd (held.none c b g),
        ))
        named

    -- node 0, which has no link, is always full, at rate r
    pub entry_full : NoLink junction.link → setting_for junction flows ≡ Full (record { 0 = flows.ramp })
    unfolding setting_for
    entry_full e = ap (λ (found : Option Units). settle found junction.state.vehicles flows) ((rate_iff junction flows (Some (record { 0 = flows.ramp }))).1 smallest)
      where
        v : ℕ
        v = junction.link.full_speed

        none : sending junction.link junction.state.vehicles v ≡ flows.main
        none = omega (arith, sending_capacity junction.link junction.state.vehicles v (omega (arith, e)), permitted.sent, e)

        smallest : SmallestRate junction flows flows.ramp
        smallest =
            record {
              gives = sent_gives permitted v none;
              within = omega (arith, permitted.offered);
              least = λ other g. omega (arith, flows_metered junction other v, ap (λ (x : Flows). x.ramp) g);
            }

-- document 01 names one setting
pub named_once : (junction : Junction) (flows : Flows) (rate limit rate' limit' : ℕ) → IsSetting junction flows rate limit → IsSetting junction flows rate' limit'
    → (rate ≡ rate') × (limit ≡ limit')
named_once junction flows rate limit rate' limit' a b =
    ⊎_elim
    (λ (f : IsFull junction flows rate limit).
    ⊎_elim
    (λ (g : IsFull junction flows rate' limit'). (omega (arith, f.smallest.least rate' g.smallest.gives, g.smallest.least rate f.smallest.gives), f.posted ∙ sym g.posted))
    (λ (g : IsHeld junction flows rate' limit'). absurd (g.none rate f.smallest.within f.smallest.gives))
    b)
    (λ (f : IsHeld junction flows rate limit).
    ⊎_elim
    (λ (g : IsFull junction flows rate' limit'). absurd (f.none rate' g.smallest.within g.smallest.gives))
    (λ (g : IsHeld junction flows rate' limit'). (f.ramp ∙ sym g.ramp, omega (arith, f.least limit' g.sends, g.least limit f.sends)))
    b)
    a
