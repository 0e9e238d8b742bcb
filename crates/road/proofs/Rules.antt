-- Laws of rules 1 to 6, grouped by rule.
use Prim.Native.Nat.{ℕ, ◌+◌, ◌-◌, ◌*◌, ◌/◌, ◌≤◌, ◌<◌, min}
use mathlib.Core.Path.{◌≡◌, ap, ap₂, ◌∙◌}
use mathlib.Core.Logic.{⊎_elim}
use native.Mathlib.Nat.{le_trans, mul_comm, mul_right_comm, mul_assoc, mul-le-mul_left, mul-le-mul_right, mul-add, add-mul, mul-sub, div-mul-le_self, lt-div-mul-add, le-div_iff_mul-le, le_of_mul-le-mul_right, zero-mul, div-zero, eq-zero-or-pos}
use native.Mathlib.Omega.{arith}
use borrow.Author.Tests.{le-leb, lt-leb}
use Rattle.tables.proofs.Numbers.{le_or_lt}
use Rattle.road.specs.Corridor.{Link, Ramp, NodeState, Flows}
use Rattle.road.specs.Step.{Junction, discharge, sending, exit, through, offer, receiving, passed, merge, flows_with, outflow}
use Rattle.road.proofs.Quotients.{share_le, share_le_part, quotient_falls, product_splits, product_grows, ceiling, ceiling_reaches, ceiling_near, ceiling_least}

-- ---- values are equal by their numbers

pub flows_eq : (x y : Flows) → x.main ≡ y.main → x.ramp ≡ y.ramp → x ≡ y
flows_eq x y p q = λ i. record { main = p i; ramp = q i }

pub state_eq : (x y : NodeState) → x.vehicles ≡ y.vehicles → x.queue ≡ y.queue → x ≡ y
state_eq x y p q = λ i. record { vehicles = p i; queue = q i }

-- ---- 1. sending

-- no more leaves a link than is on it
pub sending_le : (link : Link) (vehicles limit : ℕ) → limit ≤ 65536 → sending link vehicles limit ≤ vehicles
unfolding sending
sending_le link vehicles limit h = omega (arith, share_le vehicles limit 65536 h)

pub discharge_within : (link : Link) (vehicles : ℕ) → vehicles ≤ link.drop_density → discharge link vehicles ≡ link.capacity
unfolding discharge
discharge_within link vehicles h = rw (le-leb vehicles link.drop_density h)

pub discharge_above : (link : Link) (vehicles : ℕ) → link.drop_density < vehicles → discharge link vehicles ≡ link.dropped_capacity
unfolding discharge
discharge_above link vehicles h = rw (lt-leb vehicles link.drop_density h)

-- where the dropped capacity is no more than F, neither is what a link may discharge
pub discharge_capacity : (link : Link) (vehicles : ℕ) → link.dropped_capacity ≤ link.capacity → discharge link vehicles ≤ link.capacity
discharge_capacity link vehicles h =
    ⊎_elim
    (λ (g : vehicles ≤ link.drop_density). omega (arith, discharge_within link vehicles g))
    (λ (g : link.drop_density < vehicles). omega (arith, discharge_above link vehicles g))
    (le_or_lt vehicles link.drop_density)

-- a link within its drop density sends as one without a drop
pub sending_within : (link : Link) (vehicles limit : ℕ) → vehicles ≤ link.drop_density → sending link vehicles limit ≡ min (vehicles * limit / 65536) link.capacity
unfolding sending
sending_within link vehicles limit h = ap (min (vehicles * limit / 65536)) (discharge_within link vehicles h)

pub sending_discharge : (link : Link) (vehicles limit : ℕ) → sending link vehicles limit ≤ discharge link vehicles
unfolding sending
sending_discharge link vehicles limit = omega arith

pub sending_capacity : (link : Link) (vehicles limit : ℕ) → link.dropped_capacity ≤ link.capacity → sending link vehicles limit ≤ link.capacity
sending_capacity link vehicles limit h = omega (arith, sending_discharge link vehicles limit, discharge_capacity link vehicles h)

pub sending_product : (link : Link) (vehicles limit : ℕ) → sending link vehicles limit ≤ vehicles * limit / 65536
unfolding sending
sending_product link vehicles limit = omega arith

pub sending_rises : (link : Link) (vehicles limit higher : ℕ) → limit ≤ higher → sending link vehicles limit ≤ sending link vehicles higher
unfolding sending
sending_rises link vehicles limit higher h = omega (arith, mul-le-mul_left vehicles h)

-- where some limit sends at least f, a limit v with n × v / 65,536 = f sends just f
pub sending_exact : (link : Link) (vehicles limit other flow : ℕ) → vehicles * limit / 65536 ≡ flow → flow ≤ sending link vehicles other → sending link vehicles limit ≡ flow
unfolding sending
sending_exact link vehicles limit other flow e h = omega arith

-- the smallest limit v of 0..`top` with n × v / 65,536 = f
pub record SmallestLimit (vehicles flow top limit : ℕ) : Type 0 where
  pub sends : vehicles * limit / 65536 ≡ flow
  pub within : limit ≤ top
  pub least : (other : ℕ) → vehicles * other / 65536 ≡ flow → limit ≤ other

-- every flow up to n × V / 65,536 is sent at some limit of 0..V, the smallest being f × 65,536 / n rounded up (0 where n is 0)
pub some_limit_sends : (vehicles flow top : ℕ) → vehicles ≤ 65536 → flow ≤ vehicles * top / 65536 → SmallestLimit vehicles flow top (ceiling (flow * 65536) vehicles)
some_limit_sends n f top h l =
    ⊎_elim
    (λ (z : n ≡ 0).
    let none : n * top ≡ 0 = ap (λ (m : ℕ). m * top) z ∙ zero-mul top in
    let v : ceiling (f * 65536) n ≡ 0 = ap (λ (m : ℕ). ceiling (f * 65536) m) z ∙ div-zero _ in
    let sent : n * ceiling (f * 65536) n ≡ 0 = ap (λ (m : ℕ). m * ceiling (f * 65536) n) z ∙ zero-mul (ceiling (f * 65536) n) in
    record { sends = omega arith; within = omega arith; least = λ other e. omega arith })
    (λ (p : 0 < n).
    record {
      sends = omega (arith, ceiling_reaches (f * 65536) n p, ceiling_near (f * 65536) n p);
      within = ceiling_least (f * 65536) n top p (omega arith);
      least = λ other e. ceiling_least (f * 65536) n other p (omega arith);
    })
    (eq-zero-or-pos n)

-- ---- 2. through part and exit

-- none of a flow is lost
pub through_exit : (flow split : ℕ) → split ≤ 65536 → through flow split + exit flow split ≡ flow
unfolding through exit
through_exit flow split h = omega (arith, share_le flow split 65536 h)

pub exit_le : (flow split : ℕ) → split ≤ 65536 → exit flow split ≤ flow
exit_le flow split h = omega (arith, through_exit flow split h)

-- of no flow, and at a split of zero, nothing leaves
pub exit_of_none : (flow split : ℕ) → flow ≡ 0 → exit flow split ≡ 0
unfolding exit
exit_of_none flow split e = rw e (omega (arith, zero-mul split))

pub exit_unsplit : (flow split : ℕ) → split ≡ 0 → exit flow split ≡ 0
unfolding exit
exit_unsplit flow split e = rw e (omega arith)

pub through_le : (flow split : ℕ) → through flow split ≤ flow
unfolding through
through_le flow split = omega arith

pub through_rises : (flow more split : ℕ) → flow ≤ more → split ≤ 65536 → through flow split ≤ through more split
unfolding through exit
through_rises flow more split h k = omega (arith, product_grows flow more split 65536 h k)

-- T(x) ≤ s exactly where x × (65,536 − b) ≤ 65,536 × s
pub through_fits : (flow split room : ℕ) → split ≤ 65536 → flow * (65536 - split) ≤ 65536 * room → through flow split ≤ room
unfolding through exit
through_fits flow split room h k = omega (arith, mul-sub flow 65536 split, share_le flow split 65536 h)

pub fits_through : (flow split room : ℕ) → split ≤ 65536 → through flow split ≤ room → flow * (65536 - split) ≤ 65536 * room
unfolding through exit
fits_through flow split room h k = omega (arith, mul-sub flow 65536 split, share_le flow split 65536 h)

-- ---- 3. offer

pub offer_le : (ramp : Ramp) (queue rate : ℕ) → offer ramp queue rate ≤ min queue ramp.capacity
unfolding offer
offer_le ramp queue rate = omega arith

pub offer_rate : (ramp : Ramp) (queue rate : ℕ) → offer ramp queue rate ≤ rate
unfolding offer
offer_rate ramp queue rate = omega arith

pub offer_exact : (ramp : Ramp) (queue rate : ℕ) → rate ≤ min queue ramp.capacity → offer ramp queue rate ≡ rate
unfolding offer
offer_exact ramp queue rate h = omega arith

pub offer_rises : (ramp : Ramp) (queue rate higher : ℕ) → rate ≤ higher → offer ramp queue rate ≤ offer ramp queue higher
unfolding offer
offer_rises ramp queue rate higher h = omega arith

-- ---- 4. receiving

-- no more enters a link than has room up to the jam
pub receiving_le : (link : Link) (vehicles : ℕ) → link.wave_speed ≤ 65536 → receiving link vehicles ≤ link.jam - vehicles
unfolding receiving
receiving_le link vehicles h = omega (arith, share_le_part link.wave_speed (link.jam - vehicles) 65536 h)

pub receiving_capacity : (link : Link) (vehicles : ℕ) → receiving link vehicles ≤ link.capacity
unfolding receiving
receiving_capacity link vehicles = omega arith

-- ---- 5. merge

pub passed_free : (flow total supply : ℕ) → total ≤ supply → passed flow total supply ≡ flow
unfolding passed
passed_free flow total supply h = simp (le-leb total supply h)

-- the case that divides has S < R, so R is never 0 there
pub passed_tight : (flow total supply : ℕ) → supply < total → passed flow total supply ≡ flow * supply / total
unfolding passed
passed_tight flow total supply h = simp (lt-leb total supply h)

pub passed_le : (flow total supply : ℕ) → passed flow total supply ≤ flow
passed_le flow total supply =
    ⊎_elim
    (λ h. omega (arith, passed_free flow total supply h))
    (λ h. omega (arith, passed_tight flow total supply h, share_le flow supply total (omega arith)))
    (le_or_lt total supply)

-- each merged flow is less than one unit below the exact fraction x × S / R
pub record NearFraction (flow total supply part : ℕ) : Type 0 where
  pub below : part * total ≤ flow * supply
  pub near : flow * supply < (part + 1) * total

pub passed_near : (flow total supply : ℕ) → supply < total → NearFraction flow total supply (passed flow total supply)
passed_near flow total supply h =
    let q : ℕ = flow * supply / total in
    rw (passed_tight flow total supply h)
    (record {
      below = div-mul-le_self (flow * supply) total;
      near = omega (arith, lt-div-mul-add {a = flow * supply} (le_trans (omega arith) h), add-mul q 1 total);
    })

-- for one flow, a greater total never lets more pass
pub passed_falls : (flow supply total more : ℕ) → total ≤ more → passed flow more supply ≤ passed flow total supply
passed_falls flow supply total more h =
    ⊎_elim
    (λ a. omega (arith, passed_free flow total supply a, passed_le flow more supply))
    (λ a. omega (arith, passed_tight flow total supply a, passed_tight flow more supply (omega arith), quotient_falls (flow * supply) total more (omega arith) h))
    (le_or_lt total supply)

-- beside t, a greater flow never passes less
pub passed_rises : (t supply flow more : ℕ) → flow ≤ more → passed flow (t + flow) supply ≤ passed more (t + more) supply
passed_rises t s d e h =
    ⊎_elim
    (λ a. ⊎_elim
    (λ b. omega (arith, passed_free d (t + d) s a, passed_free e (t + e) s b))
    (λ b.
    let q : d ≤ e * s / (t + e) = (le-div_iff_mul-le (omega arith)).1 (omega (arith, mul-add d t e, mul-add e t d, mul-le-mul_left e a, mul-le-mul_right t h, mul_comm d e)) in
    omega (arith, passed_free d (t + d) s a, passed_tight e (t + e) s b))
    (le_or_lt (t + e) s))
    (λ a.
    let q : ℕ = d * s / (t + d) in
    let l : q ≤ e * s / (t + e) = (le-div_iff_mul-le (omega arith)).1 (omega (arith, mul-add q t e, mul-add q t d, div-mul-le_self (d * s) (t + d), product_grows d e q s h (share_le_part d s (t + d) (omega arith)), product_splits d e s h, mul_comm q d, mul_comm q e)) in
    omega (arith, passed_tight d (t + d) s a, passed_tight e (t + e) s (omega arith)))
    (le_or_lt (t + d) s)

-- f ≤ D and r ≤ d
pub merge_main : (sent offered split supply : ℕ) → (merge sent offered split supply).main ≤ sent
unfolding merge
merge_main sent offered split supply = passed_le sent _ supply

pub merge_ramp : (sent offered split supply : ℕ) → (merge sent offered split supply).ramp ≤ offered
unfolding merge
merge_ramp sent offered split supply = passed_le offered _ supply

-- with R > S: f (U − b) R ≤ D (U − b) S ≤ U T(D) S ≤ U (S − r) R for U = 65,536, and R cancels
tight_fits : (sent t offered supply split main ramp : ℕ) → 0 < t + offered → sent * (65536 - split) ≤ 65536 * t
    → main * (t + offered) ≤ sent * supply → ramp * (t + offered) ≤ offered * supply → main * (65536 - split) ≤ 65536 * (supply - ramp)
tight_fits d t e s b f r p ht hf hr =
    let g : ℕ = 65536 - b in
    let w : ℕ = t + e in
    le_of_mul-le-mul_right {k = w} (omega (arith, mul-le-mul_right g hf, mul-le-mul_right s ht, mul_right_comm f g w, mul_right_comm d s g, mul_assoc 65536 t s, mul_assoc 65536 (s - r) w, mul_comm (s - r) w, mul-sub w s r, add-mul t e s, mul_comm w s, mul_comm w r)) p

-- T(f) + r ≤ S
pub merge_fits : (sent offered split supply : ℕ) → split ≤ 65536 → outflow (merge sent offered split supply) split ≤ supply
unfolding merge outflow
merge_fits d e b s k =
    let t : ℕ = through d b in
    ⊎_elim
    (λ (h : t + e ≤ s). rw (passed_free d (t + e) s h, passed_free e (t + e) s h) h)
    (λ (h : s < t + e).
    let f = passed_near d (t + e) s h in
    let r = passed_near e (t + e) s h in
    let l = tight_fits d t e s b (passed d (t + e) s) (passed e (t + e) s) (omega arith) (fits_through d b t k (omega arith)) f.below r.below in
    omega (arith, through_fits (passed d (t + e) s) b (s - passed e (t + e) s) k l, passed_tight e (t + e) s h, share_le_part e s (t + e) (omega arith)))
    (le_or_lt (through d b + e) s)

-- flows that are sent and offered and fit pass as they are
pub merge_free : (sent offered split supply : ℕ) (x : Flows) → sent ≡ x.main → offered ≡ x.ramp → outflow x split ≤ supply → merge sent offered split supply ≡ x
unfolding merge outflow
merge_free sent offered split supply x p q h =
    ap₂ (λ (d e : ℕ). merge d e split supply) p q
    ∙ flows_eq (merge x.main x.ramp split supply) x (passed_free x.main _ supply h) (passed_free x.ramp _ supply h)

-- with no offer and no split nothing is rounded away: the smaller of D and S passes
pub merge_alone : (sent supply : ℕ) → merge sent 0 0 supply ≡ record { main = min sent supply; ramp = 0 }
unfolding merge through exit
merge_alone sent supply =
    let whole : through sent 0 + 0 ≡ sent = omega arith in
    ⊎_elim
    (λ (h : through sent 0 + 0 ≤ supply).
    flows_eq _ _ (passed_free sent _ supply h ∙ omega arith) (passed_free 0 _ supply h))
    (λ (h : supply < through sent 0 + 0).
    flows_eq _ _
    (passed_tight sent _ supply h ∙ ap (λ (n : ℕ). sent * supply / n) whole ∙ share_whole sent supply (omega arith) ∙ omega arith)
    (omega (arith, passed_le 0 (through sent 0 + 0) supply)))
    (le_or_lt (through sent 0 + 0) supply)
  where
    share_whole : (whole part : ℕ) → 0 < whole → whole * part / whole ≡ part
    share_whole whole part h =
        omega (
          arith,
          share_le_part whole part whole (omega arith),
          (le-div_iff_mul-le {x = part} {y = whole * part} h).1 (omega (arith, mul_comm part whole)),
        )

-- ---- rules 1 to 5 at a junction, at any rate, and at any limit up to full speed

module _ (junction : Junction) (rate limit : ℕ) where
  pub flows_sent : (flows_with junction rate limit).main ≤ sending junction.link junction.state.vehicles limit
  unfolding flows_with
  flows_sent = merge_main _ _ _ _

  pub flows_offered : (flows_with junction rate limit).ramp ≤ min junction.state.queue junction.ramp.capacity
  unfolding flows_with
  flows_offered = le_trans (merge_ramp _ _ _ _) (offer_le junction.ramp junction.state.queue rate)

  pub flows_metered : (flows_with junction rate limit).ramp ≤ rate
  unfolding flows_with
  flows_metered = le_trans (merge_ramp _ _ _ _) (offer_rate junction.ramp junction.state.queue rate)

  pub flows_fit_lem : junction.split ≤ 65536 → outflow (flows_with junction rate limit) junction.split ≤ junction.supply
  unfolding flows_with
  flows_fit_lem h = merge_fits _ _ junction.split junction.supply h

-- as the rate grows the mainline flow never rises and the ramp flow never falls
pub main_falls : (junction : Junction) (rate higher limit : ℕ) → rate ≤ higher → (flows_with junction higher limit).main ≤ (flows_with junction rate limit).main
unfolding flows_with merge
main_falls junction rate higher limit h =
    passed_falls _ junction.supply _ _ (omega (arith, offer_rises junction.ramp junction.state.queue rate higher h))

pub ramp_rises : (junction : Junction) (rate higher limit : ℕ) → rate ≤ higher → (flows_with junction rate limit).ramp ≤ (flows_with junction higher limit).ramp
unfolding flows_with merge
ramp_rises junction rate higher limit h =
    passed_rises _ junction.supply _ _ (offer_rises junction.ramp junction.state.queue rate higher h)
