-- Laws of a try by products.
use Prim.Native.Nat.{ℕ, ◌+◌, ◌-◌, ◌*◌, ◌/◌, ◌≤◌, ◌<◌, min}
use mathlib.Core.Bool.{false}
use mathlib.Core.Path.{◌≡◌, sym, ◌∙◌}
use mathlib.Core.Logic.{◌↔◌, ⊎_elim}
use native.Mathlib.Nat.{mul_comm, mul-add, mul-sub, mul-le-mul_left, div-lt_iff_lt-mul, le-div_iff_mul-le}
use native.Mathlib.Omega.{arith}
use borrow.Author.Tests.{lt-leb}
use lib.Dec.{leb}
use Rattle.std.proofs.lemmas.Bool.Decides.{nat_tests}
use Rattle.tables.specs.declared.Halved.{Halved}
use Rattle.tables.specs.Halving.{halving}
use Rattle.tables.proofs.Numbers.{le_or_lt}
use Rattle.tables.proofs.Halving.{halving_same}
use Rattle.road.specs.Corridor.{Flows}
use Rattle.road.specs.Step.{Junction, sending, through, offer, passed, merge, flows_with}
use Rattle.road.proofs.Quotients.{share_le_part}
use Rattle.road.proofs.Rules.{passed_free, passed_tight, passed_le}
use Rattle.settings.specs.Rate.{full_flows, reaches, candidate}
use Rattle.settings.specs.Tested.{tested, Offered}

offered_free : (t s r o : ℕ) → Offered t s r o → t + o ≤ s → r ≤ o
offered_free t s r o h a = ⊎_elim (λ (k : r ≤ o). k) (λ (k : s < t + o). absurd (omega arith)) h

-- where the link sends more than f: f_c ≤ f exactly where D × S < (f + 1) × R; where R fits S neither holds
pub main_product : (d t s f o : ℕ) → f < d → (passed d (t + o) s ≤ f) ↔ (d * s < (f + 1) * t + (f + 1) * o)
main_product d t s f o h = ⊎_elim free tight (le_or_lt (t + o) s)
  where
    free : t + o ≤ s → (passed d (t + o) s ≤ f) ↔ (d * s < (f + 1) * t + (f + 1) * o)
    free a =
        let more : f + 1 ≤ d = omega arith in (
          λ e. absurd (omega (arith, passed_free d (t + o) s a)),
          λ e. absurd (omega (arith, mul-add (f + 1) t o, mul-le-mul_left (f + 1) a, mul_comm (f + 1) s, mul_comm d s, mul-le-mul_left s more)),
        )

    tight : s < t + o → (passed d (t + o) s ≤ f) ↔ (d * s < (f + 1) * t + (f + 1) * o)
    tight a =
        let p : 0 < t + o = omega arith in (
          λ e. let b : d * s / (t + o) < f + 1 = omega (arith, passed_tight d (t + o) s a) in omega (arith, (div-lt_iff_lt-mul p).0 b, mul-add (f + 1) t o),
          λ e. let b : d * s / (t + o) < f + 1 = (div-lt_iff_lt-mul p).1 (omega (arith, mul-add (f + 1) t o)) in omega (arith, passed_tight d (t + o) s a),
        )

-- where r is offered, or not all fits: r ≤ r_c exactly where r × R ≤ d × S; where R fits S both hold
ramp_product : (t s r o : ℕ) → Offered t s r o → (r ≤ passed o (t + o) s) ↔ (r * t + r * o ≤ o * s)
ramp_product t s r o h = ⊎_elim free tight (le_or_lt (t + o) s)
  where
    free : t + o ≤ s → (r ≤ passed o (t + o) s) ↔ (r * t + r * o ≤ o * s)
    free a =
        let k : r ≤ o = offered_free t s r o h a in (
          λ e. omega (arith, mul-add r t o, mul-le-mul_left r a, mul_comm r s, mul_comm o s, mul-le-mul_left s k),
          λ e. omega (arith, passed_free o (t + o) s a),
        )

    tight : s < t + o → (r ≤ passed o (t + o) s) ↔ (r * t + r * o ≤ o * s)
    tight a =
        let p : 0 < t + o = omega arith in (
          λ e. let b : r ≤ o * s / (t + o) = omega (arith, passed_tight o (t + o) s a) in omega (arith, (le-div_iff_mul-le p).0 b, mul-add r t o),
          λ e. let b : r ≤ o * s / (t + o) = (le-div_iff_mul-le p).1 (omega (arith, mul-add r t o)) in omega (arith, passed_tight o (t + o) s a),
        )

-- no more passes than S
pub ramp_over : (t s r o : ℕ) → s < r → false ≡ leb r (passed o (t + o) s)
ramp_over t s r o h =
    let all : o ≤ t + o = omega arith in
    let most : passed o (t + o) s ≤ s =
    ⊎_elim (λ (a : t + o ≤ s). omega (arith, passed_free o (t + o) s a)) (λ (a : s < t + o). omega (arith, passed_tight o (t + o) s a, share_le_part o s (t + o) all)) (le_or_lt (t + o) s) in
    sym (lt-leb r (passed o (t + o) s) (omega arith))

-- as the code compares, where r is at most S
pub ramp_rest : (t s r o : ℕ) → Offered t s r o → r ≤ s → (r ≤ passed o (t + o) s) ↔ (r * t ≤ o * (s - r))
ramp_rest t s r o a k =
    let p = ramp_product t s r o a in (
      λ e. let b = p.0 e in omega (arith, mul-sub o s r, mul_comm o r, mul-le-mul_left o k),
      λ e. p.1 (omega (arith, mul-sub o s r, mul_comm o r, mul-le-mul_left o k)),
    )

-- what a try compares
pub ruleset products = (nat_tests, passed_free, passed_le, main_product)

-- the numbers that the tries share
pub tested_reaches : (junction : Junction) (wanted : Flows) (d t m c : ℕ) → d ≡ sending junction.link junction.state.vehicles junction.link.full_speed → t ≡ through d junction.split
    → m ≡ min junction.state.queue junction.ramp.capacity → tested d t junction.supply m wanted.main wanted.ramp c ≡ reaches junction wanted c
unfolding tested reaches full_flows flows_with merge offer
tested_reaches junction wanted d t m c p q u =
    let o : min m c ≡ min junction.state.queue (min junction.ramp.capacity c) = omega arith in
    rw (o, q, p)

-- the tries of one node and step
pub candidate_tested : (junction : Junction) (wanted : Flows) (d t m : ℕ) (r : Halved) → d ≡ sending junction.link junction.state.vehicles junction.link.full_speed
    → t ≡ through d junction.split → m ≡ min junction.state.queue junction.ramp.capacity
    → r ≡ halving (tested d t junction.supply m wanted.main wanted.ramp) junction.ramp.capacity → r ≡ candidate junction wanted
unfolding candidate
candidate_tested junction wanted d t m r p q u e =
    e ∙ halving_same _ (reaches junction wanted) junction.ramp.capacity (λ c h. tested_reaches junction wanted d t m c p q u)
