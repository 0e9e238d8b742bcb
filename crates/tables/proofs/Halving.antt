-- Laws of the search by halving: what it comes to for a test that, once it holds, holds for every larger number, and how many tries it takes.
use mathlib.Core.Bool.{Bool, true, false}
use mathlib.Core.Path.{◌≡◌, refl, sym, ap, ap₂, subst, ◌∙◌}
use mathlib.Core.Logic.{⊎_elim}
use Prim.Native.Nat.{ℕ, zero, suc, ◌+◌, ◌-◌, ◌/◌, ◌^◌, ◌≤◌, ◌<◌}
use native.Mathlib.Nat.{pow-zero, pow-suc}
use native.Mathlib.Numerals.{add-one}
use native.Mathlib.Omega.{arith}
use borrow.Author.Tests.{lt-ltb, le-ltb, leb-true, le-leb}
use lib.Dec.{leb}
use Rattle.tables.specs.Least.{least_from, least}
use Rattle.tables.specs.declared.Halved.{Halved}
use Rattle.tables.specs.Halving.{last, tried, middle, lowest, highest, halved_in, halved, halving, ceil_log}
use Rattle.tables.proofs.Numbers.{le_or_lt, not_both}
use Rattle.tables.proofs.Least.{Upward, Bracket, bracket_begun, bracket_up_to, bracket_past, bracket_ended, least_below, least_passes}

-- ---- one turn, and all of them

-- each takes away a rate
fewer : (b : Bool) (low high : ℕ) → low < high → highest b low high - lowest b low high < high - low
fewer true low high h = omega arith
fewer false low high h = omega arith

module _ (enough : ℕ → Bool) where
  turn_last : (t low high : ℕ) → high ≤ low → halved_in t enough low high ≡ last low
  unfolding halved_in
  turn_last zero low high h = refl
  turn_last (suc t) low high h = rw (le-ltb low high h) refl

  turn_more : (t low high : ℕ) (b : Bool) → low < high → enough (middle low high) ≡ b → halved_in (suc t) enough low high ≡ tried (halved_in t enough (lowest b low high) (highest b low high))
  unfolding halved_in
  turn_more t low high b h q =
      rw (lt-ltb low high h) (λ z. tried (halved_in t enough (lowest (q z) low high) (highest (q z) low high)))

  -- what holds of the one left, and of the tries by what the test says of the middle, holds of the whole
  by_turns : (P : ℕ → ℕ → Halved → Type 0) → ((low high : ℕ) → high ≤ low → P low high (last low))
      → ((low high : ℕ) (b : Bool) (x : Halved) → low < high → enough (middle low high) ≡ b → P (lowest b low high) (highest b low high) x → P low high (tried x))
      → (t low high : ℕ) → high - low ≤ t → P low high (halved_in t enough low high)
  by_turns P ended more zero low high a = subst (P low high) (sym (turn_last zero low high (omega arith))) (ended low high (omega arith))
  by_turns P ended more (suc t) low high a =
      ⊎_elim (λ (h : high ≤ low). subst (P low high) (sym (turn_last (suc t) low high h)) (ended low high h))
      (λ (h : low < high).
      let b : Bool = enough (middle low high) in
      subst (P low high) (sym (turn_more t low high b h refl)) (more low high b _ h refl (by_turns P ended more t (lowest b low high) (highest b low high) (omega (arith, fewer b low high h)))))
      (le_or_lt high low)

  -- how many turns it is given does not matter, so long as they are enough
  turns_same : (t u low high : ℕ) → high - low ≤ t → high - low ≤ u → halved_in t enough low high ≡ halved_in u enough low high
  turns_same t u low high a b =
      by_turns (λ low high x. (u : ℕ) → high - low ≤ u → x ≡ halved_in u enough low high) (λ low high h u k. sym (turn_last u low high h)) more t low high a u b
    where
      more : (low high : ℕ) (b : Bool) (x : Halved) → low < high → enough (middle low high) ≡ b
          → ((u : ℕ) → highest b low high - lowest b low high ≤ u → x ≡ halved_in u enough (lowest b low high) (highest b low high)) → (u : ℕ) → high - low ≤ u → tried x ≡ halved_in u enough low high
      more low high b x h q same zero k = absurd (omega arith)
      more low high b x h q same (suc u) k = ap tried (same u (omega (arith, fewer b low high h))) ∙ sym (turn_more u low high b h q)

  -- one more try
  halved_more : (low high : ℕ) (b : Bool) → low < high → enough (middle low high) ≡ b → halved enough low high ≡ tried (halved enough (lowest b low high) (highest b low high))
  halved_more low high b h q =
      turns_same (high - low) (suc (high - low)) low high (omega arith) (omega arith) ∙ turn_more (high - low) low high b h q
      ∙ ap tried (turns_same (high - low) (highest b low high - lowest b low high) (lowest b low high) (highest b low high) (omega (arith, fewer b low high h)) (omega arith))

-- ---- the one rate left

-- it is the smallest that is enough, or the last
pub halving_rate : (enough : ℕ → Bool) → Upward enough → (top : ℕ) → (halving enough top).rate ≡ least enough top
unfolding halving
halving_rate enough up top =
    by_turns enough (λ low high x. Bracket enough top low high → x.rate ≡ least enough top) (λ low high h b. bracket_ended enough top low high b h) more _ _ _ (omega arith) (bracket_begun enough top)
  where
    more : (low high : ℕ) (b : Bool) (x : Halved) → low < high → enough (middle low high) ≡ b → (Bracket enough top (lowest b low high) (highest b low high) → x.rate ≡ least enough top)
        → Bracket enough top low high → x.rate ≡ least enough top
    more low high true x h q rest b = rest (bracket_up_to enough top low high (middle low high) b (omega arith) (omega arith) q)
    more low high false x h q rest b =
        rest (subst (λ (y : ℕ). Bracket enough top y high) (add-one (middle low high)) (bracket_past enough top low high (middle low high) up b (omega arith) (omega arith) q))

-- ---- the tries

-- a power of 2 is above its exponent
power_above : (e : ℕ) → e < 2 ^ e
power_above zero = omega (arith, pow-zero 2)
power_above (suc e) = omega (arith, power_above e, pow-suc 2 e)

some_try : (enough : ℕ → Bool) (t low high : ℕ) → high - low ≤ t → 1 ≤ (halved_in t enough low high).tries
some_try enough t low high a = by_turns enough (λ low high x. 1 ≤ x.tries) (λ low high h. omega arith) (λ low high b x h q rest. omega arith) t low high a

pub halving_some : (enough : ℕ → Bool) (top : ℕ) → 1 ≤ (halving enough top).tries
unfolding halving
halving_some enough top = some_try enough (top - 0) 0 top (omega arith)

-- of 2 ^ e rates or fewer no more than e are tried before the last
pub tries_few : (enough : ℕ → Bool) (top e : ℕ) → top < 2 ^ e → (halving enough top).tries ≤ 1 + e
unfolding halving
tries_few enough top e h =
    by_turns enough (λ low high x. (e : ℕ) → high - low < 2 ^ e → x.tries ≤ 1 + e) (λ low high k e l. omega arith) more (top - 0) 0 top (omega arith) e (omega arith)
  where
    more : (low high : ℕ) (b : Bool) (x : Halved) → low < high → enough (middle low high) ≡ b → ((e : ℕ) → highest b low high - lowest b low high < 2 ^ e → x.tries ≤ 1 + e)
        → (e : ℕ) → high - low < 2 ^ e → suc x.tries ≤ 1 + e
    more low high b x k q rest zero l = absurd (omega (arith, pow-zero 2))
    more low high true x k q rest (suc e) l = omega (arith, rest e (omega (arith, pow-suc 2 e)))
    more low high false x k q rest (suc e) l = omega (arith, rest e (omega (arith, pow-suc 2 e)))

-- of more than 2 ^ e rates more are, where each is enough
tries_many : (top e : ℕ) → 2 ^ e ≤ top → 2 + e ≤ (halving (λ c. true) top).tries
unfolding halving
tries_many top e h =
    (by_turns (λ c. true) (λ low high x. (1 ≤ x.tries) × ((e : ℕ) → 2 ^ e ≤ high - low → 2 + e ≤ x.tries)) (λ low high k. (omega arith, λ e l. absurd (omega (arith, power_above e)))) more (top - 0) 0 top (omega arith)).1 e
    (omega arith)
  where
    more : (low high : ℕ) (b : Bool) (x : Halved) → low < high → true ≡ b → (1 ≤ x.tries) × ((e : ℕ) → 2 ^ e ≤ highest b low high - lowest b low high → 2 + e ≤ x.tries)
        → (1 ≤ suc x.tries) × ((e : ℕ) → 2 ^ e ≤ high - low → 2 + e ≤ suc x.tries)
    more low high false x k q rest = absurd (not_both true refl q)
    more low high true x k q rest = (omega arith, next)
      where
        next : (e : ℕ) → 2 ^ e ≤ high - low → 2 + e ≤ suc x.tries
        next zero l = omega (arith, rest.0)
        next (suc e) l = omega (arith, rest.1 e (omega (arith, pow-suc 2 e)))

-- ---- log2, rounded up

pub log_high : (n : ℕ) → n ≤ 2 ^ ceil_log n
unfolding ceil_log
log_high n =
    ⊎_elim (λ (h : n ≤ ceil_log n). omega (arith, power_above (ceil_log n)))
    (λ (h : ceil_log n < n). leb-true n (2 ^ ceil_log n) (least_passes (λ e. leb n (2 ^ e)) n h))
    (le_or_lt n (ceil_log n))

pub log_low : (n e : ℕ) → e < ceil_log n → 2 ^ e < n
unfolding ceil_log
log_low n e h =
    ⊎_elim (λ (k : n ≤ 2 ^ e). absurd (not_both (leb n (2 ^ e)) (le-leb n (2 ^ e) k) (least_below (λ d. leb n (2 ^ d)) n e h))) (λ (k : 2 ^ e < n). k) (le_or_lt n (2 ^ e))

pub log_65537 : ceil_log 65537 ≡ 17
unfolding ceil_log least_from
log_65537 = refl

-- 1 + log2 (C + 1), rounded up
pub tries_most : (enough : ℕ → Bool) (top : ℕ) → (halving enough top).tries ≤ 1 + ceil_log (top + 1)
tries_most enough top = tries_few enough top (ceil_log (top + 1)) (omega (arith, log_high (top + 1)))

-- so many are tried where every rate is enough
pub tries_reached : (top : ℕ) → (halving (λ c. true) top).tries ≡ 1 + ceil_log (top + 1)
tries_reached top = by (ceil_log (top + 1)) (tries_most (λ c. true) top) (log_low (top + 1))
  where
    by : (e : ℕ) → (halving (λ c. true) top).tries ≤ 1 + e → ((d : ℕ) → d < e → 2 ^ d < top + 1) → (halving (λ c. true) top).tries ≡ 1 + e
    by zero a b = omega (arith, halving_some (λ c. true) top)
    by (suc e) a b = omega (arith, tries_many top e (omega (arith, b e (omega arith))))

-- ---- tests that agree on the rates 0..C come to the same

pub halving_same : (p q : ℕ → Bool) (top : ℕ) → ((c : ℕ) → c ≤ top → p c ≡ q c) → halving p top ≡ halving q top
unfolding halving
halving_same p q top e =
    by_turns p (λ low high x. high ≤ top → x ≡ halved q low high) (λ low high h k. sym (turn_last q (high - low) low high h)) more (top - 0) 0 top (omega arith) (omega arith)
  where
    more : (low high : ℕ) (b : Bool) (x : Halved) → low < high → p (middle low high) ≡ b → (highest b low high ≤ top → x ≡ halved q (lowest b low high) (highest b low high)) → high ≤ top → tried x ≡ halved q low high
    more low high true x h t rest k = ap tried (rest (omega arith)) ∙ sym (halved_more q low high true h (sym (e (middle low high) (omega arith)) ∙ t))
    more low high false x h t rest k = ap tried (rest k) ∙ sym (halved_more q low high false h (sym (e (middle low high) (omega arith)) ∙ t))

-- ---- as a loop's invariant: `tries` rates were tried, and `low` and `more` above it are left

pub record Halving (enough : ℕ → Bool) (top low more tries : ℕ) : Type 0 where
  pub within : low + more ≤ top
  pub rest : halving enough top ≡ record { rate = (halved enough low (low + more)).rate; tries = tries + (halved enough low (low + more)).tries }

module _ (enough : ℕ → Bool) (top : ℕ) where
  pub halving_begun : Halving enough top 0 top 0
  unfolding halving
  halving_begun =
      let all : top ≡ 0 + top = omega arith in
      let none : (halved enough 0 (0 + top)).tries ≡ 0 + (halved enough 0 (0 + top)).tries = omega arith in
      record { within = omega arith; rest = ap (halved enough 0) all ∙ (λ z. record { rate = (halved enough 0 (0 + top)).rate; tries = none z }) }

  -- one more is tried, and x is what the search of those that are kept comes to
  module _ (low more tries m : ℕ) (h : Halving enough top low more tries) (l : 0 < more) (e : m ≡ low + more / 2) where
    mid : middle low (low + more) ≡ m
    mid = omega arith

    kept_as : (x : Halved) → halved enough low (low + more) ≡ tried x → halving enough top ≡ record { rate = x.rate; tries = tries + 1 + x.tries }
    kept_as x q =
        let r : tries + suc x.tries ≡ tries + 1 + x.tries = omega arith in
        h.rest ∙ (λ z. record { rate = (q z).rate; tries = tries + (q z).tries }) ∙ (λ z. record { rate = x.rate; tries = r z })

    chosen : (b : Bool) → enough m ≡ b → halved enough low (low + more) ≡ tried (halved enough (lowest b low (low + more)) (highest b low (low + more)))
    chosen b q = halved_more enough low (low + more) b (omega arith) (ap enough mid ∙ q)

    pub halving_up_to : enough m ≡ true → Halving enough top low (more / 2) (tries + 1)
    halving_up_to q =
        record { within = omega (arith, h.within); rest = kept_as (halved enough low (low + more / 2)) (chosen true q ∙ ap (λ (x : ℕ). tried (halved enough low x)) (mid ∙ e)) }

    pub halving_past : enough m ≡ false → Halving enough top (m + 1) ((more - 1) / 2) (tries + 1)
    halving_past q =
        let from : suc (middle low (low + more)) ≡ m + 1 = omega (arith, mid) in
        let to : low + more ≡ m + 1 + (more - 1) / 2 = omega arith in
        record {
          within = omega (arith, h.within);
          rest = kept_as (halved enough (m + 1) (m + 1 + (more - 1) / 2)) (chosen false q ∙ ap₂ (λ (x y : ℕ). tried (halved enough x y)) from to);
        }

  pub halving_ended : (low more tries : ℕ) → Halving enough top low more tries → more ≤ 0 → halving enough top ≡ record { rate = low; tries = tries + 1 }
  halving_ended low more tries h l =
      let last = turn_last enough (low + more - low) low (low + more) (omega arith) in
      h.rest ∙ (λ z. record { rate = (last z).rate; tries = tries + (last z).tries })

  -- a counter of 32 bits has room for one more
  pub halving_room : (low more tries : ℕ) → Halving enough top low more tries → top ≤ 4294967295 → tries ≤ 32
  halving_room low more tries h l =
      let few = tries_few enough top 32 (omega arith) in
      let r : (halving enough top).tries ≡ tries + (halved enough low (low + more)).tries = ap (λ (x : Halved). x.tries) h.rest in
      omega (arith, some_try enough (low + more - low) low (low + more) (omega arith))
