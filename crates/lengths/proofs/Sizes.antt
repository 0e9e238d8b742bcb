-- Refusal 1 as facts, and what the test of all lengths gives: the facts that the functions on the lists ask for.
use Prim.Native.Nat.{ℕ, ◌+◌, ◌*◌, ◌≤◌, ◌<◌}
use mathlib.Core.Bool.{Bool, true, false, true≢false, cond, ◌&&◌, ◌||◌, or-true, or-false}
use mathlib.Core.Path.{◌≡◌, refl, sym, ap, ap₂, subst, ◌∙◌}
use mathlib.Core.List.{List}
use mathlib.Core.Logic.{◌↔◌, ◌⊎◌, ⊎_elim}
use native.Mathlib.Nat.{mul-le-mul}
use native.Mathlib.Numerals.{add-one}
use native.Mathlib.Omega.{arith}
use borrow.Author.Tests.{eq-eqb, ne_eqb}
use lib.Dec.{eqb}
use lib.ListN.{length}
use Rattle.tables.proofs.Numbers.{le_or_lt}
use Rattle.road.specs.Limits.{Within}
use Rattle.faults.specs.Lists.{within}
use Rattle.faults.proofs.Tests.{eq_holds, both_hold, one_holds, within_holds}
use Rattle.lists.specs.Words.{links_of, steps_of, corridor_length, node_width, demands_length, downstream_length, plan_length, Width, record_length, record_width, width_of}
use Rattle.lists.specs.Fits.{CorridorFits, DemandsFit}
use Rattle.lists.proofs.Corridors.{by_dropped, by_plain}
use Rattle.lengths.specs.Lengths.{corridor_sized, demands_sized, record_sized, sizes, lengths_fit}

-- ---- 1. N, K and the lengths of the two lists

-- the length of a corridor is that of kind 1, or that of kind 10
abbrev pub CorridorSized : ℕ → ℕ → Type 0
CorridorSized links count = (count ≡ corridor_length 9 links) ⊎ (count ≡ corridor_length 11 links)

corridor_sized_iff : (links count : ℕ) → (corridor_sized links count ≡ true) ↔ CorridorSized links count
unfolding corridor_sized
corridor_sized_iff links count = one_holds _ _ (eq_holds count (corridor_length 9 links)) (eq_holds count (corridor_length 11 links))

-- the length of demands is that of kind 2, or that of kind 5
abbrev pub DemandsSized : ℕ → ℕ → ℕ → Type 0
DemandsSized links steps count = (count ≡ demands_length links steps) ⊎ (count ≡ downstream_length links steps)

demands_sized_iff : (links steps count : ℕ) → (demands_sized links steps count ≡ true) ↔ DemandsSized links steps count
unfolding demands_sized
demands_sized_iff links steps count = one_holds _ _ (eq_holds count (demands_length links steps)) (eq_holds count (downstream_length links steps))

pub record Sizes (corridor demands : List ℕ) : Type 0 where
  pub links : Within 1 64 (links_of corridor)
  pub steps : Within 1 1440 (steps_of demands)
  pub corridor_fits : CorridorSized (links_of corridor) (length corridor)
  pub demands_fit : DemandsSized (links_of corridor) (steps_of demands) (length demands)

pub sizes_iff : (corridor demands : List ℕ) → (sizes corridor demands ≡ true) ↔ Sizes corridor demands
unfolding sizes
sizes_iff corridor demands =
    let r = both_hold _ _ (within_holds 1 64 (links_of corridor))
    (both_hold _ _ (within_holds 1 1440 (steps_of demands))
    (both_hold _ _ (corridor_sized_iff (links_of corridor) (length corridor))
    (demands_sized_iff (links_of corridor) (steps_of demands) (length demands)))) in (
      λ e. let h = r.0 e in record { links = h.0; steps = h.1.0; corridor_fits = h.1.1.0; demands_fit = h.1.1.1 },
      λ s. r.1 (s.links, (s.steps, (s.corridor_fits, s.demands_fit))),
    )

-- links and steps as calls gave them
pub sizes_are : (corridor demands : List ℕ) (links steps : ℕ) (r : Bool) → links ≡ links_of corridor → steps ≡ steps_of demands
    → r ≡ lengths_fit links steps (length corridor) (length demands) → r ≡ sizes corridor demands
unfolding sizes lengths_fit
sizes_are corridor demands links steps r n k e = rw (← n, ← k) e

-- ---- the two lengths of a corridor

module _ (links count : ℕ) where
  -- either kind's length is that of the width which it tells: kind 1 is shorter than kind 10
  pub sized_words : CorridorSized links count → count ≡ corridor_length (node_width links count) links
  sized_words s =
      ⊎_elim
      (λ (e : count ≡ corridor_length 9 links). e ∙ ap (λ (w : ℕ). corridor_length w links) (sym (by_plain links count 11 9 (λ d. omega arith))))
      (λ (e : count ≡ corridor_length 11 links). e ∙ ap (λ (w : ℕ). corridor_length w links) (sym (by_dropped links count 11 9 e)))
      s

  pub plain_sized : count ≡ 1 + (links + 1) * 9 → true ≡ corridor_sized links count
  unfolding corridor_sized
  plain_sized h =
      let e : count ≡ corridor_length 9 links = omega arith in ap (λ (t : Bool). t || eqb count (corridor_length 11 links)) (sym (eq-eqb _ _ e))

  pub dropped_sized : (count ≡ 1 + (links + 1) * 9 → ⊥) → eqb count (1 + (links + 1) * 11) ≡ corridor_sized links count
  unfolding corridor_sized
  dropped_sized h =
      let long : 1 + (links + 1) * 11 ≡ corridor_length 11 links = omega arith in
      let other : count ≡ corridor_length 9 links → ⊥ = λ e. h (omega arith) in
      ap (eqb count) long ∙ ap (λ (t : Bool). t || eqb count (corridor_length 11 links)) (sym (ne_eqb _ _ other))

-- ---- the two lengths of demands: `rows` is how many words the rows have, as the code counts them

-- the words of all rows are few
pub rows_few : (links steps : ℕ) → links ≤ 64 → steps ≤ 1440 → steps * ((links + 1) * 2) ≤ 187200
rows_few links steps h k = let narrow : (links + 1) * 2 ≤ 130 = omega arith in omega (arith, mul-le-mul k narrow)

module _ (links steps count rows : ℕ) (e : rows ≡ steps * ((links + 1) * 2)) where
  short_is : 1 + rows ≡ demands_length links steps
  short_is = ap (λ (n : ℕ). 1 + n) e ∙ ap (λ (n : ℕ). 1 + steps * (n * 2)) (add-one links)

  pub short_sized : count ≡ 1 + rows → true ≡ demands_sized links steps count
  unfolding demands_sized
  short_sized h = ap (λ (t : Bool). t || eqb count (downstream_length links steps)) (sym (eq-eqb _ _ (h ∙ short_is)))

  pub long_sized : (count ≡ 1 + rows → ⊥) → eqb count (1 + rows + steps) ≡ demands_sized links steps count
  unfolding demands_sized
  long_sized h =
      ap (λ (n : ℕ). eqb count (n + steps)) short_is
      ∙ ap (λ (t : Bool). t || eqb count (downstream_length links steps)) (sym (ne_eqb _ _ (λ q. h (q ∙ sym short_is))))

-- ---- the two lengths of a record

pub record_wide : (links steps count : ℕ) → Width (record_width links steps count)
unfolding record_width
record_wide links steps count = by_kind (eqb count (record_length 5 links steps))
  where
    by_kind : (t : Bool) → Width (cond t 5 4)
    by_kind true = record { least = omega arith; most = omega arith }
    by_kind false = record { least = omega arith; most = omega arith }

-- m is the length of kind 7 as a call gave it
pub told_seven : (links steps count m : ℕ) → m ≡ record_length 5 links steps → count ≡ m → 5 ≡ record_width links steps count
unfolding record_width
told_seven links steps count m e h = simp (eq-eqb count (record_length 5 links steps) (h ∙ e))

pub told_three : (links steps count m : ℕ) → m ≡ record_length 5 links steps → (count ≡ m → ⊥) → 4 ≡ record_width links steps count
unfolding record_width
told_three links steps count m e h = simp (ne_eqb count (record_length 5 links steps) (λ q. h (q ∙ sym e)))

-- a list has the length of the kind that its length tells, or of none
pub record_sized_is : (links steps count : ℕ) → eqb count (record_length (record_width links steps count) links steps) ≡ record_sized links steps count
unfolding record_width record_sized
record_sized_is links steps count = by_kind (eqb count (record_length 5 links steps)) refl
  where
    by_kind : (t : Bool) → eqb count (record_length 5 links steps) ≡ t → eqb count (record_length (cond t 5 4) links steps) ≡ (eqb count (record_length 4 links steps) || t)
    by_kind true e = e ∙ sym (or-true (eqb count (record_length 4 links steps)))
    by_kind false e = sym (or-false (eqb count (record_length 4 links steps)))

pub record_sized_iff : (links steps count : ℕ) → (record_sized links steps count ≡ true) ↔ (count ≡ record_length (record_width links steps count) links steps)
record_sized_iff links steps count =
    let is = record_sized_is links steps count in
    let r = eq_holds count (record_length (record_width links steps count) links steps) in
    (λ e. r.0 (is ∙ e), λ e. sym is ∙ r.1 e)

-- width and length as calls gave them
pub record_sized_told : (links steps count width m : ℕ) → width ≡ record_width links steps count → m ≡ record_length width links steps → eqb count m ≡ record_sized links steps count
record_sized_told links steps count width m e h =
    ap (eqb count) (h ∙ ap (λ (w : ℕ). record_length w links steps) e) ∙ record_sized_is links steps count

-- width, links and steps as calls gave them
pub width_told : (corridor demands : List ℕ) (links steps count width : ℕ) → links ≡ links_of corridor → steps ≡ steps_of demands → width ≡ record_width links steps count
    → width ≡ width_of corridor demands count
width_told corridor demands links steps count width n k w = w ∙ ap₂ (λ (x y : ℕ). record_width x y count) n k

-- a list of the length of a kind is of that kind
pub width_is : (width links steps : ℕ) → Width width → record_width links steps (record_length width links steps) ≡ width
width_is width links steps w =
    ⊎_elim
    (λ (h : 5 ≤ width).
    let e : 5 ≡ width = omega (arith, w.most) in
    subst (λ (x : ℕ). record_width links steps (record_length x links steps) ≡ x) e (sym (told_seven links steps (record_length 5 links steps) (record_length 5 links steps) refl refl)))
    (λ (h : width < 5).
    let e : 4 ≡ width = omega (arith, w.least) in
    subst (λ (x : ℕ). record_width links steps (record_length x links steps) ≡ x) e
    (sym (told_three links steps (record_length 4 links steps) (record_length 5 links steps) refl
    (λ q. omega (arith, shorter)))))
    (le_or_lt 5 width)
  where
    shorter : record_length 4 links steps < record_length 5 links steps
    shorter = omega arith

-- ---- links and steps are N and K as the code has them

pub corridor_fits_lem : (corridor demands : List ℕ) (links : ℕ) → sizes corridor demands ≡ true → links ≡ links_of corridor → CorridorFits corridor links
corridor_fits_lem corridor demands links e n =
    let s = (sizes_iff corridor demands).0 e in
    record { first = n; few = omega (arith, s.links); words = rw n (sized_words (links_of corridor) (length corridor) s.corridor_fits) }

-- either kind has the words of kind 2
pub demands_long : (links steps count : ℕ) → DemandsSized links steps count → demands_length links steps ≤ count
demands_long links steps count s =
    ⊎_elim (λ (e : count ≡ demands_length links steps). omega arith) (λ (e : count ≡ downstream_length links steps). omega arith) s

pub demands_fit_lem : (corridor demands : List ℕ) (links steps : ℕ) → sizes corridor demands ≡ true → links ≡ links_of corridor → steps ≡ steps_of demands
    → DemandsFit demands links steps
demands_fit_lem corridor demands links steps e n k =
    let s = (sizes_iff corridor demands).0 e in
    record { first = k; few = omega (arith, s.links); short = omega (arith, s.steps); words = rw (n, k) (demands_long _ _ _ s.demands_fit) }

pub steps_few : (corridor demands : List ℕ) (steps : ℕ) → sizes corridor demands ≡ true → steps ≡ steps_of demands → steps ≤ 1440
steps_few corridor demands steps e k = let s = (sizes_iff corridor demands).0 e in omega (arith, s.steps)

pub plan_length_as : (corridor demands plan : List ℕ) (links steps : ℕ) → length plan ≡ plan_length (links_of corridor) (steps_of demands)
    → links ≡ links_of corridor → steps ≡ steps_of demands → length plan ≡ plan_length links steps
plan_length_as corridor demands plan links steps e n k = e ∙ ap₂ plan_length (sym n) (sym k)

-- a list has the words of its rows, which begin after no word, or after one
pub plan_words_lem : (corridor demands plan : List ℕ) (links steps : ℕ) → length plan ≡ plan_length (links_of corridor) (steps_of demands)
    → links ≡ links_of corridor → steps ≡ steps_of demands → 0 + plan_length links steps ≤ length plan
plan_words_lem corridor demands plan links steps e n k = omega (arith, plan_length_as corridor demands plan links steps e n k)

pub demand_words : (corridor demands : List ℕ) (links steps : ℕ) → sizes corridor demands ≡ true → links ≡ links_of corridor → steps ≡ steps_of demands
    → demands_length links steps ≤ length demands
demand_words corridor demands links steps e n k = (demands_fit_lem corridor demands links steps e n k).words

-- a record's length by width, links and steps as calls gave them
pub record_as : (count width links steps w n k : ℕ) → width ≡ w → links ≡ n → steps ≡ k → count ≡ record_length w n k → count ≡ record_length width links steps
record_as count width links steps w n k a b d e = rw (a, b, d) e

-- ---- the tests of N and K, then of each list, as the code joins them

first_fails : (a b c : Bool) → (a && b) ≡ false → false ≡ (a && (b && c))
first_fails true true c e = absurd (true≢false e)
first_fails true false c e = refl
first_fails false b c e = refl

first_holds : (a b c : Bool) → (a && b) ≡ true → c ≡ (a && (b && c))
first_holds true true c e = refl
first_holds true false c e = absurd (true≢false (sym e))
first_holds false b c e = absurd (true≢false (sym e))

module _ (links steps corridor demands : ℕ) (t : Bool) (told : t ≡ (within 1 64 links && within 1 1440 steps)) where
  pub range_fails : t ≡ false → false ≡ lengths_fit links steps corridor demands
  unfolding lengths_fit
  range_fails e = first_fails (within 1 64 links) (within 1 1440 steps) (corridor_sized links corridor && demands_sized links steps demands) (sym told ∙ e)

  pub corridor_fails : (u : Bool) → t ≡ true → u ≡ corridor_sized links corridor → u ≡ false → false ≡ lengths_fit links steps corridor demands
  unfolding lengths_fit
  corridor_fails u e h f =
      ap (λ (x : Bool). x && demands_sized links steps demands) (sym f ∙ h) ∙ first_holds (within 1 64 links) (within 1 1440 steps) _ (sym told ∙ e)

  pub demands_decide : (u v : Bool) → t ≡ true → u ≡ corridor_sized links corridor → u ≡ true → v ≡ demands_sized links steps demands
      → v ≡ lengths_fit links steps corridor demands
  unfolding lengths_fit
  demands_decide u v e h f d =
      d ∙ ap (λ (x : Bool). x && demands_sized links steps demands) (sym f ∙ h) ∙ first_holds (within 1 64 links) (within 1 1440 steps) _ (sym told ∙ e)
