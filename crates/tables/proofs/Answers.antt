-- Laws of answers: of `or_else`, of a `refusal` by its number, of `unless`, of `sized`, and of what is `left` of a lent list.
use mathlib.Core.Bool.{Bool, true, false, true≢false, cond}
use mathlib.Core.List.{List}
use mathlib.Core.Logic.{◌↔◌, ◌≢◌}
use mathlib.Core.Path.{◌≡◌, refl, sym, ap, ◌∙◌, subst}
use Prim.Native.Nat.{ℕ, zero, suc, ◌≤◌}
use native.Mathlib.Omega.{arith}
use lib.Dec.{eqb}
use Rattle.std.specs.Prelude.{Result, Ok, Err}
use Rattle.tables.specs.declared.Refusal.{Refusal}
use Rattle.tables.specs.declared.Fault.{Fault}
use Rattle.tables.specs.declared.Fault.TheVariants.{Size, Link, Ramp, Start, Demand, Plan, Fixed, Sending, Receiving, Offer, Moved, Queue, Cost}
use Rattle.tables.specs.declared.Fault.TheVariants.{Bytes, Check, Kind, Number, Padding}
use Rattle.tables.specs.Answer.{Answer}
use Rattle.tables.specs.Answer.{Accepted, Refused}
use Rattle.tables.specs.Answer.{fault_number, answer_of, number_of, row_of, node_of, is_refused, or_else, refusal, unless, sized, left, Small, TakenApart}

abbrev pub Refuses : Answer → Type 0
Refuses Accepted = ⊥
Refuses (Refused number row node) = Unit {0}

-- what a `match` tells of a value
pub refuses_is : (a : Answer) (number row node : ℕ) → a ≡ Refused number row node → Refuses a
refuses_is a number row node e = subst Refuses (sym e) tt

-- what the test of an answer tells: t is what the test answered
pub told_refused : (a : Answer) (t : Bool) → t ≡ is_refused a → t ≡ true → Refuses a
told_refused Accepted t e h = let z : ◌≡◌ {A = ℕ} 0 1 = cc in absurd (omega arith)
told_refused (Refused number row node) t e h = tt

pub told_accepted : (a : Answer) (t : Bool) → t ≡ is_refused a → t ≡ false → a ≡ Accepted
told_accepted Accepted t e h = refl
told_accepted (Refused number row node) t e h = let z : ◌≡◌ {A = ℕ} 0 1 = cc in absurd (omega arith)

pub accepted_not_refused : (number row node : ℕ) → Accepted ≡ Refused number row node → ⊥
accepted_not_refused number row node e = subst Refuses (sym e) tt

-- ---- a result is what its answer says: no two faults have one number, and no two results one answer

-- the fault of a number
abbrev fault_at : ℕ → Fault
fault_at x =
    cond (eqb x 1) Size
    (cond (eqb x 2) Link
    (cond (eqb x 3) Ramp
    (cond (eqb x 4) Start
    (cond (eqb x 5) Demand
    (cond (eqb x 6) Plan
    (cond (eqb x 7) Fixed
    (cond (eqb x 8) Sending
    (cond (eqb x 9) Receiving
    (cond (eqb x 10) Offer
    (cond (eqb x 11) Moved
    (cond (eqb x 12) Queue
    (cond (eqb x 13) Cost
    (cond (eqb x 14) Bytes
    (cond (eqb x 15) Check
    (cond (eqb x 16) Kind
    (cond (eqb x 17) Number
    Padding))))))))))))))))

fault_told : (fault : Fault) → fault_at (fault_number fault) ≡ fault
fault_told Size = refl
fault_told Link = refl
fault_told Ramp = refl
fault_told Start = refl
fault_told Demand = refl
fault_told Plan = refl
fault_told Fixed = refl
fault_told Sending = refl
fault_told Receiving = refl
fault_told Offer = refl
fault_told Moved = refl
fault_told Queue = refl
fault_told Cost = refl
fault_told Bytes = refl
fault_told Check = refl
fault_told Kind = refl
fault_told Number = refl
fault_told Padding = refl

pub faults_differ : (a b : Fault) → fault_number a ≡ fault_number b → a ≡ b
faults_differ a b e = sym (fault_told a) ∙ ap fault_at e ∙ fault_told b

pub answers_differ : (a b : Result (Unit {0}) Refusal) → answer_of a ≡ answer_of b → a ≡ b
answers_differ (Ok x) (Ok y) e = refl
answers_differ (Ok x) (Err s) e = absurd (accepted_not_refused (fault_number s.fault) s.row s.node e)
answers_differ (Err r) (Ok y) e = absurd (accepted_not_refused (fault_number r.fault) r.row r.node (sym e))
answers_differ (Err r) (Err s) e =
    let p : fault_number r.fault ≡ fault_number s.fault = ap number_of e in
    let row : r.row ≡ s.row = ap row_of e in
    let node : r.node ≡ s.node = ap node_of e in
    ap (λ (z : Refusal). Err z) (λ i. record { fault = faults_differ r.fault s.fault p i; row = row i; node = node i })

-- ---- one answer, then another

pub or_else_accepts : (a b : Answer) → (or_else a b ≡ Accepted) ↔ ((a ≡ Accepted) × (b ≡ Accepted))
or_else_accepts Accepted b = (λ e. (refl, e), λ h. h.1)
or_else_accepts (Refused number row node) b = (λ e. absurd (accepted_not_refused number row node (sym e)), λ h. h.0)

pub or_else_refuses : (a b : Answer) → Refuses a → or_else a b ≡ a
or_else_refuses Accepted b h = absurd h
or_else_refuses (Refused number row node) b h = refl

pub or_else_right : (a : Answer) → or_else a Accepted ≡ a
or_else_right Accepted = refl
or_else_right (Refused number row node) = refl

pub or_else_assoc : (a b c : Answer) → or_else (or_else a b) c ≡ or_else a (or_else b c)
or_else_assoc Accepted b c = refl
or_else_assoc (Refused number row node) b c = refl

-- a is what the first call answered, b what the second did
pub or_else_stop : (a x y : Answer) → a ≡ x → Refuses a → a ≡ or_else x y
or_else_stop a x y e h = sym (ap (λ (z : Answer). or_else z y) (sym e) ∙ or_else_refuses a y h)

pub or_else_next : (a b x y : Answer) → a ≡ x → a ≡ Accepted → b ≡ y → b ≡ or_else x y
or_else_next a b x y e h q = q ∙ ap (λ (z : Answer). or_else z y) (sym h ∙ e)

-- ---- a refusal by its number

pub refusal_accepts : (x row node : ℕ) → (refusal x row node ≡ Accepted) ↔ (x ≡ 0)
refusal_accepts zero row node = (λ e. refl, λ e. refl)
refusal_accepts (suc x) row node = (λ e. absurd (accepted_not_refused (suc x) row node (sym e)), λ e. absurd (omega arith))

pub refusal_refuses : (x row node y k i : ℕ) → (refusal x row node ≡ Refused y k i) ↔ ((x ≡ y) × (y ≢ 0) × (row ≡ k) × (node ≡ i))
refusal_refuses zero row node y k i = (λ e. absurd (accepted_not_refused y k i e), λ h. absurd (h.1 (sym h.0)))
refusal_refuses (suc x) row node y k i =
    let numbers : Refused (suc x) row node ≡ Refused y k i → suc x ≡ y = λ e. cc in
    (λ e. let n = numbers e in (n, λ z. omega arith, cc, cc), λ h. let n = h.0 in let r = h.2 in let d = h.3 in cc)

-- v is the number as the code has it
pub refusal_none : (x v row node : ℕ) → v ≡ x → v ≡ 0 → refusal x row node ≡ Accepted
refusal_none x v row node e h = (refusal_accepts x row node).1 (sym e ∙ h)

pub refusal_some : (x v row node : ℕ) → v ≡ x → v ≢ 0 → Refused v row node ≡ refusal x row node
refusal_some x v row node e h = sym ((refusal_refuses x row node v row node).1 (sym e, h, refl, refl))

-- a is the answer that a call made of it
pub refusal_told : (x v row node : ℕ) (a : Answer) → a ≡ refusal v row node → v ≡ x → a ≡ refusal x row node
refusal_told x v row node a e h = e ∙ ap (λ (n : ℕ). refusal n row node) h

pub refusal_same : (x y row node : ℕ) → x ≡ y → refusal x row node ≡ refusal y row node
refusal_same x y row node e = ap (λ (n : ℕ). refusal n row node) e

-- ---- a fault unless a test holds

pub unless_none : (t : Bool) (x : ℕ) → x ≢ 0 → (unless t x ≡ 0) ↔ (t ≡ true)
unless_none true x h = (λ e. refl, λ e. refl)
unless_none false x h = (λ e. absurd (h e), λ e. cc)

pub unless_some : (t : Bool) (x y : ℕ) → y ≢ 0 → (unless t x ≡ y) ↔ ((t ≡ false) × (x ≡ y))
unless_some true x y h = (λ e. absurd (h (sym e)), λ p. cc)
unless_some false x y h = (λ e. (refl, e), λ p. p.1)

pub refusal_unless : (t : Bool) (x row node : ℕ) → x ≢ 0 → (refusal (unless t x) row node ≡ Accepted) ↔ (t ≡ true)
refusal_unless t x row node h =
    (λ e. (unless_none t x h).0 ((refusal_accepts (unless t x) row node).0 e), λ e. (refusal_accepts (unless t x) row node).1 ((unless_none t x h).1 e))

-- of a test that is all there is to refusal 1
pub sized_iff : (fits : Bool) → (sized fits ≡ Accepted) ↔ (fits ≡ true)
sized_iff fits = refusal_unless fits 1 0 0 (λ e. omega arith)

pub sized_refuses : (fits : Bool) → Refuses (sized fits) → fits ≡ false
sized_refuses true r = absurd r
sized_refuses false r = refl

-- ---- what is left of a lent list: a is the answer as the code has it, and l the list at exit

left_kept : (a : Answer) (new lent : List ℕ) → Refuses a → lent ≡ left a new lent
left_kept Accepted new lent h = absurd h
left_kept (Refused number row node) new lent h = refl

pub left_refused : (a b : Answer) (new lent : List ℕ) → a ≡ b → Refuses a → lent ≡ left b new lent
left_refused a b new lent e h = left_kept a new lent h ∙ ap (λ (x : Answer). left x new lent) e

pub left_accepted : (a b : Answer) (new lent l : List ℕ) → a ≡ b → a ≡ Accepted → l ≡ new → l ≡ left b new lent
left_accepted a b new lent l e h w = w ∙ ap (λ (x : Answer). left x new lent) (sym h ∙ e)

-- what is new matters only where the answer accepts
pub left_same : (a : Answer) (x y lent : List ℕ) → (a ≡ Accepted → x ≡ y) → left a x lent ≡ left a y lent
left_same Accepted x y lent h = h refl
left_same (Refused number row node) x y lent h = refl

-- ---- answers that fit the number that the C host gets

pub small_refusal : (x row node : ℕ) → x ≤ 255 → row ≤ 65535 → node ≤ 255 → Small (refusal x row node)
small_refusal zero row node a b c = record { number = omega arith; row = omega arith; node = omega arith; named = λ e. absurd (true≢false (sym e)) }
small_refusal (suc x) row node a b c = record { number = a; row = b; node = c; named = λ e. omega arith }

pub small_or_else : (a b : Answer) → Small a → Small b → Small (or_else a b)
small_or_else Accepted b h k = k
small_or_else (Refused number row node) b h k = h

pub small_unless : (t : Bool) (x : ℕ) → x ≤ 255 → unless t x ≤ 255
small_unless true x h = omega arith
small_unless false x h = h

-- that number is taken apart again
pub taken_apart : (answer : Answer) → Small answer → TakenApart answer
taken_apart Accepted small =
    record { accepted = (λ e. refl, λ e. refl); number = refl; node = refl; row = refl }
taken_apart (Refused number row node) small =
    let some : 1 ≤ number = small.named refl in
    record {
      accepted = (λ e. absurd (omega arith), λ e. absurd (accepted_not_refused number row node (sym e)));
      number = omega arith;
      node = omega arith;
      row = omega arith;
    }
