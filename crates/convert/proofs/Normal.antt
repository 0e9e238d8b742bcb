-- Laws of the normal form's answers and lists, as its code finds them: what the simulator refuses, then what the converter does.
use Prim.Native.Nat.{ℕ}
use mathlib.Core.Bool.{Bool, true, false, ◌&&◌}
use mathlib.Core.List.{List}
use mathlib.Core.Path.{◌≡◌, refl, sym, ap, subst, ◌∙◌}
use lib.Dec.{eqb}
use lib.ListN.{length}
use Rattle.tables.specs.Answer.{Answer}
use Rattle.tables.specs.Answer.{Accepted}
use Rattle.tables.specs.Answer.{left, sized}
use Rattle.tables.proofs.Answers.{Refuses, or_else_accepts, or_else_refuses, or_else_stop, sized_iff, sized_refuses}
use Rattle.tables.proofs.Tests.{and_iff}
use Rattle.lists.specs.Words.{links_of, steps_of, road_of, Width, plan_length, record_length, width_of}
use Rattle.lengths.specs.Lengths.{record_sized, sizes}
use Rattle.lengths.proofs.Sizes.{record_wide, record_sized_iff, width_is}
use Rattle.list_scans.specs.Refusals.{ranges, plan_bounds}
use Rattle.lists.proofs.Words.{record_length_lem}
use Rattle.simulate.specs.Simulate.{simulate_sizes, simulate_answer, simulated, record_left}
use Rattle.simulate.proofs.Answers.{accepted_sizes}
use Rattle.convert.specs.Convert.{converted, normal_form, convert_answer, normal_refusal, normal_answer, plan_left, work_left, normal_left}
use Rattle.convert.proofs.Answers.{room_test}

pub simulated_fits : (width : ℕ) (corridor demands plan : List ℕ) → length (simulated width corridor demands plan) ≡ record_length width (links_of corridor) (steps_of demands)
unfolding simulated road_of
simulated_fits width corridor demands plan = record_length_lem _ _ _

-- the simulator's record is of the kind that it is written in
pub simulated_width : (width : ℕ) (corridor demands plan : List ℕ) → Width width → width_of corridor demands (length (simulated width corridor demands plan)) ≡ width
simulated_width width corridor demands plan wide =
    ap (width_of corridor demands) (simulated_fits width corridor demands plan) ∙ width_is width (links_of corridor) (steps_of demands) wide

pub simulated_sized : (width : ℕ) (corridor demands plan : List ℕ) → Width width → record_sized (links_of corridor) (steps_of demands) (length (simulated width corridor demands plan)) ≡ true
simulated_sized width corridor demands plan wide =
    (record_sized_iff (links_of corridor) (steps_of demands) _).1
    (simulated_fits width corridor demands plan
    ∙ ap (λ (x : ℕ). record_length x (links_of corridor) (steps_of demands)) (sym (simulated_width width corridor demands plan wide)))

-- a test and then another, as the code has them
pub first_fails : (t a b : Bool) → t ≡ a → t ≡ false → false ≡ (a && b)
first_fails t a b e h = ap (λ (x : Bool). x && b) (sym h ∙ e)

pub first_holds : (t a b r : Bool) → t ≡ a → t ≡ true → r ≡ b → r ≡ (a && b)
first_holds t a b r e h q = q ∙ ap (λ (x : Bool). x && b) (sym h ∙ e)

-- the last of four tests fails
last_fails : (s p w r : Bool) → (s && r) ≡ false → (s && (p && (w && r))) ≡ false
last_fails false p w r e = refl
last_fails true false w r e = refl
last_fails true true false r e = refl
last_fails true true true r e = e

-- the last of four tests holds, and with it the first
last_holds : (s p w r : Bool) → (s && r) ≡ true → (s && (p && (w && r))) ≡ (s && (p && w))
last_holds false p w r e = refl
last_holds true false w r e = refl
last_holds true true false r e = refl
last_holds true true true r e = e

-- past the simulator the work record is the plan's
pub work_is : (corridor demands plan : List ℕ) (work : ℕ) (a : Answer) (lent after : List ℕ) → a ≡ simulate_answer corridor demands plan work → a ≡ Accepted
    → work ≡ length lent → after ≡ record_left corridor demands plan lent → after ≡ simulated (width_of corridor demands work) corridor demands plan
unfolding record_left
work_is corridor demands plan work a lent after e h w q =
    q
    ∙ ap (λ (x : ℕ). left (simulate_answer corridor demands plan x) (simulated (width_of corridor demands x) corridor demands plan) lent) (sym w)
    ∙ ap (λ (x : Answer). left x (simulated (width_of corridor demands work) corridor demands plan) lent) (sym e ∙ h)

module _ (corridor demands plan : List ℕ) (work room : ℕ) where
  abbrev width : ℕ
  width = width_of corridor demands work

  wide : Width width
  wide = record_wide (links_of corridor) (steps_of demands) work

  pub normal_unsized : (t : Bool) (a : Answer) → t ≡ room_test corridor demands room → a ≡ sized t → Refuses a → a ≡ normal_refusal corridor demands plan work room
  unfolding normal_refusal
  normal_unsized t a e g r =
      let h : t ≡ false = sized_refuses t (subst Refuses g r) in
      let q = last_fails (sizes corridor demands) (eqb (length plan) (plan_length (links_of corridor) (steps_of demands))) (record_sized (links_of corridor) (steps_of demands) work)
      (eqb room (plan_length (links_of corridor) (steps_of demands))) (sym e ∙ h) in
      or_else_stop a _ _ (g ∙ ap sized (h ∙ sym q)) r

  normal_sized : room_test corridor demands room ≡ true → simulate_answer corridor demands plan work ≡ normal_refusal corridor demands plan work room
  unfolding normal_refusal simulate_answer simulate_sizes
  normal_sized h =
      let q = last_holds (sizes corridor demands) (eqb (length plan) (plan_length (links_of corridor) (steps_of demands))) (record_sized (links_of corridor) (steps_of demands) work)
      (eqb room (plan_length (links_of corridor) (steps_of demands))) h in
      rw q

  pub normal_stops : (a : Answer) → a ≡ normal_refusal corridor demands plan work room → Refuses a → a ≡ normal_answer corridor demands plan work room
  unfolding normal_answer
  normal_stops a e r = rw (← e) (sym (or_else_refuses a _ r))

  -- past the simulator the converter's answer is the normal form's
  normal_goes_on : room_test corridor demands room ≡ true → simulate_answer corridor demands plan work ≡ Accepted
      → convert_answer corridor demands (simulated (width_of corridor demands work) corridor demands plan) room ≡ normal_answer corridor demands plan work room
  unfolding normal_answer convert_answer simulate_answer
  normal_goes_on h a =
      let l = accepted_sizes corridor demands plan work a in
      let road_right : ranges (road_of corridor demands) ≡ Accepted =
      ((or_else_accepts (ranges (road_of corridor demands)) (plan_bounds corridor demands plan)).0
      ((or_else_accepts (sized (simulate_sizes corridor demands plan work)) _).0 a).1).0 in
      let refusal_none : normal_refusal corridor demands plan work room ≡ Accepted = sym (normal_sized h) ∙ a in
      let room_right : eqb room (plan_length (links_of corridor) (steps_of demands)) ≡ true = ((and_iff (sizes corridor demands) (eqb room (plan_length (links_of corridor) (steps_of demands)))).0 h).1 in
      let record_right : record_sized (links_of corridor) (steps_of demands) (length (simulated width corridor demands plan)) ≡ true = simulated_sized width corridor demands plan wide in
      let kind_right : width_of corridor demands (length (simulated width corridor demands plan)) ≡ width = simulated_width width corridor demands plan wide in
      simp (refusal_none, road_right, l.listed, room_right, record_right, kind_right)

  -- ---- the answer and the lists at exit: t and a are what the test of the lengths answered, b what the simulator did

  module _ (t : Bool) (e : t ≡ room_test corridor demands room) (a : Answer) (g : a ≡ sized t) (yes : a ≡ Accepted) where
    told_room : room_test corridor demands room ≡ true
    told_room = sym e ∙ (sized_iff t).0 (sym g ∙ yes)

    -- where the simulator refuses, it gives the normal form's refusal
    pub simulator_refuses : (b : Answer) → b ≡ simulate_answer corridor demands plan work → b ≡ normal_refusal corridor demands plan work room
    simulator_refuses b q = q ∙ normal_sized told_room

    -- the work record, as the simulator left it
    pub work_left_lem : (lent after : List ℕ) → work ≡ length lent → after ≡ record_left corridor demands plan lent → after ≡ work_left corridor demands plan lent room
    unfolding record_left work_left
    work_left_lem lent after w q =
        q
        ∙ ap (λ (x : ℕ). left (simulate_answer corridor demands plan x) (simulated (width_of corridor demands x) corridor demands plan) lent) (sym w)
        ∙ ap (λ (x : Answer). left x (simulated width corridor demands plan) lent) (normal_sized told_room)
        ∙ ap (λ (x : ℕ). left (normal_refusal corridor demands plan x room) (simulated (width_of corridor demands x) corridor demands plan) lent) w

    module _ (accepted : simulate_answer corridor demands plan work ≡ Accepted) (words : List ℕ) (w : words ≡ simulated (width_of corridor demands work) corridor demands plan) where
      pub converter_answers : (b : Answer) → b ≡ convert_answer corridor demands words room → b ≡ normal_answer corridor demands plan work room
      converter_answers b q = q ∙ ap (λ (x : List ℕ). convert_answer corridor demands x room) w ∙ normal_goes_on told_room accepted

      pub converter_writes : (lent after : List ℕ) → room ≡ length lent → after ≡ plan_left corridor demands words lent → after ≡ normal_left corridor demands plan work lent
      unfolding normal_form plan_left normal_left
      converter_writes lent after l q =
          q
          ∙ ap (λ (x : ℕ). left (convert_answer corridor demands words x) (converted corridor demands words) lent) (sym l)
          ∙ ap (λ (x : List ℕ). left (convert_answer corridor demands x room) (converted corridor demands x) lent) w
          ∙ ap (λ (x : Answer). left x (converted corridor demands (simulated width corridor demands plan)) lent) (normal_goes_on told_room accepted)
          ∙ ap (λ (x : ℕ). left (normal_answer corridor demands plan work x) (normal_form width corridor demands plan) lent) l
