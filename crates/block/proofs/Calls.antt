-- What a reader and a writer answer: each case as a branch of the code meets it, and what an accepted call keeps.
use mathlib.Core.Bool.{Bool, true, false, ◌&&◌}
use mathlib.Core.List.{List}
use mathlib.Core.Logic.{◌↔◌}
use mathlib.Core.Path.{◌≡◌, refl, sym, ap, ◌∙◌}
use Prim.Native.Nat.{ℕ, suc, ◌+◌, ◌*◌, ◌≤◌}
use native.Mathlib.Nat.{mul-le-mul}
use native.Mathlib.Omega.{arith}
use borrow.Author.Tests.{eq-eqb, eqb-true, le-leb, leb-true}
use lib.Dec.{eqb, leb}
use lib.ListN.{length, get_or}
use Rattle.tables.specs.Answer.{Answer}
use Rattle.tables.specs.Answer.{Accepted}
use Rattle.tables.specs.Answer.{or_else, sized}
use Rattle.tables.proofs.Answers.{Refuses, or_else_accepts, or_else_refuses, or_else_stop, or_else_next, left_refused, left_accepted, sized_iff}
use Rattle.tables.proofs.Tests.{and_iff}
use Rattle.faults.specs.Lists.{within}
use Rattle.block.specs.declared.Kind.{Kind}
use Rattle.block.specs.declared.Kind.TheVariants.{Corridor, CorridorDrop, Demands, DemandsDownstream, Record, RecordExits, Plan}
use Rattle.payload.specs.File.{blocks_for, payload_word, payload_part, payload_of, file_of}
use Rattle.seals.specs.Reading.{payload_answer}
use Rattle.block.specs.Kinds.{Told, kind_number, list_length, own_agrees}
use Rattle.block.specs.Calls.{told_fits, file_answer, read_answer, words_read, write_answer, file_written}
use Rattle.payload.proofs.Payloads.{payload_all}
use Rattle.seals.proofs.Refusals.{payload_kept}

-- ---- tests

-- b is whether N and K are good as a call told it
pub told_is : (n k : ℕ) (b : Bool) → b ≡ told_fits n k → b ≡ true → Told n k
unfolding told_fits
told_is n k b e h =
    let p = (and_iff (within 1 64 n) (within 1 1440 k)).0 (sym e ∙ h) in
    let links = (and_iff (leb 1 n) (leb n 64)).0 p.0 in
    let steps = (and_iff (leb 1 k) (leb k 1440)).0 p.1 in
    record {
      links_low = leb-true 1 n links.0;
      links_high = leb-true n 64 links.1;
      steps_low = leb-true 1 k steps.0;
      steps_high = leb-true k 1440 steps.1;
    }

-- s is what it answered
pub told_sized : (n k : ℕ) (b : Bool) (s : Answer) → b ≡ told_fits n k → s ≡ sized b → s ≡ Accepted → Told n k
told_sized n k b s q x h = told_is n k b q ((sized_iff b).0 (sym x ∙ h))

told_good : (n k : ℕ) → Told n k → told_fits n k ≡ true
unfolding told_fits
told_good n k t =
    (and_iff (within 1 64 n) (within 1 1440 k)).1 (
      (and_iff (leb 1 n) (leb n 64)).1 (le-leb 1 n t.links_low, le-leb n 64 t.links_high),
      (and_iff (leb 1 k) (leb k 1440)).1 (le-leb 1 k t.steps_low, le-leb k 1440 t.steps_high),
    )

good : (n k : ℕ) → Told n k → Accepted ≡ sized (told_fits n k)
good n k t = ap sized (sym (told_good n k t))

-- one test, then another
sized_both : (b c : Bool) (a : Answer) → or_else (sized (b && c)) a ≡ or_else (sized b) (or_else (sized c) a)
sized_both true c a = refl
sized_both false c a = refl

sized_all : (b c d : Bool) → sized (b && (c && d)) ≡ or_else (sized b) (or_else (sized c) (sized d))
sized_all true true d = refl
sized_all true false d = refl
sized_all false c d = refl

-- ---- lengths

-- rows of nodes of c words
pub words_low : (rows nodes c : ℕ) → 1 ≤ rows → 1 ≤ nodes → 1 ≤ c → 1 ≤ rows * (nodes * c)
words_low rows nodes c a b h = omega (arith, mul-le-mul a (mul-le-mul b h))

pub words_high : (rows nodes c d : ℕ) → rows ≤ 1441 → nodes ≤ 65 → c ≤ d → rows * (nodes * c) ≤ 1441 * (65 * d)
words_high rows nodes c d a b h = mul-le-mul a (mul-le-mul b h)

pub length_low : (kind : Kind) (n k : ℕ) → Told n k → 1 ≤ list_length kind n k
unfolding list_length
length_low Corridor n k t = omega arith
length_low CorridorDrop n k t = omega arith
length_low Demands n k t = omega arith
length_low DemandsDownstream n k t = omega arith
length_low Record n k t = omega arith
length_low RecordExits n k t = omega arith
length_low Plan n k t = words_low k (suc n) 2 t.steps_low (omega arith) (omega arith)

pub length_high : (kind : Kind) (n k : ℕ) → Told n k → list_length kind n k ≤ 468327
unfolding list_length
length_high Corridor n k t = omega arith
length_high CorridorDrop n k t = omega arith
length_high Demands n k t = omega (arith, words_high k (suc n) 2 2 (omega arith) (omega arith) (omega arith))
length_high DemandsDownstream n k t = omega (arith, words_high k (suc n) 2 2 (omega arith) (omega arith) (omega arith))
length_high Record n k t = omega (arith, words_high (suc k) (suc n) 4 4 (omega arith) (omega arith) (omega arith))
length_high RecordExits n k t = omega (arith, words_high (suc k) (suc n) 5 5 (omega arith) (omega arith) (omega arith))
length_high Plan n k t = omega (arith, words_high k (suc n) 2 2 (omega arith) (omega arith) (omega arith))

-- ---- reading

module _ (kind : Kind) (n k : ℕ) (file : List ℕ) (number m : ℕ) (a : Answer) (u : number ≡ kind_number kind) (v : m ≡ list_length kind n k) (p : a ≡ payload_answer number m file) where
  file_rest : file_answer kind n k file ≡ or_else a (sized (own_agrees kind n k (payload_word file 0)))
  unfolding file_answer
  file_rest = rw (← u, ← v, p)

  pub file_wrong : Refuses a → a ≡ file_answer kind n k file
  file_wrong r = sym (file_rest ∙ or_else_refuses a _ r)

  pub file_room : a ≡ Accepted → 1 ≤ m → 512 ≤ length file
  file_room h l = let r : length file ≡ blocks_for m * 512 = ((payload_kept number m file).0 (sym p ∙ h)).room in omega arith

  pub own_told : a ≡ Accepted → (w : ℕ) → w ≡ payload_word file 0 → (b : Bool) → b ≡ own_agrees kind n k w → (r : Answer) → r ≡ sized b → r ≡ file_answer kind n k file
  own_told h w e b q r s = s ∙ sym (file_rest ∙ rw (h, ← e, ← q))

-- s is what the test of N and K answered, and z what that of the room did
module _ (kind : Kind) (n k : ℕ) (file : List ℕ) (room : ℕ) where
  read_rest : read_answer kind n k file room ≡ or_else (sized (told_fits n k)) (or_else (sized (eqb room (list_length kind n k))) (file_answer kind n k file))
  unfolding read_answer
  read_rest = sized_both (told_fits n k) (eqb room (list_length kind n k)) (file_answer kind n k file)

  pub read_told_wrong : (s : Answer) → s ≡ sized (told_fits n k) → Refuses s → s ≡ read_answer kind n k file room
  read_told_wrong s x h = or_else_stop s _ _ x h ∙ sym read_rest

  module _ (t : Told n k) (m : ℕ) (v : m ≡ list_length kind n k) (z : Answer) (y : z ≡ sized (eqb room m)) where
    sized_room : z ≡ sized (eqb room (list_length kind n k))
    sized_room = y ∙ rw v

    pub read_room_wrong : Refuses z → z ≡ read_answer kind n k file room
    read_room_wrong r = or_else_next Accepted z _ _ (good n k t) refl (or_else_stop z _ _ sized_room r) ∙ sym read_rest

    pub read_file : z ≡ Accepted → (a : Answer) → a ≡ file_answer kind n k file → a ≡ read_answer kind n k file room
    read_file r a p = or_else_next Accepted a _ _ (good n k t) refl (or_else_next z a _ _ sized_room r p) ∙ sym read_rest

-- what an accepted file keeps
pub record FileKept (kind : Kind) (n k : ℕ) (file : List ℕ) : Type 0 where
  pub payload : payload_answer (kind_number kind) (list_length kind n k) file ≡ Accepted
  pub own : own_agrees kind n k (payload_word file 0) ≡ true

pub file_kept : (kind : Kind) (n k : ℕ) (file : List ℕ) → (file_answer kind n k file ≡ Accepted) ↔ FileKept kind n k file
unfolding file_answer
file_kept kind n k file =
    let agrees : Bool = own_agrees kind n k (payload_word file 0) in
    let p = or_else_accepts (payload_answer (kind_number kind) (list_length kind n k) file) (sized agrees) in (
      λ e. record { payload = (p.0 e).0; own = (sized_iff agrees).0 (p.0 e).1 },
      λ h. p.1 (h.payload, (sized_iff agrees).1 h.own),
    )

-- a is the answer as a call gave it
pub file_bytes : (kind : Kind) (n k : ℕ) (file : List ℕ) (a : Answer) → a ≡ file_answer kind n k file → a ≡ Accepted → length file ≡ blocks_for (list_length kind n k) * 512
file_bytes kind n k file a e h = ((payload_kept _ _ file).0 ((file_kept kind n k file).0 (sym e ∙ h)).payload).room

-- what an accepted call keeps
pub record ReadKept (kind : Kind) (n k : ℕ) (file : List ℕ) (room : ℕ) : Type 0 where
  pub told : told_fits n k ≡ true
  pub fits : room ≡ list_length kind n k
  pub answer : file_answer kind n k file ≡ Accepted

pub read_kept : (kind : Kind) (n k : ℕ) (file : List ℕ) (room : ℕ) → (read_answer kind n k file room ≡ Accepted) ↔ ReadKept kind n k file room
unfolding read_answer
read_kept kind n k file room =
    let fits : Bool = eqb room (list_length kind n k) in
    let o = or_else_accepts (sized (told_fits n k && fits)) (file_answer kind n k file) in
    let s = sized_iff (told_fits n k && fits) in
    let a = and_iff (told_fits n k) fits in (
      λ e.
          let t = a.0 (s.0 (o.0 e).0) in
          record { told = t.0; fits = eqb-true _ _ t.1; answer = (o.0 e).1 },
      λ h. o.1 (s.1 (a.1 (h.told, eq-eqb _ _ h.fits)), h.answer),
    )

module _ (kind : Kind) (n k : ℕ) (file lent : List ℕ) (a : Answer) (e : a ≡ read_answer kind n k file (length lent)) where
  pub read_left : Refuses a → lent ≡ words_read kind n k file lent
  unfolding words_read
  read_left h = left_refused a _ _ lent e h

  module _ (h : a ≡ Accepted) where
    pub read_room : blocks_for (0 + length lent) * 512 ≤ length file
    read_room =
        let p = (read_kept kind n k file (length lent)).0 (sym e ∙ h) in
        let r : length lent ≡ list_length kind n k = p.fits in
        let f : length file ≡ blocks_for (list_length kind n k) * 512 = file_bytes kind n k file _ refl p.answer in
        omega arith

    pub read_words : (l : List ℕ) → l ≡ payload_part 0 (length lent) file → l ≡ words_read kind n k file lent
    unfolding words_read
    read_words l u =
        left_accepted a _ _ lent l e h
        (u ∙ payload_all (length lent) file ∙ ap (λ (m : ℕ). payload_of m file) ((read_kept kind n k file (length lent)).0 (sym e ∙ h)).fits)

-- ---- writing

-- s and z as in reading, and f is whether the list fits as a call told it
module _ (kind : Kind) (n k : ℕ) (words : List ℕ) (room : ℕ) where
  write_rest : (m blocks : ℕ) → m ≡ list_length kind n k → blocks ≡ blocks_for m
      → write_answer kind n k words room
      ≡ or_else (sized (told_fits n k)) (or_else (sized (eqb room (blocks * 512))) (sized (eqb (length words) m && own_agrees kind n k (get_or words 0 0))))
  unfolding write_answer
  write_rest m blocks v r = rw (← v, ← r) (sized_all (told_fits n k) (eqb room (blocks * 512)) (eqb (length words) m && own_agrees kind n k (get_or words 0 0)))

  pub write_told_wrong : (s : Answer) → s ≡ sized (told_fits n k) → Refuses s → s ≡ write_answer kind n k words room
  write_told_wrong s x h = or_else_stop s _ _ x h ∙ sym (write_rest _ _ refl refl)

  module _ (t : Told n k) (m : ℕ) (v : m ≡ list_length kind n k) (blocks : ℕ) (r : blocks ≡ blocks_for m)
      (z : Answer) (y : z ≡ sized (eqb room (blocks * 512))) where
    pub write_room_wrong : Refuses z → z ≡ write_answer kind n k words room
    write_room_wrong w = or_else_next Accepted z _ _ (good n k t) refl (or_else_stop z _ _ y w) ∙ sym (write_rest m blocks v r)

    pub write_told : z ≡ Accepted → (f : Bool) → f ≡ (eqb (length words) m && own_agrees kind n k (get_or words 0 0)) → (a : Answer) → a ≡ sized f
        → a ≡ write_answer kind n k words room
    write_told w f e a p = or_else_next Accepted a _ _ (good n k t) refl (or_else_next z a _ _ y w (p ∙ ap sized e)) ∙ sym (write_rest m blocks v r)

-- what an accepted call keeps
pub record WriteKept (kind : Kind) (n k : ℕ) (words : List ℕ) (room : ℕ) : Type 0 where
  pub told : told_fits n k ≡ true
  pub fits : room ≡ blocks_for (list_length kind n k) * 512
  pub list : length words ≡ list_length kind n k
  pub own : own_agrees kind n k (get_or words 0 0) ≡ true

pub write_kept : (kind : Kind) (n k : ℕ) (words : List ℕ) (room : ℕ) → (write_answer kind n k words room ≡ Accepted) ↔ WriteKept kind n k words room
unfolding write_answer
write_kept kind n k words room =
    let fits : Bool = eqb room (blocks_for (list_length kind n k) * 512) in
    let list : Bool = eqb (length words) (list_length kind n k) in
    let agrees : Bool = own_agrees kind n k (get_or words 0 0) in
    let s = sized_iff (told_fits n k && (fits && (list && agrees))) in
    let a = and_iff (told_fits n k) (fits && (list && agrees)) in
    let b = and_iff fits (list && agrees) in
    let c = and_iff list agrees in (
      λ e.
          let p = a.0 (s.0 e) in
          let q = b.0 p.1 in
          let r = c.0 q.1 in
          record { told = p.0; fits = eqb-true _ _ q.0; list = eqb-true _ _ r.0; own = r.1 },
      λ h. s.1 (a.1 (h.told, b.1 (eq-eqb _ _ h.fits, c.1 (eq-eqb _ _ h.list, h.own)))),
    )

module _ (kind : Kind) (n k : ℕ) (words lent : List ℕ) (a : Answer) (e : a ≡ write_answer kind n k words (length lent)) where
  pub write_left : Refuses a → lent ≡ file_written kind n k words lent
  unfolding file_written
  write_left h = left_refused a _ _ lent e h

  module _ (h : a ≡ Accepted) where
    pub write_room : length lent ≡ blocks_for (length words) * 512
    write_room =
        let p = (write_kept kind n k words (length lent)).0 (sym e ∙ h) in
        p.fits ∙ ap (λ (m : ℕ). blocks_for m * 512) (sym p.list)

    pub write_words : length words ≤ 4294967295
    write_words =
        let p = (write_kept kind n k words (length lent)).0 (sym e ∙ h) in
        let l : length words ≡ list_length kind n k = p.list in
        omega (arith, length_high kind n k (told_is n k (told_fits n k) refl p.told))

    pub write_file : (number : ℕ) → number ≡ kind_number kind → (l : List ℕ) → l ≡ file_of number words → l ≡ file_written kind n k words lent
    unfolding file_written
    write_file number v l s = left_accepted a _ _ lent l e h (s ∙ ap (λ (x : ℕ). file_of x words) v)

-- a bad N or K leaves the file as lent, whatever the kind: s as above
pub write_told_left : (kind : Kind) (n k : ℕ) (words lent : List ℕ) (s : Answer) → s ≡ sized (told_fits n k) → Refuses s
    → lent ≡ file_written kind n k words lent
write_told_left kind n k words lent s x h = write_left kind n k words lent s (write_told_wrong kind n k words (length lent) s x h) h
