-- Refusals 14 to 18: each case as a branch of the code meets it, with words and answers as calls gave them, and what an accepted file keeps.
use mathlib.Core.Bool.{Bool, true}
use mathlib.Core.List.{List}
use mathlib.Core.Logic.{◌↔◌, ◌≢◌}
use mathlib.Core.Path.{◌≡◌, sym, ap, ◌∙◌}
use Prim.Native.Nat.{ℕ, ◌+◌, ◌-◌, ◌*◌}
use native.Mathlib.Nat.{add-zero}
use native.Mathlib.Omega.{arith}
use borrow.Author.Tests.{eq-eqb, eqb-true}
use lib.Dec.{eqb}
use lib.ListN.{length}
use Rattle.tables.specs.Answer.{Answer}
use Rattle.tables.specs.Answer.{Accepted}
use Rattle.tables.specs.Answer.{or_else}
use Rattle.tables.specs.First.{first}
use Rattle.tables.proofs.Answers.{Refuses, or_else_accepts, or_else_stop, or_else_next, refusal_unless}
use Rattle.payload.specs.Word.{word_at}
use Rattle.payload.specs.Block.{check_word}
use Rattle.payload.specs.File.{blocks_for, word_in, payload_word}
use Rattle.seals.specs.Reading.{tested, length_answer, block_answer, padding_answer, payload_answer}

-- a test accepts exactly when it holds
pub tested_holds : (t : Bool) (number row : ℕ) → number ≢ 0 → (tested t number row ≡ Accepted) ↔ (t ≡ true)
tested_holds t number row h = refusal_unless t number row 0 h

-- ---- 15, 16, 17 of block t: a, b and d are what its three tests answered

module _ (kind : ℕ) (file : List ℕ) (t w c : ℕ) (e : w ≡ word_in file t 127) (q : c ≡ check_word (word_in file t)) (a : Answer) (p : a ≡ tested (eqb w c) 15 t) where
  checked : a ≡ tested (eqb (word_in file t 127) (check_word (word_in file t))) 15 t
  checked = p ∙ rw (e, q)

  pub check_wrong : Refuses a → a ≡ block_answer kind file t
  unfolding block_answer
  check_wrong h = or_else_stop a _ _ checked h

  module _ (h : a ≡ Accepted) (v : ℕ) (r : v ≡ word_at file (t * 128)) (b : Answer) (s : b ≡ tested (eqb v kind) 16 t) where
    named : b ≡ tested (eqb (word_in file t 0) kind) 16 t
    named = let o : v ≡ word_in file t 0 = r ∙ ap (word_at file) (sym (add-zero (t * 128))) in s ∙ rw o

    pub kind_wrong : Refuses b → b ≡ block_answer kind file t
    unfolding block_answer
    kind_wrong k = or_else_next a b _ _ checked h (or_else_stop b _ _ named k)

    pub number_told : b ≡ Accepted → (x : ℕ) → x ≡ word_in file t 1 → (d : Answer) → d ≡ tested (eqb x t) 17 t → d ≡ block_answer kind file t
    unfolding block_answer
    number_told k x y d z = or_else_next a d _ _ checked h (or_else_next b d _ _ named k (z ∙ rw y))

-- what an accepted block keeps
pub record BlockKept (kind : ℕ) (file : List ℕ) (t : ℕ) : Type 0 where
  pub check : word_in file t 127 ≡ check_word (word_in file t)
  pub kind_is : word_in file t 0 ≡ kind
  pub number : word_in file t 1 ≡ t

pub block_kept : (kind : ℕ) (file : List ℕ) (t : ℕ) → (block_answer kind file t ≡ Accepted) ↔ BlockKept kind file t
unfolding block_answer
block_kept kind file t =
    let c : Bool = eqb (word_in file t 127) (check_word (word_in file t)) in
    let d : Bool = eqb (word_in file t 0) kind in
    let e : Bool = eqb (word_in file t 1) t in
    let o = or_else_accepts (tested c 15 t) (or_else (tested d 16 t) (tested e 17 t)) in
    let p = or_else_accepts (tested d 16 t) (tested e 17 t) in
    let r = tested_holds c 15 t (omega arith) in
    let s = tested_holds d 16 t (omega arith) in
    let u = tested_holds e 17 t (omega arith) in (
      λ a.
          let b = p.0 (o.0 a).1 in
          record { check = eqb-true _ _ (r.0 (o.0 a).0); kind_is = eqb-true _ _ (s.0 b.0); number = eqb-true _ _ (u.0 b.1) },
      λ k. o.1 (r.1 (eq-eqb _ _ k.check), p.1 (s.1 (eq-eqb _ _ k.kind_is), u.1 (eq-eqb _ _ k.number))),
    )

-- ---- 18

pub padding_kept : (m : ℕ) (file : List ℕ) (i : ℕ) → (padding_answer m file i ≡ Accepted) ↔ (payload_word file (m + i) ≡ 0)
unfolding padding_answer
padding_kept m file i =
    let t = tested_holds (eqb (payload_word file (m + i)) 0) 18 (blocks_for m - 1) (omega arith) in
    (λ a. eqb-true _ _ (t.0 a), λ e. t.1 (eq-eqb _ _ e))

pub padding_told : (m : ℕ) (file : List ℕ) (i w blocks : ℕ) (a : Answer) → w ≡ payload_word file (m + i) → blocks ≡ blocks_for m → a ≡ tested (eqb w 0) 18 (blocks - 1)
    → a ≡ padding_answer m file i
unfolding padding_answer
padding_told m file i w blocks a e q p = p ∙ rw (e, q)

-- ---- 14 to 18: s is what the test of the length answered, and a what the blocks answered

module _ (kind m : ℕ) (file : List ℕ) (blocks : ℕ) (q : blocks ≡ blocks_for m) (s : Answer) (p : s ≡ tested (eqb (length file) (blocks * 512)) 14 0) where
  sized : s ≡ length_answer m file
  unfolding length_answer
  sized = p ∙ rw q

  pub length_wrong : Refuses s → s ≡ payload_answer kind m file
  unfolding payload_answer
  length_wrong h = or_else_stop s _ _ sized h

  module _ (h : s ≡ Accepted) (a : Answer) (r : a ≡ first blocks (block_answer kind file)) where
    blocks_are : a ≡ first (blocks_for m) (block_answer kind file)
    blocks_are = r ∙ rw q

    pub blocks_wrong : Refuses a → a ≡ payload_answer kind m file
    unfolding payload_answer
    blocks_wrong k = or_else_next s a _ _ sized h (or_else_stop a _ _ blocks_are k)

    pub blocks_sound : a ≡ Accepted → (b : Answer) → b ≡ first (blocks * 125 - m) (padding_answer m file) → b ≡ payload_answer kind m file
    unfolding payload_answer
    blocks_sound k b z = or_else_next s b _ _ sized h (or_else_next a b _ _ blocks_are k (z ∙ rw q))

-- what an accepted file keeps
pub record Kept (kind m : ℕ) (file : List ℕ) : Type 0 where
  pub room : length file ≡ blocks_for m * 512
  pub blocks : first (blocks_for m) (block_answer kind file) ≡ Accepted
  pub padding : first (blocks_for m * 125 - m) (padding_answer m file) ≡ Accepted

pub payload_kept : (kind m : ℕ) (file : List ℕ) → (payload_answer kind m file ≡ Accepted) ↔ Kept kind m file
unfolding payload_answer length_answer
payload_kept kind m file =
    let room : ℕ = blocks_for m * 512 in
    let blocks : Answer = first (blocks_for m) (block_answer kind file) in
    let padding : Answer = first (blocks_for m * 125 - m) (padding_answer m file) in
    let t = tested_holds (eqb (length file) room) 14 0 (omega arith) in
    let o = or_else_accepts (tested (eqb (length file) room) 14 0) (or_else blocks padding) in
    let p = or_else_accepts blocks padding in (
      λ e. record { room = eqb-true _ _ (t.0 (o.0 e).0); blocks = (p.0 (o.0 e).1).0; padding = (p.0 (o.0 e).1).1 },
      λ k. o.1 (t.1 (eq-eqb _ _ k.room), p.1 (k.blocks, k.padding)),
    )
