-- What holds of every file, over any payload length and any words: words written and then read come back the same, an accepted file
-- read and rewritten has the same bytes, and a change to just one of words 0..126 of a sound block is seen.
use mathlib.Core.List.{List}
use mathlib.Core.Logic.{◌≢◌}
use mathlib.Core.Path.{◌≡◌, refl, sym, ap, ◌∙◌}
use Prim.Native.Nat.{ℕ, ◌+◌, ◌-◌, ◌*◌, ◌/◌, ◌%◌, ◌≤◌, ◌<◌}
use native.Mathlib.Decide.{dec_lt}
use native.Mathlib.Omega.{arith}
use borrow.Author.Tests.{eq-eqb, ne_eqb}
use lib.Dec.{lit<}
use lib.ListN.{length, get_or, get_or-eq_default}
use Rattle.tables.specs.Answer.{Accepted, Refused}
use Rattle.tables.specs.First.{first}
use Rattle.tables.specs.Grid.{grid, place}
use Rattle.tables.proofs.First.{first_accepts, first_refuses}
use Rattle.tables.proofs.Grid.{grid_length, grid_at, grid_is}
use Rattle.tables.proofs.Tabulate.{tabulate_length, tabulate_at, tabulate_past, tabulate_is}
use Rattle.payload.specs.Word.{Bytes, Words, byte_of, word_at}
use Rattle.payload.specs.Block.{check_word, body_word, block_word, block_byte}
use Rattle.payload.specs.File.{blocks_for, payload_in, file_of, word_in, payload_place, payload_word, payload_of, OneChange}
use Rattle.seals.specs.Reading.{length_answer, block_answer, padding_answer, payload_answer}
use Rattle.payload.proofs.Words.{byte_word, word_is, word_fits}
use Rattle.seals.proofs.Checks.{check_same, one_change}
use Rattle.seals.proofs.Blocks.{body_payload, body_is, block_body, block_check, block_is, block_fits}
use Rattle.seals.proofs.Refusals.{Kept, payload_kept, BlockKept, block_kept, padding_kept}

-- ---- words written and then read

pub file_length : (kind : ℕ) (words : List ℕ) → length (file_of kind words) ≡ blocks_for (length words) * 512
unfolding file_of
file_length kind words = grid_length 4 128 (blocks_for (length words)) _

module _ (kind : ℕ) (words : List ℕ) (hk : kind < 4294967296) (hw : Words words) (hb : blocks_for (length words) ≤ 4294967296) where
  file : List ℕ
  file = file_of kind words

  -- word j of block t
  file_word : (t j : ℕ) → t < blocks_for (length words) → j < 128 → word_in file t j ≡ block_word kind t (payload_in words t) j
  unfolding file file_of
  file_word t j h l =
      word_is file (t * 128 + j) (block_word kind t (payload_in words t) j) (block_fits kind t (payload_in words t) hk (omega arith) (λ i. hw (t * 125 + i)) j)
      (λ q b.
      let e : (t * 128 + j) * 4 + q ≡ place 4 128 t j q = omega arith in
      ap (λ (k : ℕ). get_or file k 0) e ∙ grid_at 4 128 (blocks_for (length words)) (λ t. block_byte kind t (payload_in words t)) t j q 0 h l b)

  -- payload word j, in the padding too
  file_payload : (j : ℕ) → j < blocks_for (length words) * 125 → payload_word file j ≡ get_or words j 0
  unfolding payload_word
  file_payload j h =
      let t : ℕ = j / 125 in
      let i : ℕ = j % 125 in
      let e : t * 125 + i ≡ j = omega arith in
      file_word t (2 + i) (omega arith) (omega arith)
      ∙ block_body kind t (payload_in words t) (2 + i) (omega arith)
      ∙ body_payload kind t (payload_in words t) i
      ∙ ap (λ (k : ℕ). get_or words k 0) e

  file_kept : (t : ℕ) → t < blocks_for (length words) → BlockKept kind file t
  unfolding body_word
  file_kept t h =
      let p = payload_in words t in
      let body : (j : ℕ) → j < 127 → word_in file t j ≡ body_word kind t p j = λ j l. file_word t j h (omega arith) ∙ block_body kind t p j l in
      record {
        check = file_word t 127 h (lit< tt) ∙ block_check kind t p ∙ sym (check_same (word_in file t) (body_word kind t p) body);
        kind_is = body 0 (lit< tt);
        number = body 1 (lit< tt);
      }

  -- a written file is accepted, and its payload is the words
  pub read_write : (payload_answer kind (length words) (file_of kind words) ≡ Accepted) × (payload_of (length words) (file_of kind words) ≡ words)
  unfolding file
  read_write = (
    (payload_kept kind (length words) file).1
        (record {
          room = file_length kind words;
          blocks = (first_accepts (blocks_for (length words)) (block_answer kind file)).1 (λ t h. (block_kept kind file t).1 (file_kept t h));
          padding = (first_accepts _ (padding_answer (length words) file)).1
              (λ i h. (padding_kept (length words) file i).1 (file_payload (length words + i) (omega arith) ∙ past i));
        }),
    sym (tabulate_is (length words) (payload_word file) words refl (λ j h. sym (file_payload j (omega arith)))),
  )
    where
      past : (i : ℕ) → get_or words (length words + i) 0 ≡ 0
      past i = get_or-eq_default words 0 (omega arith)

-- ---- an accepted file read and rewritten

module _ (kind m : ℕ) (file : List ℕ) (fits : Bytes file) (accepted : payload_answer kind m file ≡ Accepted) where
  kept : Kept kind m file
  kept = (payload_kept kind m file).0 accepted

  -- payload word i of block t, in the padding too
  payload_is : (t i : ℕ) → t < blocks_for m → i < 125 → word_in file t (2 + i) ≡ payload_in (payload_of m file) t i
  unfolding payload_word
  payload_is t i h l =
      let p : t * 128 + (2 + i) ≡ payload_place (t * 125 + i) = omega arith in
      elim (dec_lt (t * 125 + i) m) [
        | yes b ↦ ap (word_at file) p ∙ sym (tabulate_at m (payload_word file) (t * 125 + i) 0 b)
        | no b ↦
            let x : ℕ = t * 125 + i - m in
            let e : t * 125 + i ≡ m + x = omega arith in
            ap (word_at file) p
            ∙ ap (payload_word file) e
            ∙ (padding_kept m file x).0 ((first_accepts (blocks_for m * 125 - m) (padding_answer m file)).0 kept.padding x (omega arith))
            ∙ sym (tabulate_past m (payload_word file) (t * 125 + i) 0 (omega arith))
      ]

  word_same_as : (t j : ℕ) → t < blocks_for m → j < 128 → word_in file t j ≡ block_word kind t (payload_in (payload_of m file) t) j
  word_same_as t j h l =
      let b = (block_kept kind file t).0 ((first_accepts (blocks_for m) (block_answer kind file)).0 kept.blocks t h) in
      block_is kind t (payload_in (payload_of m file) t) (word_in file t)
      (body_is kind t (payload_in (payload_of m file) t) (word_in file t) b.kind_is b.number (λ i s. payload_is t i h s)) b.check j l

  pub write_read : file_of kind (payload_of m file) ≡ file
  unfolding file_of
  write_read =
      let len : length (payload_of m file) ≡ m = tabulate_length m (payload_word file) in
      let words : List ℕ = payload_of m file in
      ap (λ (k : ℕ). grid 4 128 (blocks_for k) (λ t. block_byte kind t (payload_in words t))) len
      ∙ sym
      (grid_is 4 128 (blocks_for m) (λ t. block_byte kind t (payload_in words t)) file kept.room
      (λ t j q a b h.
      let e : place 4 128 t j q ≡ (t * 128 + j) * 4 + q = omega arith in
      ap (λ (k : ℕ). get_or file k 0) e
      ∙ sym (byte_word file (t * 128 + j) q fits h)
      ∙ ap (λ (w : ℕ). byte_of w q) (word_same_as t j a b)))

-- ---- a change to just one of words 0..126 of a block

module _ (kind : ℕ) (file other : List ℕ) (t i : ℕ) (hf : Bytes file) (ho : Bytes other) (within : i < 127) (change : OneChange file other t i) where
  -- the check word of that block fails
  pub one_change_seen : word_in file t 127 ≡ check_word (word_in file t) → block_answer kind other t ≡ Refused 15 t 0
  unfolding block_answer
  one_change_seen sound =
      rw
      (ne_eqb (word_in other t 127) (check_word (word_in other t))
      (λ e.
      change.differs
      (one_change (word_in other t) (word_in file t) i within (λ j l d. change.others (t * 128 + j) (λ s. d (omega arith)))
      (word_fits other (t * 128 + i) ho) (word_fits file (t * 128 + i) hf)
      (sym e ∙ change.others (t * 128 + 127) (λ s. omega arith) ∙ sound))))

  -- any other block is answered as before
  block_as_before : (s : ℕ) → s ≢ t → block_answer kind other s ≡ block_answer kind file s
  unfolding block_answer
  block_as_before s d =
      let same : (j : ℕ) → j < 128 → word_in other s j ≡ word_in file s j = λ j l. change.others (s * 128 + j) (λ e. d (omega arith)) in
      let check : check_word (word_in other s) ≡ check_word (word_in file s) = check_same (word_in other s) (word_in file s) (λ j l. same j (omega arith)) in
      rw (same 127 (lit< tt), same 0 (lit< tt), same 1 (lit< tt), check)

  -- so an accepted file is refused once it is so changed, at that block
  pub file_change_seen : (m : ℕ) → payload_answer kind m file ≡ Accepted → t < blocks_for m → payload_answer kind m other ≡ Refused 15 t 0
  unfolding payload_answer length_answer
  file_change_seen m a h =
      let kept = (payload_kept kind m file).0 a in
      let each = (first_accepts (blocks_for m) (block_answer kind file)).0 kept.blocks in
      let found : first (blocks_for m) (block_answer kind other) ≡ Refused 15 t 0 =
      (first_refuses (blocks_for m) (block_answer kind other) (Refused 15 t 0) tt).1 (
        t,
        record {
          within = h;
          is = one_change_seen ((block_kept kind file t).0 (each t h)).check;
          before = λ s l. block_as_before s (λ e. omega arith) ∙ each s (omega arith);
        },
      ) in
      rw (eq-eqb (length other) (blocks_for m * 512) (change.same ∙ kept.room), found)
