-- Laws of a block, and of sealing: the loop over a block's words, and the loop over a file's blocks.
use mathlib.Core.Bool.{cond}
use mathlib.Core.List.{List}
use mathlib.Core.Path.{◌≡◌, refl, sym, ap, ◌∙◌, subst}
use Prim.Native.Nat.{ℕ, zero, suc, ◌+◌, ◌-◌, ◌*◌, ◌≤◌, ◌<◌, min}
use native.Mathlib.Decide.{dec_lt}
use native.Mathlib.Omega.{arith}
use borrow.Author.Tests.{lt-ltb, le-ltb}
use borrow.Rule.Slice.PartMut.{put_mid}
use lib.Dec.{ltb, lit<}
use lib.ListN.{length, get_or, take, drop, replicate, get_or-eq_default}
use Rattle.std.proofs.lemmas.List.{length-replicate, get_or-replicate}
use Rattle.tables.specs.Grid.{cell}
use Rattle.tables.proofs.Grid.{row_words_is, row_words_same, cell_same, Rowed, rowed_words, rowed_grid}
use Rattle.tables.proofs.Part.{part_length, part_at, put_length, put_before, put_within}
use Rattle.tables.proofs.Tabulate.{tabulate_length, tabulate_at, tabulate_past, filled_rest}
use Rattle.payload.specs.Word.{Bytes, Words, byte_of, word_at, put_word}
use Rattle.payload.specs.Block.{check_word, body_word, block_word, block_byte, block_of}
use Rattle.payload.specs.File.{blocks_for, word_in, payload_in, payload_place, payload_word, payload_of, put_payload, Cleared, kept_word, file_of}
use Rattle.payload.proofs.Payloads.{payload_put_all}
use Rattle.payload.proofs.Words.{byte_word, word_same, put_word_length, word_put, word_other}
use Rattle.seals.proofs.Checks.{check_fits, check_same}

-- ---- the words of a block

-- word j of two payloads that agree there
pub body_same : (kind number : ℕ) (p q : ℕ → ℕ) (j : ℕ) → ((i : ℕ) → j ≡ 2 + i → p i ≡ q i) → body_word kind number p j ≡ body_word kind number q j
unfolding body_word
body_same kind number p q zero h = refl
body_same kind number p q (suc zero) h = refl
body_same kind number p q (suc (suc j)) h = h j (omega arith)

pub body_payload : (kind number : ℕ) (p : ℕ → ℕ) (i : ℕ) → body_word kind number p (2 + i) ≡ p i
unfolding body_word
body_payload kind number p i = let e : 2 + i ≡ suc (suc i) = omega arith in ap (body_word kind number p) e

-- words f that are those of a block's body
pub body_is : (kind number : ℕ) (p f : ℕ → ℕ) → f 0 ≡ kind → f 1 ≡ number → ((i : ℕ) → i < 125 → f (2 + i) ≡ p i) → (j : ℕ) → j < 127 → f j ≡ body_word kind number p j
unfolding body_word
body_is kind number p f a b h zero l = a
body_is kind number p f a b h (suc zero) l = b
body_is kind number p f a b h (suc (suc i)) l = let e : suc (suc i) ≡ 2 + i = omega arith in ap f e ∙ h i (omega arith)

module _ (kind number : ℕ) (p : ℕ → ℕ) where
  pub block_body : (j : ℕ) → j < 127 → block_word kind number p j ≡ body_word kind number p j
  unfolding block_word
  block_body j h = rw (lt-ltb j 127 h)

  pub block_check : block_word kind number p 127 ≡ check_word (body_word kind number p)
  unfolding block_word
  block_check = refl

  -- words f that are those of a block, its check word by f itself
  pub block_is : (f : ℕ → ℕ) → ((j : ℕ) → j < 127 → f j ≡ body_word kind number p j) → f 127 ≡ check_word f → (j : ℕ) → j < 128 → f j ≡ block_word kind number p j
  block_is f h c j l =
      elim (dec_lt j 127) [
        | yes b ↦ h j b ∙ sym (block_body j b)
        | no b ↦
            let e : j ≡ 127 = omega arith in
            ap f e ∙ c ∙ check_same f (body_word kind number p) h ∙ sym (ap (block_word kind number p) e ∙ block_check)
      ]

  body_fits : kind < 4294967296 → number < 4294967296 → ((i : ℕ) → p i < 4294967296) → (j : ℕ) → body_word kind number p j < 4294967296
  unfolding body_word
  body_fits a b h zero = a
  body_fits a b h (suc zero) = b
  body_fits a b h (suc (suc i)) = h i

  pub block_fits : kind < 4294967296 → number < 4294967296 → ((i : ℕ) → p i < 4294967296) → (j : ℕ) → block_word kind number p j < 4294967296
  unfolding block_word
  block_fits a b h j =
      elim (dec_lt j 127) [
        | yes l ↦ rw (lt-ltb j 127 l) (body_fits a b h j)
        | no l ↦ rw (le-ltb j 127 (omega arith)) (check_fits (body_word kind number p))
      ]

-- two payloads that agree in their 125 words
pub block_same : (kind number : ℕ) (p q : ℕ → ℕ) → ((i : ℕ) → i < 125 → p i ≡ q i) → (j : ℕ) → j < 128 → block_word kind number p j ≡ block_word kind number q j
unfolding block_word
block_same kind number p q h j l =
    let body : (j : ℕ) → j < 127 → body_word kind number p j ≡ body_word kind number q j = λ j b. body_same kind number p q j (λ i e. h i (omega arith)) in
    elim (dec_lt j 127) [
      | yes b ↦ rw (lt-ltb j 127 b) (body j b)
      | no b ↦ rw (le-ltb j 127 (omega arith)) (check_same (body_word kind number p) (body_word kind number q) body)
    ]

-- ---- the bytes of a block from `at` on, k of them, are filled with zeros: ys is what they are then, and the check word is among them

module _ (left at k m : ℕ) (d l ys : List ℕ) (n : length d ≡ 512) (s : at ≡ (2 + min left 125) * 4) (c : at + k ≡ 512)
    (z : ys ≡ replicate m 0) (q : m ≡ k) (e : l ≡ put_mid at k d ys) where
  is : l ≡ put_mid at (at + k - at) d ys
  is = let t : k ≡ at + k - at = omega arith in e ∙ ap (λ (x : ℕ). put_mid at x d ys) t

  size : length ys ≡ k
  size = ap length z ∙ length-replicate m 0 ∙ q

  kept_byte : (j : ℕ) → j < at → get_or l j 0 ≡ get_or d j 0
  kept_byte j h = ap (λ (x : List ℕ). get_or x j 0) is ∙ put_before at k d ys (omega arith) size j 0 h

  filled_byte : (i : ℕ) → i < k → get_or l (at + i) 0 ≡ 0
  filled_byte i h =
      ap (λ (x : List ℕ). get_or x (at + i) 0) is
      ∙ put_within at k d ys (omega arith) size i 0 h
      ∙ ap (λ (x : List ℕ). get_or x i 0) z
      ∙ get_or-replicate m i 0 0 (omega arith)

  zero_byte : (j : ℕ) → at ≤ j → j < 512 → get_or l j 0 ≡ 0
  zero_byte j a b = let t : at + (j - at) ≡ j = omega arith in ap (λ (x : ℕ). get_or l x 0) (sym t) ∙ filled_byte (j - at) (omega arith)

  kept_before : (j : ℕ) → j < 2 + min left 125 → word_at l j ≡ word_at d j
  kept_before j h = word_same l d j j (λ i b. kept_byte (j * 4 + i) (omega arith))

  zero_after : (j : ℕ) → 2 + min left 125 ≤ j → j < 128 → word_at l j ≡ 0
  unfolding word_at
  zero_after j a b =
      rw (
        zero_byte (j * 4) (omega arith) (omega arith),
        zero_byte (j * 4 + 1) (omega arith) (omega arith),
        zero_byte (j * 4 + 2) (omega arith) (omega arith),
        zero_byte (j * 4 + 3) (omega arith) (omega arith),
      )

  pub cleared : Cleared d left l
  unfolding kept_word
  cleared =
      record {
        same = ap length is ∙ put_length at k d ys (omega arith) size;
        head = λ j b. kept_before j (omega arith);
        payload = λ i b.
            elim (dec_lt i left) [
              | yes h ↦ kept_before (2 + i) (omega arith) ∙ sym (rw (lt-ltb i left h) refl)
              | no h ↦ zero_after (2 + i) (omega arith) (omega arith) ∙ sym (rw (le-ltb i left (omega arith)) refl)
            ];
      }

-- ---- a sealed block: a, b, c and l are the block as each call left it

module _ (kind number left : ℕ) (d a b c l : List ℕ) (n : length d ≡ 512) (p : a ≡ put_word d 0 kind) (q : b ≡ put_word a 1 number) (r : Cleared b left c) where
  a_length : length a ≡ 512
  a_length = ap length p ∙ put_word_length d 0 kind ∙ n

  b_length : length b ≡ 512
  b_length = ap length q ∙ put_word_length a 1 number ∙ a_length

  pub cleared_length : length c ≡ 512
  cleared_length = r.same ∙ b_length

  kept : (i : ℕ) → kept_word b left i ≡ kept_word d left i
  unfolding kept_word
  kept i =
      ap (λ (w : ℕ). cond (ltb i left) w 0)
      (ap (λ (x : List ℕ). word_at x (2 + i)) q ∙ word_other a 1 number (2 + i) (λ t. omega arith) ∙ ap (λ (x : List ℕ). word_at x (2 + i)) p ∙ word_other d 0 kind (2 + i) (λ t. omega arith))

  pub sealed : (check : ℕ) → check ≡ check_word (word_in c 0) → l ≡ put_word c 127 check → Bytes l → kind < 4294967296 → number < 4294967296
      → l ≡ block_of kind number (kept_word d left)
  unfolding block_of
  sealed check e s bytes hk hn =
      row_words_is 4 128 (block_byte kind number (kept_word d left)) l (ap length s ∙ put_word_length c 127 check ∙ cleared_length)
      (λ i k h g. sym (byte_word l i k bytes g) ∙ ap (λ (w : ℕ). byte_of w k) (block_is kind number (kept_word d left) (word_at l) body checked i h))
    where
      -- the words before the check word are those of c
      before : (j : ℕ) → j < 127 → word_at l j ≡ word_at c j
      before j h = ap (λ (x : List ℕ). word_at x j) s ∙ word_other c 127 check j (λ t. omega arith)

      body : (j : ℕ) → j < 127 → word_at l j ≡ body_word kind number (kept_word d left) j
      body =
          body_is kind number (kept_word d left) (word_at l)
          (before 0 (lit< tt)
          ∙ r.head 0 (lit< tt)
          ∙ ap (λ (x : List ℕ). word_at x 0) q
          ∙ word_other a 1 number 0 (λ t. omega arith)
          ∙ ap (λ (x : List ℕ). word_at x 0) p
          ∙ word_put d 0 kind (omega arith) hk)
          (before 1 (lit< tt)
          ∙ r.head 1 (lit< tt)
          ∙ ap (λ (x : List ℕ). word_at x 1) q
          ∙ word_put a 1 number (omega (arith, a_length)) hn)
          (λ i h. before (2 + i) (omega arith) ∙ r.payload i h ∙ kept i)

      checked : word_at l 127 ≡ check_word (word_at l)
      checked =
          ap (λ (x : List ℕ). word_at x 127) s
          ∙ word_put c 127 check (omega (arith, cleared_length)) (subst (λ (x : ℕ). x < 4294967296) (sym e) (check_fits (word_in c 0)))
          ∙ e
          ∙ check_same (word_in c 0) (word_at l) (λ j h. let t : 0 * 128 + j ≡ j = omega arith in ap (word_at c) t ∙ sym (before j h))

-- ---- as a loop's invariant: t blocks of a file are sealed

abbrev pub file_byte : ℕ → List ℕ → ℕ → ℕ → ℕ
file_byte kind words t = cell 4 (block_byte kind t (payload_in words t))

-- one more block is lent, and comes back as ys
block_more : (t blocks kind at : ℕ) (words d l ys : List ℕ) (p : ℕ → ℕ) → Rowed t blocks 512 (file_byte kind words) d l → t < blocks → at ≡ t * 512 → ys ≡ block_of kind t p
    → ((i : ℕ) → i < 125 → p i ≡ payload_in words t i) → Rowed (t + 1) blocks 512 (file_byte kind words) d (put_mid at (at + 512 - at) l ys)
unfolding block_of
block_more t blocks kind at words d l ys p a h e y same =
    rowed_words t blocks 512 (file_byte kind words) d l at 4 128 (block_byte kind t p) ys a h e y (omega arith)
    (λ j b. cell_same 4 128 (block_byte kind t p) (block_byte kind t (payload_in words t))
    (λ i q s r. ap (λ (w : ℕ). byte_of w q) (block_same kind t p (payload_in words t) same i s))
    j (omega arith))

pub file_ended : (t blocks kind : ℕ) (words d l : List ℕ) → Rowed t blocks 512 (file_byte kind words) d l → blocks ≤ t → blocks ≡ blocks_for (length words) → l ≡ file_of kind words
unfolding file_of
file_ended t blocks kind words d l a h e =
    rowed_grid t (blocks_for (length words)) 512 4 128 (λ t. block_byte kind t (payload_in words t)) d l
    (subst (λ (b : ℕ). Rowed t b 512 (file_byte kind words) d l) e a) (omega arith) (omega arith)

-- ---- a file that is written: a block's words are put, and then it is sealed

-- b is the block with its words put
pub block_written : (kind number : ℕ) (d b words ys : List ℕ) → length d ≡ 512 → length words ≤ 125 → Words words → b ≡ put_payload d 0 words
    → ys ≡ block_of kind number (kept_word b (length words)) → ys ≡ block_of kind number (λ i. get_or words i 0)
unfolding block_of kept_word payload_word
block_written kind number d b words ys n few fits put e =
    e ∙ row_words_same 4 128 _ _ (λ j q s r. ap (λ (w : ℕ). byte_of w q) (block_same kind number (kept_word b (length words)) (λ i. get_or words i 0) kept j s))
  where
    put_all : payload_of (length words) b ≡ words
    put_all = ap (payload_of (length words)) put ∙ payload_put_all d words fits (omega arith)

    kept : (i : ℕ) → i < 125 → kept_word b (length words) i ≡ get_or words i 0
    kept i h =
        elim (dec_lt i (length words)) [
          | yes s ↦
              let p : payload_place i ≡ 2 + i = omega arith in
              rw (lt-ltb i (length words) s)
              (ap (word_at b) (sym p) ∙ sym (tabulate_at (length words) (payload_word b) i 0 s) ∙ ap (λ (x : List ℕ). get_or x i 0) put_all)
          | no s ↦ rw (le-ltb i (length words) (omega arith)) (sym (get_or-eq_default words 0 (omega arith)))
        ]

-- n words of a payload from word t * 125 on are put in block t: 125, or those that are left
pub written_more : (t blocks kind at from n : ℕ) (words d l ys : List ℕ) → Rowed t blocks 512 (file_byte kind words) d l → t < blocks → at ≡ t * 512 → from ≡ t * 125 → n ≡ min 125 (length words - t * 125)
    → blocks ≡ blocks_for (length words) → ys ≡ block_of kind t (λ i. get_or (take (from + n - from) (drop from words)) i 0)
    → Rowed (t + 1) blocks 512 (file_byte kind words) d (put_mid at (at + 512 - at) l ys)
written_more t blocks kind at from n words d l ys a h e f c b y =
    block_more t blocks kind at words d l ys _ a h e y
    (λ i g.
    elim (dec_lt i n) [
      | yes s ↦ part_at from n words i 0 s ∙ ap (λ (k : ℕ). get_or words (k + i) 0) f
      | no s ↦
          get_or-eq_default (take (from + n - from) (drop from words)) 0 (omega (arith, part_length from n (length words) words (omega arith) refl))
          ∙ sym (get_or-eq_default words 0 (omega arith))
    ])

-- ---- a file whose payload stands: each block is sealed

-- block t is lent and still as it was in d
module _ (t blocks m kind at : ℕ) (d l : List ℕ) (a : Rowed t blocks 512 (file_byte kind (payload_of m d)) d l) (e : at ≡ t * 512) where
  part : List ℕ
  part = take (at + 512 - at) (drop at l)

  kept_payload : (i : ℕ) → i < 125 → kept_word part (m - t * 125) i ≡ payload_in (payload_of m d) t i
  unfolding kept_word payload_word part
  kept_payload i h =
      elim (dec_lt i (m - t * 125)) [
        | yes b ↦
            let p : payload_place (t * 125 + i) ≡ t * 128 + (2 + i) = omega arith in
            rw (lt-ltb i (m - t * 125) b)
            (word_same part d (2 + i) (t * 128 + (2 + i))
            (λ q s.
            part_at at 512 l ((2 + i) * 4 + q) 0 (omega arith)
            ∙ filled_rest (t * 512) (cell 512 (file_byte kind (payload_of m d))) d l (at + ((2 + i) * 4 + q)) a.is (omega arith)
            ∙ ap (λ (k : ℕ). get_or d k 0) (let x : at + ((2 + i) * 4 + q) ≡ (t * 128 + (2 + i)) * 4 + q = omega arith in x))
            ∙ ap (word_at d) (sym p)
            ∙ sym (tabulate_at m (payload_word d) (t * 125 + i) 0 (omega arith)))
        | no b ↦ rw (le-ltb i (m - t * 125) (omega arith)) (sym (tabulate_past m (payload_word d) (t * 125 + i) 0 (omega arith)))
      ]

  pub blocks_more : (ys : List ℕ) → t < blocks → ys ≡ block_of kind t (kept_word (take (at + 512 - at) (drop at l)) (m - t * 125))
      → Rowed (t + 1) blocks 512 (file_byte kind (payload_of m d)) d (put_mid at (at + 512 - at) l ys)
  unfolding part
  blocks_more ys h y = block_more t blocks kind at (payload_of m d) d l ys _ a h e y kept_payload

pub blocks_ended : (t blocks m kind : ℕ) (d l : List ℕ) → Rowed t blocks 512 (file_byte kind (payload_of m d)) d l → blocks ≤ t → blocks ≡ blocks_for m
    → l ≡ file_of kind (payload_of m d)
blocks_ended t blocks m kind d l a h e = file_ended t blocks kind (payload_of m d) d l a h (e ∙ ap blocks_for (sym (tabulate_length m (payload_word d))))
