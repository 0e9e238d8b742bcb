-- Laws of payload words that are put in place: the loop that puts them, and the payload once they are put.
use mathlib.Core.List.{List}
use mathlib.Core.Logic.{◌≢◌}
use mathlib.Core.Path.{◌≡◌, refl, sym, ap, ap₂, ◌∙◌}
use Prim.Native.Nat.{ℕ, zero, suc, ◌+◌, ◌-◌, ◌*◌, ◌/◌, ◌%◌, ◌≤◌, ◌<◌}
use native.Mathlib.Decide.{dec_lt}
use native.Mathlib.Nat.{zero-add}
use native.Mathlib.Numerals.{add-one}
use native.Mathlib.Omega.{arith}
use borrow.Rule.Slice.PartMut.{put_mid}
use lib.ListN.{length, get_or, take, drop}
use Rattle.tables.specs.Tabulate.{tabulate}
use Rattle.tables.proofs.Part.{part_length, part_at, put_length, put_before, put_within, put_after}
use Rattle.tables.proofs.Tabulate.{tabulate_length, tabulate_at, tabulate_is, tabulate_same, tabulate_part, Filled, filled_lent}
use Rattle.payload.specs.Word.{Words, word_at, put_word}
use Rattle.payload.specs.File.{blocks_for, payload_place, payload_word, payload_part, payload_of, put_first, put_payload}
use Rattle.payload.proofs.Words.{put_word_length, word_put, word_other}

-- ---- as a loop's invariant: i of the words are put

pub record Put (i : ℕ) (d : List ℕ) (from : ℕ) (words l : List ℕ) : Type 0 where
  pub bound : i ≤ length words
  pub same : length l ≡ length d
  pub is : l ≡ put_first i d from words

pub put_begun : (d : List ℕ) (from : ℕ) (words : List ℕ) → Put 0 d from words d
unfolding put_first
put_begun d from words = record { bound = omega arith; same = refl; is = refl }

pub put_more : (i : ℕ) (d : List ℕ) (from : ℕ) (words l l' : List ℕ) → Put i d from words l → i < length words
    → l' ≡ put_word l (payload_place (from + i)) (get_or words i 0) → Put (i + 1) d from words l'
unfolding put_first
put_more i d from words l l' a h e =
    record {
      bound = omega arith;
      same = ap length e ∙ put_word_length l _ _ ∙ a.same;
      is =
          e
          ∙ ap (λ (x : List ℕ). put_word x (payload_place (from + i)) (get_or words i 0)) a.is
          ∙ ap (λ (k : ℕ). put_first k d from words) (sym (add-one i));
    }

pub put_ended : (i : ℕ) (d : List ℕ) (from : ℕ) (words l : List ℕ) → Put i d from words l → length words ≤ i → l ≡ put_payload d from words
put_ended i d from words l a h =
    let e : i ≡ length words = omega arith in
    a.is ∙ ap (λ (k : ℕ). put_first k d from words) e

put_first_length : (n : ℕ) (d : List ℕ) (from : ℕ) (words : List ℕ) → length (put_first n d from words) ≡ length d
unfolding put_first
put_first_length zero d from words = refl
put_first_length (suc n) d from words = put_word_length _ _ _ ∙ put_first_length n d from words

-- the next n words are put as one run
put_split : (n : ℕ) (d : List ℕ) (from i m : ℕ) (words : List ℕ) → n ≤ m
    → put_first (i + n) d from words ≡ put_first n (put_first i d from words) (from + i) (take (i + m - i) (drop i words))
unfolding put_first
put_split zero d from i m words h = let e : i + 0 ≡ i = omega arith in ap (λ (k : ℕ). put_first k d from words) e
put_split (suc n) d from i m words h =
    let e : i + suc n ≡ suc (i + n) = omega arith in
    let p : payload_place (from + (i + n)) ≡ payload_place (from + i + n) = omega arith in
    ap (λ (k : ℕ). put_first k d from words) e
    ∙ ap (λ (x : List ℕ). put_word x (payload_place (from + (i + n))) (get_or words (i + n) 0)) (put_split n d from i m words (omega arith))
    ∙ ap₂ (λ (k w : ℕ). put_word (put_first n (put_first i d from words) (from + i) (take (i + m - i) (drop i words))) k w) p (sym (part_at i m words n 0 (omega arith)))

pub put_runs : (i n : ℕ) (d : List ℕ) (from : ℕ) (words l l' : List ℕ) → Put i d from words l → i + n ≤ length words
    → l' ≡ put_payload l (from + i) (take (i + n - i) (drop i words)) → Put (i + n) d from words l'
put_runs i n d from words l l' a h e =
    let count : length (take (i + n - i) (drop i words)) ≡ n = part_length i n (length words) words h refl in
    let is : l' ≡ put_first (i + n) d from words =
    e
    ∙ ap (λ (k : ℕ). put_first k l (from + i) (take (i + n - i) (drop i words))) count
    ∙ ap (λ (x : List ℕ). put_first n x (from + i) (take (i + n - i) (drop i words))) a.is
    ∙ sym (put_split n d from i n words (omega arith)) in
    record { bound = h; same = ap length is ∙ put_first_length (i + n) d from words; is = is }

-- word q of a run in one block
pub run_more : (q j first : ℕ) (d words l l' : List ℕ) → Put q d j words l → q < length words → j % 125 + length words ≤ 125 → first ≡ payload_place j
    → l' ≡ put_word l (first + q) (get_or words q 0) → Put (q + 1) d j words l'
run_more q j first d words l l' a h r f e =
    let p : first + q ≡ payload_place (j + q) = omega arith in
    put_more q d j words l l' a h (e ∙ ap (λ (k : ℕ). put_word l k (get_or words q 0)) p)

-- a run of n words lies within a file that holds m of them past `from`
pub run_fits : (from i n m first count room : ℕ) → blocks_for (from + m) * 512 ≤ room → 1 ≤ n → i + n ≤ m → (from + i) % 125 + n ≤ 125 → first ≡ payload_place (from + i) → count ≡ n
    → (first + count) * 4 ≤ room
run_fits from i n m first count room f l h r e c =
    let block : (from + i) / 125 < blocks_for (from + m) = omega arith in
    omega arith

-- the next n words are unpacked as one run
pub unpack_more : (i n from first count : ℕ) (file d l ys : List ℕ) → Filled i (λ j. payload_word file (from + j)) d l → ys ≡ tabulate count (λ q. word_at file (first + q))
    → i + n ≤ length l → (from + i) % 125 + n ≤ 125 → first ≡ payload_place (from + i) → count ≡ n
    → Filled (i + n) (λ j. payload_word file (from + j)) d (put_mid i (i + n - i) l ys)
unfolding payload_word
unpack_more i n from first count file d l ys a e h r f c =
    filled_lent i n (λ j. payload_word file (from + j)) d l ys a h (ap length e ∙ tabulate_length count _ ∙ c)
    (λ q b.
    let p : first + q ≡ payload_place (from + (i + q)) = omega arith in
    ap (λ (x : List ℕ). get_or x q 0) e ∙ tabulate_at count (λ q. word_at file (first + q)) q 0 (omega arith) ∙ ap (word_at file) p)

-- ---- the payload once words are put

put_first_other : (n : ℕ) (d : List ℕ) (from : ℕ) (words : List ℕ) (j : ℕ) → ((i : ℕ) → i < n → j ≢ from + i)
    → payload_word (put_first n d from words) j ≡ payload_word d j
unfolding put_first payload_word
put_first_other zero d from words j h = refl
put_first_other (suc n) d from words j h =
    word_other (put_first n d from words) (payload_place (from + n)) (get_or words n 0) (payload_place j) (λ e. h n (omega arith) (omega arith))
    ∙ put_first_other n d from words j (λ i l. h i (omega arith))

put_first_at : (n : ℕ) (d : List ℕ) (from : ℕ) (words : List ℕ) → Words words → blocks_for (from + n) * 512 ≤ length d → (i : ℕ) → i < n
    → payload_word (put_first n d from words) (from + i) ≡ get_or words i 0
unfolding put_first payload_word
put_first_at zero d from words w f i h = absurd (omega arith)
put_first_at (suc n) d from words w f i h =
    elim (dec_lt i n) [
      | yes l ↦
          word_other (put_first n d from words) (payload_place (from + n)) (get_or words n 0) (payload_place (from + i)) (λ e. omega arith)
          ∙ put_first_at n d from words w (omega arith) i l
      | no l ↦
          let e : i ≡ n = omega arith in
          ap (λ (k : ℕ). word_at (put_word (put_first n d from words) (payload_place (from + n)) (get_or words n 0)) (payload_place (from + k))) e
          ∙ word_put (put_first n d from words) (payload_place (from + n)) (get_or words n 0) (omega (arith, put_first_length n d from words)) (w n)
          ∙ ap (λ (k : ℕ). get_or words k 0) (sym e)
    ]

pub put_length_same : (d : List ℕ) (from : ℕ) (words : List ℕ) → length (put_payload d from words) ≡ length d
put_length_same d from words = put_first_length (length words) d from words

-- the payload with the words in place of those that stood there, as a part that is lent comes back
pub payload_put : (m from : ℕ) (d words : List ℕ) → Words words → from + length words ≤ m → blocks_for m * 512 ≤ length d
    → payload_of m (put_payload d from words) ≡ put_mid from (from + length words - from) (payload_of m d) words
payload_put m from d words w h f =
    let n = length words in
    let old = payload_of m d in
    let len : length old ≡ m = tabulate_length m (payload_word d) in
    let fits : from + length words ≤ length (payload_of m d) = omega arith in
    sym
    (tabulate_is m (payload_word (put_payload d from words)) (put_mid from (from + n - from) old words)
    (put_length from n old words fits refl ∙ len)
    (λ j b.
    elim (dec_lt j from) [
      | yes l ↦
          put_before from n old words fits refl j 0 l
          ∙ tabulate_at m (payload_word d) j 0 b
          ∙ sym (put_first_other n d from words j (λ i s. omega arith))
      | no l ↦
          elim (dec_lt j (from + n)) [
            | yes s ↦
                let e : from + (j - from) ≡ j = omega arith in
                ap (λ (k : ℕ). get_or (put_mid from (from + n - from) old words) k 0) (sym e)
                ∙ put_within from n old words fits refl (j - from) 0 (omega arith)
                ∙ sym (put_first_at n d from words w (omega arith) (j - from) (omega arith))
                ∙ ap (payload_word (put_payload d from words)) e
            | no s ↦
                put_after from n old words fits refl j 0 (omega arith)
                ∙ tabulate_at m (payload_word d) j 0 b
                ∙ sym (put_first_other n d from words j (λ i r. omega arith))
          ]
    ]))

-- all words are put
pub payload_put_all : (d words : List ℕ) → Words words → blocks_for (length words) * 512 ≤ length d → payload_of (length words) (put_payload d 0 words) ≡ words
payload_put_all d words w f =
    sym
    (tabulate_is (length words) (payload_word (put_payload d 0 words)) words refl
    (λ j b.
    let z : 0 + j ≡ j = zero-add j in
    let y : 0 + length words ≡ length words = zero-add (length words) in
    sym (ap (payload_word (put_payload d 0 words)) (sym z) ∙ put_first_at (length words) d 0 words w (rw y f) j b)))

-- ---- a part of the payload is that part of it as a list

pub payload_part_lem : (from n m : ℕ) (file : List ℕ) → from + n ≤ m → payload_part from n file ≡ take (from + n - from) (drop from (payload_of m file))
payload_part_lem from n m file h = sym (tabulate_part from n m (payload_word file) h)

pub payload_all : (m : ℕ) (file : List ℕ) → payload_part 0 m file ≡ payload_of m file
payload_all m file = tabulate_same m (λ i. payload_word file (0 + i)) (payload_word file) (λ j b. ap (payload_word file) (zero-add j))
