-- Laws of words in bytes: the bytes of a word make it again, a word that was put is read again, and other words stay.
use mathlib.Core.List.{List, [], ◌∷◌}
use mathlib.Core.Logic.{◌≢◌}
use mathlib.Core.Path.{◌≡◌, refl, sym, ap, ◌∙◌}
use Prim.Native.Nat.{ℕ, zero, suc, ◌+◌, ◌*◌, ◌/◌, ◌%◌, ◌≤◌, ◌<◌}
use native.Mathlib.Nat.{suc-add, div-div-eq-div-mul, div-add-mod', div-lt_iff_lt-mul, mod-eq_of_lt}
use native.Mathlib.Omega.{arith}
use borrow.Rule.Slice.PartMut.{put_mid}
use lib.Dec.{lit<}
use lib.ListN.{length, get_or, set, length-set}
use lib.Seq.{get_or-set_same, get_or-set_other}
use Rattle.payload.specs.Word.{Bytes, joined, byte_of, word_at, put_word}

digits : (w x y z a b c : ℕ) → x * 256 + a ≡ w → y * 256 + b ≡ x → z * 256 + c ≡ y → joined a b c z ≡ w
digits w x y z a b c e f g = omega arith

-- the bytes of a word make it again
pub join_bytes : (w : ℕ) → w < 4294967296 → joined (byte_of w 0) (byte_of w 1) (byte_of w 2) (byte_of w 3) ≡ w
join_bytes w h =
    let top : w / 16777216 < 256 = (div-lt_iff_lt-mul (lit< tt)).1 h in
    ap (λ (z : ℕ). joined (w % 256) (w / 256 % 256) (w / 65536 % 256) z) (mod-eq_of_lt top)
    ∙ digits w (w / 256) (w / 65536) (w / 16777216) (w % 256) (w / 256 % 256) (w / 65536 % 256) (div-add-mod' w 256)
    (ap (λ (z : ℕ). z * 256 + w / 256 % 256) (sym (div-div-eq-div-mul w 256 256)) ∙ div-add-mod' (w / 256) 256)
    (ap (λ (z : ℕ). z * 256 + w / 65536 % 256) (sym (div-div-eq-div-mul w 65536 256)) ∙ div-add-mod' (w / 65536) 256)

-- the word of four bytes has these bytes
byte_joined : (a b c d q : ℕ) → a < 256 → b < 256 → c < 256 → d < 256 → (p : ℕ → ℕ) → p 0 ≡ a → p 1 ≡ b → p 2 ≡ c → p 3 ≡ d → q < 4
    → byte_of (joined a b c d) q ≡ p q
byte_joined a b c d zero ha hb hc hd p e₀ e₁ e₂ e₃ h = omega arith
byte_joined a b c d (suc zero) ha hb hc hd p e₀ e₁ e₂ e₃ h = omega arith
byte_joined a b c d (suc (suc zero)) ha hb hc hd p e₀ e₁ e₂ e₃ h = omega arith
byte_joined a b c d (suc (suc (suc zero))) ha hb hc hd p e₀ e₁ e₂ e₃ h = omega arith
byte_joined a b c d (suc (suc (suc (suc q)))) ha hb hc hd p e₀ e₁ e₂ e₃ h = absurd (omega arith)

-- byte q of word j is the byte that stands there
pub byte_word : (bytes : List ℕ) (j q : ℕ) → Bytes bytes → q < 4 → byte_of (word_at bytes j) q ≡ get_or bytes (j * 4 + q) 0
unfolding word_at
byte_word bytes j q h l =
    let z : j * 4 + 0 ≡ j * 4 = omega arith in
    byte_joined _ _ _ _ q (h (j * 4)) (h (j * 4 + 1)) (h (j * 4 + 2)) (h (j * 4 + 3)) (λ p. get_or bytes (j * 4 + p) 0) (ap (λ (k : ℕ). get_or bytes k 0) z) refl refl refl l

-- a word of bytes that agree from it on
pub word_same : (a b : List ℕ) (i j : ℕ) → ((q : ℕ) → q < 4 → get_or a (i * 4 + q) 0 ≡ get_or b (j * 4 + q) 0) → word_at a i ≡ word_at b j
unfolding word_at
word_same a b i j h =
    let zi : i * 4 + 0 ≡ i * 4 = omega arith in
    let zj : j * 4 + 0 ≡ j * 4 = omega arith in
    let e₀ : get_or a (i * 4) 0 ≡ get_or b (j * 4) 0 = ap (λ (k : ℕ). get_or a k 0) (sym zi) ∙ h 0 (lit< tt) ∙ ap (λ (k : ℕ). get_or b k 0) zj in
    cc (e₀, h 1 (lit< tt), h 2 (lit< tt), h 3 (lit< tt))

-- a word whose bytes are those of w
pub word_is : (bytes : List ℕ) (j w : ℕ) → w < 4294967296 → ((q : ℕ) → q < 4 → get_or bytes (j * 4 + q) 0 ≡ byte_of w q) → word_at bytes j ≡ w
unfolding word_at
word_is bytes j w l h =
    let z : j * 4 + 0 ≡ j * 4 = omega arith in
    let e₀ : get_or bytes (j * 4) 0 ≡ byte_of w 0 = ap (λ (k : ℕ). get_or bytes k 0) (sym z) ∙ h 0 (lit< tt) in
    rw (e₀, h 1 (lit< tt), h 2 (lit< tt), h 3 (lit< tt)) (join_bytes w l)

pub word_fits : (bytes : List ℕ) (j : ℕ) → Bytes bytes → word_at bytes j < 4294967296
unfolding word_at
word_fits bytes j h = omega (arith, h (j * 4), h (j * 4 + 1), h (j * 4 + 2), h (j * 4 + 3))

-- ---- a word that is put

pub put_word_length : (bytes : List ℕ) (j w : ℕ) → length (put_word bytes j w) ≡ length bytes
unfolding put_word
put_word_length bytes j w = simp length-set

-- what stands after four stores at i, i + 1, i + 2, i + 3, there and elsewhere
module _ (l : List ℕ) (i a b c d : ℕ) where
  four : List ℕ
  four = set (set (set (set l i a) (i + 1) b) (i + 2) c) (i + 3) d

  four_other : (k : ℕ) → k ≢ i → k ≢ i + 1 → k ≢ i + 2 → k ≢ i + 3 → get_or four k 0 ≡ get_or l k 0
  unfolding four
  four_other k h₀ h₁ h₂ h₃ = simp get_or-set_other

  four_at : i + 4 ≤ length l → joined (get_or four i 0) (get_or four (i + 1) 0) (get_or four (i + 2) 0) (get_or four (i + 3) 0) ≡ joined a b c d
  unfolding four
  four_at h =
      let n₁ : i + 1 < length (set l i a) = simp length-set (omega arith) in
      let n₂ : i + 2 < length (set (set l i a) (i + 1) b) = simp length-set (omega arith) in
      let n₃ : i + 3 < length (set (set (set l i a) (i + 1) b) (i + 2) c) = simp length-set (omega arith) in
      let n₀ : i < length l = omega arith in
      let e₀₁ : i ≢ i + 1 = omega arith in
      let e₀₂ : i ≢ i + 2 = omega arith in
      let e₀₃ : i ≢ i + 3 = omega arith in
      let e₁₂ : i + 1 ≢ i + 2 = omega arith in
      let e₁₃ : i + 1 ≢ i + 3 = omega arith in
      let e₂₃ : i + 2 ≢ i + 3 = omega arith in
      simp (get_or-set_same, get_or-set_other)

-- four bytes that are copied into `l[i..i + 4]` are four stores; k is the length of this part
four_copied : (l : List ℕ) (i k a b c d : ℕ) → k ≡ 4 → i + 4 ≤ length l
    → put_mid i k l (a ∷ b ∷ c ∷ d ∷ []) ≡ set (set (set (set l i a) (i + 1) b) (i + 2) c) (i + 3) d
four_copied (x ∷ xs) (suc i) k a b c d e h =
    let r : put_mid i k xs (a ∷ b ∷ c ∷ d ∷ []) ≡ set (set (set (set xs i a) (i + 1) b) (i + 2) c) (i + 3) d = four_copied xs i k a b c d e (omega arith) in
    simp suc-add (ap (λ (l : List ℕ). x ∷ l) r)
four_copied (x ∷ y ∷ z ∷ w ∷ xs) zero k a b c d e h = rw e
four_copied [] i k a b c d e h = absurd (omega arith)
four_copied (x ∷ []) zero k a b c d e h = absurd (omega arith)
four_copied (x ∷ y ∷ []) zero k a b c d e h = absurd (omega arith)
four_copied (x ∷ y ∷ z ∷ []) zero k a b c d e h = absurd (omega arith)

-- ys are the four bytes, and v the list of them that the library makes
pub word_copied : (bytes : List ℕ) (j k w : ℕ) (ys v : List ℕ) → ys ≡ v → v ≡ byte_of w 0 ∷ byte_of w 1 ∷ byte_of w 2 ∷ byte_of w 3 ∷ [] → k ≡ 4
    → j * 4 + 4 ≤ length bytes → put_mid (j * 4) k bytes ys ≡ put_word bytes j w
unfolding put_word
word_copied bytes j k w ys v e p q h = rw (e, p) (four_copied bytes (j * 4) k _ _ _ _ q h)

pub word_put : (bytes : List ℕ) (j w : ℕ) → j * 4 + 4 ≤ length bytes → w < 4294967296 → word_at (put_word bytes j w) j ≡ w
unfolding put_word word_at four
word_put bytes j w h l = four_at bytes (j * 4) _ _ _ _ h ∙ join_bytes w l

pub word_other : (bytes : List ℕ) (j w i : ℕ) → i ≢ j → word_at (put_word bytes j w) i ≡ word_at bytes i
unfolding put_word four
word_other bytes j w i h =
    word_same (put_word bytes j w) bytes i i
    (λ q l. four_other bytes (j * 4) _ _ _ _ (i * 4 + q) (omega arith) (omega arith) (omega arith) (omega arith))
