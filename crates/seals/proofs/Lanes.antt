-- Laws of the check word by sums alone: every fourth word of a block is a lane, of which the words are added up, and the sums so far too. Each
-- word of a lane of q words is then in as many of these sums as words follow it, and itself: which makes up for its weight.
use mathlib.Core.Path.{◌≡◌, refl, sym, ap, ap₂, subst, ◌∙◌}
use mathlib.Core.List.{List}
use Prim.Native.Nat.{ℕ, zero, suc, ◌+◌, ◌-◌, ◌*◌, ◌/◌, ◌%◌, ◌≤◌, ◌<◌}
use native.Mathlib.Nat.{add-zero, zero-mul}
use native.Mathlib.Omega.{arith}
use Rattle.tables.specs.Sum.{sum}
use Rattle.tables.proofs.Sum.{sum_none, sum_more}
use Rattle.seals.specs.Lanes.{lanes_check}
use Rattle.payload.specs.Word.{word_at}
use Rattle.payload.specs.Block.{weighed, check_word}
use Rattle.payload.specs.File.{word_in}

-- the first q words of lane l, added up
abbrev lane_sum : (ℕ → ℕ) → ℕ → ℕ → ℕ
lane_sum word l q = sum q (λ p. word (p * 4 + l))

-- the sums of its first word, of its first two, and so on
abbrev lane_twice : (ℕ → ℕ) → ℕ → ℕ → ℕ
lane_twice word l q = sum q (λ p. lane_sum word l (p + 1))

-- as a part of a loop's invariant: both, as the code has them
pub record Laned (q l : ℕ) (word : ℕ → ℕ) (s t : ℕ) : Type 0 where
  pub adds : s ≡ lane_sum word l q % 4294967296
  pub twice : t ≡ lane_twice word l q % 4294967296

pub laned_begun : (l : ℕ) (word : ℕ → ℕ) → Laned 0 l word 0 0
laned_begun l word =
    record {
      adds = sym (ap (λ (x : ℕ). x % 4294967296) (sum_none (λ p. word (p * 4 + l))));
      twice = sym (ap (λ (x : ℕ). x % 4294967296) (sum_none (λ p. lane_sum word l (p + 1))));
    }

-- w, s' and t' are the word and the lane as a call gave it
pub laned_more : (q l : ℕ) (word : ℕ → ℕ) (s t w s' t' : ℕ) → Laned q l word s t → w ≡ word (q * 4 + l) → (s' ≡ (s + w) % 4294967296) × (t' ≡ (t + s') % 4294967296)
    → Laned (q + 1) l word s' t'
laned_more q l word s t w s' t' a e h =
    let more : lane_sum word l (q + 1) ≡ lane_sum word l q + word (q * 4 + l) = sum_more q (λ p. word (p * 4 + l)) in
    let again : lane_twice word l (q + 1) ≡ lane_twice word l q + lane_sum word l (q + 1) = sum_more q (λ p. lane_sum word l (p + 1)) in
    let adds : s' ≡ lane_sum word l (q + 1) % 4294967296 = omega (arith, a.adds, h.0) in
    record { adds = adds; twice = omega (arith, a.twice, h.1) }

same_rest : (x y k m : ℕ) → x + 4294967296 * k ≡ y + 4294967296 * m → x % 4294967296 ≡ y % 4294967296
same_rest x y k m e = omega arith

below : (n x : ℕ) → x ≡ n % 4294967296 → x < 4294967296
below n x e = omega arith

parted : (n x : ℕ) → x ≡ n % 4294967296 → n ≡ x + 4294967296 * (n / 4294967296)
parted n x e = omega arith

at_most : (x y z t w : ℕ) → x < 4294967296 → y < 4294967296 → z < 4294967296 → t < 4294967296 → w < 4294967296 → 8 * (x + y + z + t) + 255 * w ≤ 1288490188800
at_most x y z t w a b c d e = omega arith

-- the sums S and T, by what is left of them modulo 2 ^ 32
parts_add : (a b c d x y z t w u C A B D E X Y Z T S₀ S₁ S₂ S₃ T₀ T₁ T₂ T₃ : ℕ) → S₀ ≡ a + 4294967296 * A → S₁ ≡ b + 4294967296 * B → S₂ ≡ c + 4294967296 * D → S₃ ≡ d + 4294967296 * E
    → T₀ ≡ x + 4294967296 * X → T₁ ≡ y + 4294967296 * Y → T₂ ≡ z + 4294967296 * Z → T₃ ≡ t + 4294967296 * T → u + (8 * (x + y + z + t) + 255 * w) ≡ 1288490188800
    → C + 255 * w + 8 * (T₀ + T₁ + T₂ + T₃) ≡ 257 * S₀ + 259 * S₁ + 261 * S₂ + 263 * S₃
    → 257 * a + 259 * b + 261 * c + 263 * d + u + 4294967296 * (257 * A + 259 * B + 261 * D + 263 * E) ≡ C + 4294967296 * (300 + 8 * (X + Y + Z + T))
parts_add a b c d x y z t w u C A B D E X Y Z T S₀ S₁ S₂ S₃ T₀ T₁ T₂ T₃ e₀ e₁ e₂ e₃ f₀ f₁ f₂ f₃ g h = omega arith

grow : (k s w : ℕ) → (k + 8) * (s + w) ≡ k * s + k * w + 8 * s + 8 * w
grow k s w = omega arith

-- ---- the sums and the weights, of the first q words of each lane

module _ (word : ℕ → ℕ) where
  up : (m n : ℕ) → n ≡ m + 1 → sum n (weighed word) ≡ sum m (weighed word) + weighed word m
  up m n e = ap (λ (k : ℕ). sum k (weighed word)) e ∙ sum_more m (weighed word)

  four : (q : ℕ) → sum (q * 4 + 4) (weighed word) ≡ sum (q * 4) (weighed word) + weighed word (q * 4 + 0) + weighed word (q * 4 + 1) + weighed word (q * 4 + 2) + weighed word (q * 4 + 3)
  four q =
      omega (
        arith,
        up (q * 4) (q * 4 + 1) (omega arith),
        ap (weighed word) (add-zero (q * 4)),
        up (q * 4 + 1) (q * 4 + 2) (omega arith),
        up (q * 4 + 2) (q * 4 + 3) (omega arith),
        up (q * 4 + 3) (q * 4 + 4) (omega arith),
      )

  lane_more : (l q : ℕ) → lane_sum word l (suc q) ≡ lane_sum word l q + word (q * 4 + l)
  unfolding sum
  lane_more l q = refl

  lane_again : (l q : ℕ) → lane_twice word l (suc q) ≡ lane_twice word l q + lane_sum word l q + word (q * 4 + l)
  unfolding sum
  lane_again l q = omega (arith, sum_more q (λ p. word (p * 4 + l)))

  -- lane l of one word more, by a weight that is c more than 8 for each word before
  weigh_more : (l c q : ℕ) → c ≡ 2 * l + 1
      → (8 * suc q + c) * lane_sum word l (suc q) ≡ (8 * q + c) * lane_sum word l q + weighed word (q * 4 + l) + 8 * lane_sum word l q + 8 * word (q * 4 + l)
  weigh_more l c q e =
      let k : 8 * suc q + c ≡ 8 * q + c + 8 = omega arith in
      let w : 8 * q + c ≡ 2 * (q * 4 + l) + 1 = omega arith in
      ap₂ (λ (x y : ℕ). x * y) k (lane_more l q) ∙ grow (8 * q + c) (lane_sum word l q) (word (q * 4 + l))
      ∙ ap (λ (x : ℕ). (8 * q + c) * lane_sum word l q + x * word (q * 4 + l) + 8 * lane_sum word l q + 8 * word (q * 4 + l)) w

  pub lanes_weigh : (q : ℕ)
      → sum (q * 4) (weighed word) + 8 * (lane_twice word 0 q + lane_twice word 1 q + lane_twice word 2 q + lane_twice word 3 q)
      ≡ (8 * q + 1) * lane_sum word 0 q + (8 * q + 3) * lane_sum word 1 q + (8 * q + 5) * lane_sum word 2 q + (8 * q + 7) * lane_sum word 3 q
  unfolding sum
  lanes_weigh zero = let z : sum (zero * 4) (weighed word) ≡ 0 = ap (λ (n : ℕ). sum n (weighed word)) (zero-mul 4) in omega (arith, z)
  lanes_weigh (suc q) =
      let n : suc q * 4 ≡ q * 4 + 4 = omega arith in
      omega (
        arith,
        ap (λ (k : ℕ). sum k (weighed word)) n,
        four q,
        lanes_weigh q,
        weigh_more 0 1 q (omega arith),
        weigh_more 1 3 q (omega arith),
        weigh_more 2 5 q (omega arith),
        weigh_more 3 7 q (omega arith),
        lane_again 0 q,
        lane_again 1 q,
        lane_again 2 q,
        lane_again 3 q,
      )

  -- of 32 words a lane: a to d and x to z, t are the lanes as the code has them, and w is word 127
  pub lanes_checked : (a b c d x y z t w r : ℕ) → Laned 32 0 word a x → Laned 32 1 word b y → Laned 32 2 word c z → Laned 32 3 word d t → w ≡ word 127
      → r ≡ lanes_check a x b y c z d t w
      → w < 4294967296 → r ≡ check_word word
  unfolding check_word
  lanes_checked a b c d x y z t w r ha hb hc hd hw e lw =
      let whole : sum 128 (weighed word) ≡ sum 127 (weighed word) + 255 * word 127 = sum_more 127 (weighed word) in
      let small : (8 * (x + y + z + t) + 255 * w) ≤ 1288490188800 =
      at_most x y z t w (below (lane_twice word 0 32) x ha.twice) (below (lane_twice word 1 32) y hb.twice) (below (lane_twice word 2 32) z hc.twice) (below (lane_twice word 3 32) t hd.twice) lw in
      let left : ℕ = 1288490188800 - (8 * (x + y + z + t) + 255 * w) in
      e
      ∙ same_rest (257 * a + 259 * b + 261 * c + 263 * d + left) (sum 127 (weighed word)) _ _
      (parts_add a b c d x y z t w left (sum 127 (weighed word)) (lane_sum word 0 32 / 4294967296) (lane_sum word 1 32 / 4294967296) (lane_sum word 2 32 / 4294967296) (lane_sum word 3 32 / 4294967296)
      (lane_twice word 0 32 / 4294967296) (lane_twice word 1 32 / 4294967296) (lane_twice word 2 32 / 4294967296) (lane_twice word 3 32 / 4294967296)
      (lane_sum word 0 32) (lane_sum word 1 32) (lane_sum word 2 32) (lane_sum word 3 32) (lane_twice word 0 32) (lane_twice word 1 32) (lane_twice word 2 32) (lane_twice word 3 32)
      (parted _ _ ha.adds) (parted _ _ hb.adds) (parted _ _ hc.adds) (parted _ _ hd.adds) (parted _ _ ha.twice) (parted _ _ hb.twice) (parted _ _ hc.twice) (parted _ _ hd.twice)
      (omega (arith, small)) (omega (arith, whole, lanes_weigh 32, hw)))

-- ---- as a loop's invariant: the four lanes of the first q words each

pub record Lanes (q : ℕ) (word : ℕ → ℕ) (a x b y c z d t : ℕ) : Type 0 where
  pub bound : q ≤ 32
  pub first : Laned q 0 word a x
  pub second : Laned q 1 word b y
  pub third : Laned q 2 word c z
  pub fourth : Laned q 3 word d t

pub lanes_begun : (word : ℕ → ℕ) → Lanes 0 word 0 0 0 0 0 0 0 0
lanes_begun word = record { bound = omega arith; first = laned_begun 0 word; second = laned_begun 1 word; third = laned_begun 2 word; fourth = laned_begun 3 word }

-- at is where word q * 4 stands in the file, and the others are the lanes before and after
pub lanes_more : (q : ℕ) (word : ℕ → ℕ) (a x b y c z d t e f g h a' x' b' y' c' z' d' t' : ℕ) → Lanes q word a x b y c z d t → q < 32
    → e ≡ word (q * 4 + 0) → f ≡ word (q * 4 + 1) → g ≡ word (q * 4 + 2) → h ≡ word (q * 4 + 3)
    → (a' ≡ (a + e) % 4294967296) × (x' ≡ (x + a') % 4294967296) → (b' ≡ (b + f) % 4294967296) × (y' ≡ (y + b') % 4294967296)
    → (c' ≡ (c + g) % 4294967296) × (z' ≡ (z + c') % 4294967296) → (d' ≡ (d + h) % 4294967296) × (t' ≡ (t + d') % 4294967296)
    → Lanes (q + 1) word a' x' b' y' c' z' d' t'
lanes_more q word a x b y c z d t e f g h a' x' b' y' c' z' d' t' l n p₀ p₁ p₂ p₃ i j k m =
    record {
      bound = omega arith;
      first = laned_more q 0 word a x e a' x' l.first p₀ i;
      second = laned_more q 1 word b y f b' y' l.second p₁ j;
      third = laned_more q 2 word c z g c' z' l.third p₂ k;
      fourth = laned_more q 3 word d t h d' t' l.fourth p₃ m;
    }

pub lanes_ended : (q : ℕ) (word : ℕ → ℕ) (a x b y c z d t w r : ℕ) → Lanes q word a x b y c z d t → 32 ≤ q → w ≡ word 127
    → r ≡ lanes_check a x b y c z d t w
    → w < 4294967296 → r ≡ check_word word
lanes_ended q word a x b y c z d t w r l h e p b₀ =
    let n : q ≡ 32 = omega (arith, l.bound) in
    let at : Lanes 32 word a x b y c z d t = subst (λ (k : ℕ). Lanes k word a x b y c z d t) n l in
    lanes_checked word a b c d x y z t w r at.first at.second at.third at.fourth e p b₀

-- word j of block t, where the code has it
pub lane_word : (file : List ℕ) (t q l at : ℕ) → at ≡ t * 128 + q * 4 + l → word_at file at ≡ word_in file t (q * 4 + l)
lane_word file t q l at e = let p : at ≡ t * 128 + (q * 4 + l) = omega arith in ap (word_at file) p
