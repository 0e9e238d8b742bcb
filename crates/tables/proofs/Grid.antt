-- Laws of rows of nodes of c words, and the invariants of the loops that write them: node by node, and row by row.
use mathlib.Core.List.{List, [], ◌∷◌, ◌++◌}
use mathlib.Core.Logic.{⊎_elim}
use mathlib.Core.Path.{◌≡◌, refl, sym, ap, ◌∙◌, subst}
use Prim.Native.Nat.{ℕ, zero, suc, ◌+◌, ◌-◌, ◌*◌, ◌/◌, ◌%◌, ◌≤◌, ◌<◌}
use native.Mathlib.Nat.{zero-mul, add-zero, zero-add, mod-lt, div-add-mod', div-lt_iff_lt-mul}
use native.Mathlib.Omega.{arith}
use borrow.Rule.Slice.PartMut.{put_mid}
use lib.Arith.{digits_div, digits_mod, digits_lt}
use lib.ListN.{length, get_or, set, get_or-append}
use lib.Seq.{get_or-append-add}
use Rattle.tables.specs.Tabulate.{tabulate}
use Rattle.tables.specs.Grid.{cell, row_words, grid, place}
use Rattle.tables.proofs.Numbers.{row_fits_lem, le_or_lt}
use Rattle.tables.proofs.Tabulate.{tabulate_length, tabulate_at, tabulate_is, tabulate_same, Filled, filled_begun, filled_stored, filled_ended, filled_lent}

-- ---- words by one index

pub cell_at : (c : ℕ) (word : ℕ → ℕ → ℕ) (i q : ℕ) → q < c → cell c word (i * c + q) ≡ word i q
unfolding cell
cell_at c word i q h = ap (λ (a : ℕ). word a ((i * c + q) % c)) (digits_div i h) ∙ ap (word i) (digits_mod i h)

-- what holds of word q of place i, for each of n places of c words, holds of each of the n * c words
each_word : (P : ℕ → Type 0) (n c : ℕ) → ((i q : ℕ) → i < n → q < c → P (i * c + q)) → (j : ℕ) → j < n * c → P j
each_word P n zero h j l = absurd (omega arith)
each_word P n (suc c) h j l =
    let p : 0 < suc c = omega arith in
    subst P (div-add-mod' j (suc c)) (h (j / suc c) (j % suc c) ((div-lt_iff_lt-mul p).1 l) (mod-lt j p))

pub cell_same : (c n : ℕ) (v w : ℕ → ℕ → ℕ) → ((i q : ℕ) → i < n → q < c → v i q ≡ w i q) → (j : ℕ) → j < n * c → cell c v j ≡ cell c w j
cell_same c n v w h = each_word (λ j. cell c v j ≡ cell c w j) n c (λ i q a b. cell_at c v i q b ∙ h i q a b ∙ sym (cell_at c w i q b))

-- ---- a row

pub row_words_length : (c n : ℕ) (word : ℕ → ℕ → ℕ) → length (row_words c n word) ≡ n * c
unfolding row_words
row_words_length c n word = tabulate_length (n * c) (cell c word)

pub row_words_at : (c n : ℕ) (word : ℕ → ℕ → ℕ) (i q d : ℕ) → i < n → q < c → get_or (row_words c n word) (i * c + q) d ≡ word i q
unfolding row_words
row_words_at c n word i q d h b = tabulate_at (n * c) (cell c word) (i * c + q) d (digits_lt h b) ∙ cell_at c word i q b

pub row_words_is : (c n : ℕ) (word : ℕ → ℕ → ℕ) (l : List ℕ) → length l ≡ n * c → ((i q : ℕ) → i < n → q < c → get_or l (i * c + q) 0 ≡ word i q)
    → l ≡ row_words c n word
unfolding row_words
row_words_is c n word l e h =
    tabulate_is (n * c) (cell c word) l e (each_word (λ j. get_or l j 0 ≡ cell c word j) n c (λ i q a b. h i q a b ∙ sym (cell_at c word i q b)))

pub row_words_same : (c n : ℕ) (v w : ℕ → ℕ → ℕ) → ((i q : ℕ) → i < n → q < c → v i q ≡ w i q) → row_words c n v ≡ row_words c n w
unfolding row_words
row_words_same c n v w h = tabulate_same (n * c) (cell c v) (cell c w) (cell_same c n v w h)

-- ---- rows

pub place_fits : (c n m k i q : ℕ) → k < m → i < n → q < c → place c n k i q < m * (n * c)
place_fits c n m k i q a b h = digits_lt a (digits_lt b h)

-- what holds of word q of node i in row k holds of each of the m * (n * c) words
pub each_place : (P : ℕ → Type 0) (c n m : ℕ) → ((k i q : ℕ) → k < m → i < n → q < c → P (place c n k i q)) → (j : ℕ) → j < m * (n * c) → P j
each_place P c n m h =
    each_word P m (n * c) (λ k j a b. each_word (λ j. P (k * (n * c) + j)) n c (λ i q s t. h k i q a s t) j b)

pub grid_length : (c n m : ℕ) (word : ℕ → ℕ → ℕ → ℕ) → length (grid c n m word) ≡ m * (n * c)
unfolding grid
grid_length c n m word = tabulate_length (m * (n * c)) _

pub grid_at : (c n m : ℕ) (word : ℕ → ℕ → ℕ → ℕ) (k i q d : ℕ) → k < m → i < n → q < c → get_or (grid c n m word) (place c n k i q) d ≡ word k i q
unfolding grid
grid_at c n m word k i q d a b h =
    tabulate_at (m * (n * c)) (cell (n * c) (λ k. cell c (word k))) (place c n k i q) d (place_fits c n m k i q a b h)
    ∙ cell_at (n * c) (λ k. cell c (word k)) k (i * c + q) (digits_lt b h)
    ∙ cell_at c (word k) i q h

pub grid_is : (c n m : ℕ) (word : ℕ → ℕ → ℕ → ℕ) (l : List ℕ) → length l ≡ m * (n * c)
    → ((k i q : ℕ) → k < m → i < n → q < c → get_or l (place c n k i q) 0 ≡ word k i q) → l ≡ grid c n m word
unfolding grid
grid_is c n m word l e h =
    let whole : ℕ → ℕ = cell (n * c) (λ k. cell c (word k)) in
    tabulate_is (m * (n * c)) whole l e
    (each_place (λ j. get_or l j 0 ≡ whole j) c n m
    (λ k i q a b t. h k i q a b t ∙ sym (cell_at (n * c) (λ k. cell c (word k)) k (i * c + q) (digits_lt b t) ∙ cell_at c (word k) i q t)))

pub grid_same : (c n m : ℕ) (v w : ℕ → ℕ → ℕ → ℕ) → ((k i q : ℕ) → k < m → i < n → q < c → v k i q ≡ w k i q) → grid c n m v ≡ grid c n m w
grid_same c n m v w h = grid_is c n m w (grid c n m v) (grid_length c n m v) (λ k i q a b t. grid_at c n m v k i q 0 a b t ∙ h k i q a b t)

-- ---- a grid with other words after it, as a record has its cost

module _ (c n m : ℕ) (word : ℕ → ℕ → ℕ → ℕ) (rest : List ℕ) where
  pub before_rest : (k i q : ℕ) → k < m → i < n → q < c → get_or (grid c n m word ++ rest) (place c n k i q) 0 ≡ word k i q
  before_rest k i q a b h =
      get_or-append (grid c n m word) rest 0 _ (rw (grid_length c n m word) (place_fits c n m k i q a b h)) ∙ grid_at c n m word k i q 0 a b h

  pub at_rest : (q : ℕ) → get_or (grid c n m word ++ rest) (m * (n * c) + q) 0 ≡ get_or rest q 0
  at_rest q = ap (λ (x : ℕ). get_or (grid c n m word ++ rest) (x + q) 0) (sym (grid_length c n m word)) ∙ get_or-append-add (grid c n m word) rest q 0

  -- what holds of the words of the grid and of those after it, 0 past their end, holds of each word
  pub each_with_rest : (P : ℕ → Type 0) → ((k i q : ℕ) → k < m → i < n → q < c → P (word k i q)) → ((q : ℕ) → P (get_or rest q 0))
      → (j : ℕ) → P (get_or (grid c n m word ++ rest) j 0)
  each_with_rest P inside after j =
      ⊎_elim
      (λ (g : m * (n * c) ≤ j). past (j - m * (n * c)) (omega arith))
      (λ (g : j < m * (n * c)).
      each_place (λ x. P (get_or (grid c n m word ++ rest) x 0)) c n m
      (λ k i q a b h. subst P (sym (before_rest k i q a b h)) (inside k i q a b h))
      j g)
      (le_or_lt (m * (n * c)) j)
    where
      past : (q : ℕ) → m * (n * c) + q ≡ j → P (get_or (grid c n m word ++ rest) j 0)
      past q e = subst (λ (x : ℕ). P (get_or (grid c n m word ++ rest) x 0)) e (subst P (sym (at_rest q)) (after q))

-- ---- as a loop's invariant: l is d with the first i of its n nodes, of c words each, those of `word`

pub record Placed (c i n : ℕ) (word : ℕ → ℕ → ℕ) (d l : List ℕ) : Type 0 where
  pub bound : i ≤ n
  pub room : length l ≡ n * c
  pub is : Filled (i * c) (cell c word) d l

pub placed_begun : (c n : ℕ) (word : ℕ → ℕ → ℕ) (d : List ℕ) → length d ≡ n * c → Placed c 0 n word d d
placed_begun c n word d e =
    record { bound = omega arith; room = e; is = subst (λ (j : ℕ). Filled j (cell c word) d d) (sym (zero-mul c)) (filled_begun (cell c word) d) }

-- the words of vs, stored one after another from at + q on
abbrev pub stores : List ℕ → ℕ → ℕ → List ℕ → List ℕ
stores l at q [] = l
stores l at q (v ∷ vs) = stores (set l (at + q) v) at (suc q) vs

-- the words from q on of place i
filled_stores : (c i q : ℕ) (word : ℕ → ℕ → ℕ) (d l vs : List ℕ) → Filled (i * c + q) (cell c word) d l → q + length vs ≡ c → i * c + c ≤ length d
    → ((p : ℕ) → p < length vs → get_or vs p 0 ≡ word i (q + p)) → Filled (i * c + c) (cell c word) d (stores l (i * c) q vs)
filled_stores c i q word d l [] a e r h =
    let t : i * c + q ≡ i * c + c = omega arith in
    subst (λ (j : ℕ). Filled j (cell c word) d l) t a
filled_stores c i q word d l (v ∷ vs) a e r h =
    let t : i * c + q + 1 ≡ i * c + suc q = omega arith in
    let w : v ≡ cell c word (i * c + q) = h 0 (omega arith) ∙ ap (word i) (add-zero q) ∙ sym (cell_at c word i q (omega arith)) in
    filled_stores c i (suc q) word d (set l (i * c + q) v) vs
    (subst (λ (j : ℕ). Filled j (cell c word) d (set l (i * c + q) v)) t
    (filled_stored (i * c + q) (length d) (cell c word) d l v a (omega arith) refl w))
    (omega arith) r
    (λ p b. let s : q + suc p ≡ suc q + p = omega arith in h (suc p) (omega arith) ∙ ap (word i) s)

-- the c words of one more node are stored, the first at `at`
pub placed_stored : (c i n : ℕ) (word : ℕ → ℕ → ℕ) (d l : List ℕ) (at v : ℕ) (vs : List ℕ) → Placed c i n word d l → i < n → at ≡ i * c
    → v ∷ vs ≡ tabulate c (word i) → Placed c (i + 1) n word d (stores (set l at v) at 1 vs)
placed_stored c i n word d l at v vs p h e w =
    let m : length (v ∷ vs) ≡ c = ap length w ∙ tabulate_length c (word i) in
    let z : i * c + 0 ≡ i * c = add-zero (i * c) in
    let t : i * c + c ≡ (i + 1) * c = omega arith in
    let r : i * c + c ≤ length d = omega (arith, row_fits_lem i n c h, p.room, p.is.same) in
    let words : (q : ℕ) → q < length (v ∷ vs) → get_or (v ∷ vs) q 0 ≡ word i (0 + q) =
    λ q b. ap (λ (k : List ℕ). get_or k q 0) w ∙ tabulate_at c (word i) q 0 (omega arith) ∙ ap (word i) (sym (zero-add q)) in
    let s : stores l (i * c) 0 (v ∷ vs) ≡ stores (set l at v) at 1 vs =
    ap (λ (k : ℕ). stores (set l k v) (i * c) 1 vs) (z ∙ sym e) ∙ ap (λ (k : ℕ). stores (set l at v) k 1 vs) (sym e) in
    let f : Filled (i * c + c) (cell c word) d (stores l (i * c) 0 (v ∷ vs)) =
    filled_stores c i 0 word d l (v ∷ vs) (subst (λ (j : ℕ). Filled j (cell c word) d l) (sym z) p.is) (zero-add (length (v ∷ vs)) ∙ m) r words in
    let g : Filled ((i + 1) * c) (cell c word) d (stores (set l at v) at 1 vs) =
    subst (λ (j : ℕ). Filled j (cell c word) d (stores (set l at v) at 1 vs)) t (subst (λ (k : List ℕ). Filled (i * c + c) (cell c word) d k) s f) in
    record { bound = omega arith; room = sym g.same ∙ p.is.same ∙ p.room; is = g }

-- the same as the code stores them: two words, four, and five
pub placed_two : (i n : ℕ) (word : ℕ → ℕ → ℕ) (d l : List ℕ) (at v₀ v₁ : ℕ) → Placed 2 i n word d l → i < n → at ≡ i * 2
    → v₀ ≡ word i 0 → v₁ ≡ word i 1 → Placed 2 (i + 1) n word d (set (set l at v₀) (at + 1) v₁)
unfolding tabulate
placed_two i n word d l at v₀ v₁ p h e e₀ e₁ = placed_stored 2 i n word d l at v₀ (v₁ ∷ []) p h e (cc)

pub placed_four : (i n : ℕ) (word : ℕ → ℕ → ℕ) (d l : List ℕ) (at v₀ v₁ v₂ v₃ : ℕ) → Placed 4 i n word d l → i < n → at ≡ i * 4
    → v₀ ≡ word i 0 → v₁ ≡ word i 1 → v₂ ≡ word i 2 → v₃ ≡ word i 3
    → Placed 4 (i + 1) n word d (set (set (set (set l at v₀) (at + 1) v₁) (at + 2) v₂) (at + 3) v₃)
unfolding tabulate
placed_four i n word d l at v₀ v₁ v₂ v₃ p h e e₀ e₁ e₂ e₃ = placed_stored 4 i n word d l at v₀ (v₁ ∷ v₂ ∷ v₃ ∷ []) p h e (cc)

pub placed_five : (i n : ℕ) (word : ℕ → ℕ → ℕ) (d l : List ℕ) (at v₀ v₁ v₂ v₃ v₄ : ℕ) → Placed 5 i n word d l → i < n → at ≡ i * 5
    → v₀ ≡ word i 0 → v₁ ≡ word i 1 → v₂ ≡ word i 2 → v₃ ≡ word i 3 → v₄ ≡ word i 4
    → Placed 5 (i + 1) n word d (set (set (set (set (set l at v₀) (at + 1) v₁) (at + 2) v₂) (at + 3) v₃) (at + 4) v₄)
unfolding tabulate
placed_five i n word d l at v₀ v₁ v₂ v₃ v₄ p h e e₀ e₁ e₂ e₃ e₄ = placed_stored 5 i n word d l at v₀ (v₁ ∷ v₂ ∷ v₃ ∷ v₄ ∷ []) p h e (cc)

pub placed_ended : (c i n : ℕ) (word : ℕ → ℕ → ℕ) (d l : List ℕ) → Placed c i n word d l → n ≤ i → l ≡ row_words c n word
unfolding row_words
placed_ended c i n word d l p h =
    let e : i ≡ n = omega arith in
    let q : length d ≡ n * c = p.is.same ∙ p.room in
    filled_ended (n * c) (n * c) (n * c) (cell c word) d l (subst (λ (j : ℕ). Filled (j * c) (cell c word) d l) e p.is) (omega arith) q q

-- ---- as a loop's invariant: l is d with the first k of its m rows, of w words each, those of g

pub record Rowed (k m w : ℕ) (g : ℕ → ℕ → ℕ) (d l : List ℕ) : Type 0 where
  pub bound : k ≤ m
  pub room : length l ≡ m * w
  pub is : Filled (k * w) (cell w g) d l

pub rowed_begun : (m w : ℕ) (g : ℕ → ℕ → ℕ) (d : List ℕ) → length d ≡ m * w → Rowed 0 m w g d d
rowed_begun m w g d e =
    record { bound = omega arith; room = e; is = subst (λ (j : ℕ). Filled j (cell w g) d d) (sym (zero-mul w)) (filled_begun (cell w g) d) }

-- one more row is lent, `&mut l[at..at + w]`, and comes back as ys, the p words of f
pub rowed_lent : (k m w : ℕ) (g : ℕ → ℕ → ℕ) (d l : List ℕ) (at p : ℕ) (f : ℕ → ℕ) (ys : List ℕ) → Rowed k m w g d l → k < m → at ≡ k * w
    → ys ≡ tabulate p f → p ≡ w → ((j : ℕ) → j < w → f j ≡ g k j) → Rowed (k + 1) m w g d (put_mid at (at + w - at) l ys)
rowed_lent k m w g d l at p f ys a h e y q agree =
    let r : k * w + w ≤ m * w = row_fits_lem k m w h in
    let t : at + w ≡ (k + 1) * w = omega arith in
    let u : ys ≡ tabulate w f = y ∙ ap (λ (j : ℕ). tabulate j f) q in
    let words : (j : ℕ) → j < w → get_or ys j 0 ≡ cell w g (at + j) =
    λ j b. ap (λ (x : List ℕ). get_or x j 0) u ∙ tabulate_at w f j 0 b ∙ agree j b ∙ sym (ap (λ (x : ℕ). cell w g (x + j)) e ∙ cell_at w g k j b) in
    let s : Filled (at + w) (cell w g) d (put_mid at (at + w - at) l ys) =
    filled_lent at w (cell w g) d l ys (subst (λ (j : ℕ). Filled j (cell w g) d l) (sym e) a.is) (omega (arith, a.room)) (ap length u ∙ tabulate_length w f) words in
    record {
      bound = omega arith;
      room = sym s.same ∙ a.is.same ∙ a.room;
      is = subst (λ (j : ℕ). Filled j (cell w g) d (put_mid at (at + w - at) l ys)) t s;
    }

-- the same where ys are p nodes of c words
pub rowed_words : (k m w : ℕ) (g : ℕ → ℕ → ℕ) (d l : List ℕ) (at c p : ℕ) (word : ℕ → ℕ → ℕ) (ys : List ℕ) → Rowed k m w g d l → k < m → at ≡ k * w
    → ys ≡ row_words c p word → w ≡ p * c → ((j : ℕ) → j < w → cell c word j ≡ g k j) → Rowed (k + 1) m w g d (put_mid at (at + w - at) l ys)
unfolding row_words
rowed_words k m w g d l at c p word ys a h e y q agree = rowed_lent k m w g d l at (p * c) (cell c word) ys a h e y (sym q) agree

pub rowed_ended : (k m w : ℕ) (g : ℕ → ℕ → ℕ) (d l : List ℕ) → Rowed k m w g d l → m ≤ k → l ≡ tabulate (m * w) (cell w g)
rowed_ended k m w g d l a h =
    let e : k ≡ m = omega arith in
    let q : length d ≡ m * w = a.is.same ∙ a.room in
    filled_ended (m * w) (m * w) (m * w) (cell w g) d l (subst (λ (j : ℕ). Filled (j * w) (cell w g) d l) e a.is) (omega arith) q q

pub rowed_grid : (k m w c n : ℕ) (word : ℕ → ℕ → ℕ → ℕ) (d l : List ℕ) → Rowed k m w (λ h. cell c (word h)) d l → w ≡ n * c → m ≤ k → l ≡ grid c n m word
unfolding grid
rowed_grid k m w c n word d l a e h =
    rowed_ended k m (n * c) (λ h. cell c (word h)) d l (subst (λ (x : ℕ). Rowed k m x (λ h. cell c (word h)) d l) e a) h
