-- Laws of a corridor's kind, which its length tells, given N: a node's words lie in the list.
use Prim.Native.Nat.{ℕ, suc, ◌+◌, ◌*◌, ◌≤◌, ◌<◌}
use mathlib.Core.Bool.{Bool, true, false, cond}
use mathlib.Core.Path.{◌≡◌, sym, ap, ◌∙◌}
use mathlib.Core.List.{List}
use native.Mathlib.Omega.{arith}
use borrow.Author.Tests.{eq-eqb, ne_eqb}
use lib.Dec.{eqb}
use lib.ListN.{length, get_or}
use Rattle.tables.proofs.Numbers.{row_fits_lem}
use Rattle.lists.specs.Words.{links_of, corridor_length, by_kind, node_width, corridor_word}
use Rattle.lists.specs.Fits.{CorridorFits}

module _ (links count : ℕ) where
  pub by_dropped : (dropped plain : ℕ) → count ≡ corridor_length 11 links → by_kind links count dropped plain ≡ dropped
  unfolding by_kind
  by_dropped dropped plain e = rw (eq-eqb _ _ e)

  pub by_plain : (dropped plain : ℕ) → (count ≡ corridor_length 11 links → ⊥) → by_kind links count dropped plain ≡ plain
  unfolding by_kind
  by_plain dropped plain h = rw (ne_eqb _ _ h)

  -- a word that either kind has stands within a node's words
  pub word_among : (q dropped plain : ℕ) → q ≡ by_kind links count dropped plain → dropped < 11 → plain < 9 → q < node_width links count
  unfolding by_kind
  word_among q dropped plain e h g = omega (arith, by (eqb count (corridor_length 11 links)))
    where
      by : (t : Bool) → cond t dropped plain < cond t 11 9
      by true = h
      by false = g

  -- and so do the nine that both have
  pub nine_words : (q : ℕ) → q < 9 → q < node_width links count
  unfolding by_kind
  nine_words q h = by (eqb count (corridor_length 11 links))
    where
      by : (t : Bool) → q < cond t 11 9
      by true = omega arith
      by false = h

  -- ---- as the code tests it

  pub told_dropped : (dropped plain : ℕ) → count ≡ 1 + (links + 1) * 11 → dropped ≡ by_kind links count dropped plain
  told_dropped dropped plain e = sym (by_dropped dropped plain (omega arith))

  pub told_plain : (dropped plain : ℕ) → (count ≡ 1 + (links + 1) * 11 → ⊥) → plain ≡ by_kind links count dropped plain
  told_plain dropped plain h = sym (by_plain dropped plain (λ (e : count ≡ corridor_length 11 links). h (omega arith)))

-- node i's words are in a corridor's list of `count` words
pub node_fits : (links count i width : ℕ) → i ≤ links → count ≡ corridor_length (node_width links count) links → width ≡ node_width links count
    → (1 + i * width ≡ 1 + i * node_width links count) × (1 + i * width + node_width links count ≤ count)
node_fits links count i width h e w = (
  ap (λ (x : ℕ). 1 + i * x) w,
  omega (arith, row_fits_lem i (suc links) (node_width links count) (omega arith), ap (λ (x : ℕ). i * x) w),
)

-- a word as the code reads it, of a node that begins at word `at`
pub word_read : (corridor : List ℕ) (links i q at x : ℕ) → CorridorFits corridor links → at ≡ 1 + i * node_width links (length corridor)
    → x ≡ get_or corridor (at + q) 0 → x ≡ corridor_word corridor i q
word_read corridor links i q at x fits e h =
    let place : at + q ≡ 1 + (i * node_width links (length corridor) + q) = omega arith in
    h
    ∙ ap (λ (j : ℕ). get_or corridor j 0) place
    ∙ ap (λ (n : ℕ). get_or corridor (1 + (i * node_width n (length corridor) + q)) 0) fits.first

-- the word at a place that the kind tells
pub place_read : (corridor : List ℕ) (links i q dropped plain x : ℕ) → CorridorFits corridor links → q ≡ by_kind links (length corridor) dropped plain
    → x ≡ corridor_word corridor i q → x ≡ corridor_word corridor i (by_kind (links_of corridor) (length corridor) dropped plain)
place_read corridor links i q dropped plain x fits e h =
    h ∙ ap (corridor_word corridor i) (e ∙ ap (λ (n : ℕ). by_kind n (length corridor) dropped plain) fits.first)
