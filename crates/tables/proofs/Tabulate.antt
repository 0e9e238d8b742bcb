-- Laws of tabulated lists, and the invariant of a loop that fills a list from its front.
use mathlib.Core.List.{List}
use mathlib.Core.Logic.{⊎_elim}
use mathlib.Core.Path.{◌≡◌, refl, sym, ap, ◌∙◌}
use Prim.Native.Nat.{ℕ, zero, suc, ◌+◌, ◌-◌, ◌≤◌, ◌<◌}
use native.Mathlib.Nat.{not-suc-le-zero, le_of_suc-le-suc, add-zero, zero-add, add-suc, suc-add}
use native.Mathlib.Omega.{arith}
use borrow.Rule.Slice.PartMut.{put_mid}
use lib.ListN.{length, get_or, set, take, drop, length-set, get_or-eq_default}
use lib.Seq.{ext_get_or, get_or-set_same, get_or-set_other}
use Rattle.tables.specs.Tabulate.{tabulate_from, tabulate}
use Rattle.tables.proofs.Numbers.{le_or_lt}
use Rattle.tables.proofs.Part.{part_length, part_at, put_length, put_before, put_within, put_after}

from_length : (i n : ℕ) (f : ℕ → ℕ) → length (tabulate_from i n f) ≡ n
from_length i zero f = refl
from_length i (suc n) f = ap suc (from_length (suc i) n f)

from_at : (i n : ℕ) (f : ℕ → ℕ) (j d : ℕ) → j < n → get_or (tabulate_from i n f) j d ≡ f (i + j)
from_at i zero f j d h = absurd (not-suc-le-zero h)
from_at i (suc n) f zero d h = ap f (sym (add-zero i))
from_at i (suc n) f (suc j) d h = from_at (suc i) n f j d (le_of_suc-le-suc h) ∙ ap f (suc-add i j ∙ sym (add-suc i j))

pub tabulate_length : (n : ℕ) (f : ℕ → ℕ) → length (tabulate n f) ≡ n
unfolding tabulate
tabulate_length n f = from_length 0 n f

pub tabulate_at : (n : ℕ) (f : ℕ → ℕ) (j d : ℕ) → j < n → get_or (tabulate n f) j d ≡ f j
unfolding tabulate
tabulate_at n f j d h = from_at 0 n f j d h ∙ ap f (zero-add j)

pub tabulate_past : (n : ℕ) (f : ℕ → ℕ) (j d : ℕ) → n ≤ j → get_or (tabulate n f) j d ≡ d
tabulate_past n f j d h = get_or-eq_default (tabulate n f) d (omega (arith, tabulate_length n f))

-- a list of n elements that are f's is the tabulation
pub tabulate_is : (n : ℕ) (f : ℕ → ℕ) (l : List ℕ) → length l ≡ n → ((j : ℕ) → j < n → get_or l j 0 ≡ f j) → l ≡ tabulate n f
tabulate_is n f l e h =
    ext_get_or 0 l (tabulate n f) (e ∙ sym (tabulate_length n f))
    (λ j b. let b' : j < n = omega arith in h j b' ∙ sym (tabulate_at n f j 0 b'))

pub tabulate_same : (n : ℕ) (f g : ℕ → ℕ) → ((j : ℕ) → j < n → f j ≡ g j) → tabulate n f ≡ tabulate n g
tabulate_same n f g h = tabulate_is n g (tabulate n f) (tabulate_length n f) (λ j b. tabulate_at n f j 0 b ∙ h j b)

-- a part of it, as the code lends it
pub tabulate_part : (at n m : ℕ) (f : ℕ → ℕ) → at + n ≤ m → take (at + n - at) (drop at (tabulate m f)) ≡ tabulate n (λ j. f (at + j))
tabulate_part at n m f h =
    tabulate_is n (λ j. f (at + j)) _ (part_length at n m (tabulate m f) h (tabulate_length m f))
    (λ j b. part_at at n (tabulate m f) j 0 b ∙ tabulate_at m f (at + j) 0 (omega arith))

-- ---- as a loop's invariant: l is d with its first i elements f's

pub record Filled (i : ℕ) (f : ℕ → ℕ) (d l : List ℕ) : Type 0 where
  pub bound : i ≤ length d
  pub same : length d ≡ length l
  pub written : (j : ℕ) → j < i → get_or l j 0 ≡ f j
  pub rest : (j : ℕ) → i ≤ j → get_or l j 0 ≡ get_or d j 0

pub filled_begun : (f : ℕ → ℕ) (d : List ℕ) → Filled 0 f d d
filled_begun f d = record { bound = omega arith; same = refl; written = λ j h. absurd (not-suc-le-zero h); rest = λ j h. refl }

-- n is the length, of d or of l as the loop has it
pub filled_stored : (i n : ℕ) (f : ℕ → ℕ) (d l : List ℕ) (v : ℕ) → Filled i f d l → i < n → length d ≡ n → v ≡ f i → Filled (i + 1) f d (set l i v)
filled_stored i n f d l v a h q e =
    record {
      bound = omega arith;
      same = a.same ∙ sym (length-set l i v);
      written = λ j b. ⊎_elim
          (λ (s : i ≤ j).
          let t : j ≡ i = omega arith in
          ap (λ (k : ℕ). get_or (set l i v) k 0) t ∙ get_or-set_same l i v 0 (omega (arith, a.same)) ∙ e ∙ ap f (sym t))
          (λ (s : j < i). get_or-set_other l i j v 0 (λ t. omega arith) ∙ a.written j s)
          (le_or_lt i j);
      rest = λ j b. get_or-set_other l i j v 0 (λ t. omega arith) ∙ a.rest j (omega arith);
    }

pub filled_rest : (i : ℕ) (f : ℕ → ℕ) (d l : List ℕ) (j : ℕ) → Filled i f d l → i ≤ j → get_or l j 0 ≡ get_or d j 0
filled_rest i f d l j a h = a.rest j h

pub filled_ended : (i m n : ℕ) (f : ℕ → ℕ) (d l : List ℕ) → Filled i f d l → m ≤ i → length d ≡ m → length d ≡ n → l ≡ tabulate n f
filled_ended i m n f d l a h q e = tabulate_is n f l (sym a.same ∙ e) (λ j b. a.written j (omega arith))

-- a loop that copies s
pub filled_copied : (i m : ℕ) (s d l : List ℕ) → Filled i (λ j. get_or s j 0) d l → m ≤ i → length d ≡ m → length s ≡ length d → l ≡ s
filled_copied i m s d l a h q e =
    filled_ended i m (length d) (λ j. get_or s j 0) d l a h q refl ∙ sym (tabulate_is (length d) (λ j. get_or s j 0) s e (λ j b. refl))

-- the next n elements are lent, `&mut l[i..i + n]`, and come back as ys
pub filled_lent : (i n : ℕ) (f : ℕ → ℕ) (d l ys : List ℕ) → Filled i f d l → i + n ≤ length l → length ys ≡ n
    → ((j : ℕ) → j < n → get_or ys j 0 ≡ f (i + j)) → Filled (i + n) f d (put_mid i (i + n - i) l ys)
filled_lent i n f d l ys a h q w =
    record {
      bound = omega (arith, a.same);
      same = a.same ∙ sym (put_length i n l ys h q);
      written = λ j b. ⊎_elim
          (λ (s : i ≤ j).
          let t : i + (j - i) ≡ j = omega arith in
          ap (λ (k : ℕ). get_or (put_mid i (i + n - i) l ys) k 0) (sym t)
          ∙ put_within i n l ys h q (j - i) 0 (omega arith)
          ∙ w (j - i) (omega arith)
          ∙ ap f t)
          (λ (s : j < i). put_before i n l ys h q j 0 s ∙ a.written j s)
          (le_or_lt i j);
      rest = λ j b. put_after i n l ys h q j 0 b ∙ a.rest j (omega arith);
    }
