-- A part of a list as the code lends it, `l[at..at + n]`: what is read of it, and the list once it is back.
use mathlib.Core.List.{List, ◌++◌}
use mathlib.Core.Path.{◌≡◌, refl, sym, ap, ◌∙◌}
use Prim.Native.Nat.{ℕ, ◌+◌, ◌-◌, ◌≤◌, ◌<◌}
use native.Mathlib.Omega.{arith}
use borrow.Rule.Slice.PartMut.{put_mid, same_len_mid}
use lib.ListN.{length, get_or, take, drop, length-take, length-drop, get_or-append}
use lib.Seq.{length-take-le, get_or-take, get_or-drop, get_or-append-add}

-- m is the length of the whole
pub part_length : (at n m : ℕ) (l : List ℕ) → at + n ≤ m → length l ≡ m → length (take (at + n - at) (drop at l)) ≡ n
part_length at n m l h e = simp (length-take, length-drop) (omega arith)

pub part_at : (at n : ℕ) (l : List ℕ) (i d : ℕ) → i < n → get_or (take (at + n - at) (drop at l)) i d ≡ get_or l (at + i) d
part_at at n l i d h =
    let b : i < at + n - at = omega arith in
    get_or-take (at + n - at) (drop at l) i d b ∙ get_or-drop at l i d

-- ---- the part comes back as ys

module _ (at n : ℕ) (l ys : List ℕ) (fits : at + n ≤ length l) (same : length ys ≡ n) where
  pub put_length : length (put_mid at (at + n - at) l ys) ≡ length l
  put_length = same_len_mid at (at + n - at) l ys (same ∙ sym (part_length at n (length l) l fits refl))

  pub put_before : (j d : ℕ) → j < at → get_or (put_mid at (at + n - at) l ys) j d ≡ get_or l j d
  put_before j d h =
      let b : j < length (take at l) = simp length-take (omega arith) in
      get_or-append (take at l) _ d j b ∙ get_or-take at l j d h

  -- element i past `at`
  past : (i d : ℕ) → get_or (put_mid at (at + n - at) l ys) (at + i) d ≡ get_or (ys ++ drop (at + n - at) (drop at l)) i d
  past i d =
      ap (λ (k : ℕ). get_or (put_mid at (at + n - at) l ys) (k + i) d) (sym (length-take-le at l (omega arith)))
      ∙ get_or-append-add (take at l) (ys ++ drop (at + n - at) (drop at l)) i d

  pub put_within : (i d : ℕ) → i < n → get_or (put_mid at (at + n - at) l ys) (at + i) d ≡ get_or ys i d
  put_within i d h = past i d ∙ get_or-append ys (drop (at + n - at) (drop at l)) d i (omega arith)

  pub put_after : (j d : ℕ) → at + n ≤ j → get_or (put_mid at (at + n - at) l ys) j d ≡ get_or l j d
  put_after j d h =
      let i : ℕ = j - (at + n) in
      let e : j ≡ at + (length ys + i) = omega arith in
      let q : at + (at + n - at + i) ≡ j = omega arith in
      ap (λ (k : ℕ). get_or (put_mid at (at + n - at) l ys) k d) e
      ∙ past (length ys + i) d
      ∙ get_or-append-add ys (drop (at + n - at) (drop at l)) i d
      ∙ get_or-drop (at + n - at) (drop at l) i d
      ∙ get_or-drop at l (at + n - at + i) d
      ∙ ap (λ (k : ℕ). get_or l k d) q
