-- The corridor's file: how many words it has in either kind.
use Prim.Native.Nat.{ℕ}
use mathlib.Core.Bool.{Bool, true, false, cond}
use mathlib.Core.List.{List}
use mathlib.Core.Logic.{inl, inr}
use mathlib.Core.Path.{◌≡◌, refl}
use lib.Dec.{eqb}
use Rattle.lists.specs.Words.{corridor_length}
use Rattle.lengths.proofs.Sizes.{CorridorSized}
use Rattle.payload.specs.File.{payload_word}
use Rattle.block.specs.declared.Kind.TheVariants.{Corridor}
use Rattle.block.specs.Kinds.{list_length, own_agrees, later, says_later, file_kind}
use Rattle.block.proofs.Chosen.{of_either}
use Rattle.file_rows.specs.Words.{corridor_count}

-- the length of the kind that the file chooses
pub corridor_count_lem : (n k : ℕ) (file : List ℕ) → list_length (file_kind Corridor file) n k ≡ corridor_count n file
unfolding file_kind later list_length
corridor_count_lem n k file = by (says_later Corridor file)
  where
    by : (t : Bool) → list_length (cond t (later Corridor) Corridor) n k ≡ corridor_length (cond t 11 9) n
    by true = refl
    by false = refl

pub corridor_sized_lem : (n : ℕ) (file : List ℕ) → CorridorSized n (corridor_count n file)
corridor_sized_lem n file = by (says_later Corridor file)
  where
    by : (t : Bool) → CorridorSized n (corridor_length (cond t 11 9) n)
    by true = inr refl
    by false = inl refl

pub corridor_own : (n k : ℕ) (file : List ℕ) → own_agrees (file_kind Corridor file) n k (payload_word file 0) ≡ eqb (payload_word file 0) n
unfolding own_agrees later
corridor_own n k file = of_either (λ kind. own_agrees kind n k (payload_word file 0) ≡ eqb (payload_word file 0) n) Corridor file refl refl
