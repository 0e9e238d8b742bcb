-- The record's file: how many words a node has in either kind.
use Prim.Native.Nat.{ℕ}
use mathlib.Core.Bool.{Bool, true, false, cond}
use mathlib.Core.List.{List}
use mathlib.Core.Path.{◌≡◌, refl}
use native.Mathlib.Omega.{arith}
use Rattle.lists.specs.Words.{Width, record_length}
use Rattle.block.specs.declared.Kind.TheVariants.{Record}
use Rattle.block.specs.Kinds.{list_length, later, says_later, file_kind}
use Rattle.file_rows.specs.Words.{file_width}

-- the length of the kind that the file chooses
pub record_count : (n k : ℕ) (file : List ℕ) → list_length (file_kind Record file) n k ≡ record_length (file_width file) n k
unfolding file_kind later list_length
record_count n k file = by (says_later Record file)
  where
    by : (t : Bool) → list_length (cond t (later Record) Record) n k ≡ record_length (cond t 5 4) n k
    by true = refl
    by false = refl

wide : (t : Bool) → Width (cond t 5 4)
wide true = record { least = omega arith; most = omega arith }
wide false = record { least = omega arith; most = omega arith }

pub file_wide : (file : List ℕ) → Width (file_width file)
file_wide file = wide (says_later Record file)
