-- Where a call's refusal may stand, whatever it is given: its number is 1 to 18, its row at most 3,747, the blocks of the longest list.
use mathlib.Core.Bool.{Bool, true, false, ◌&&◌}
use mathlib.Core.List.{List}
use mathlib.Core.Path.{◌≡◌, refl, sym}
use Prim.Native.Nat.{ℕ, ◌*◌, ◌≤◌}
use native.Mathlib.Omega.{arith}
use lib.Dec.{eqb}
use lib.ListN.{length, get_or}
use Rattle.payload.specs.File.{blocks_for, payload_word}
use Rattle.seals.proofs.Bounds.{Bounded, tested_bounded, or_else_bounded, payload_bounded}
use Rattle.block.specs.declared.Kind.{Kind}
use Rattle.block.specs.Kinds.{kind_number, list_length, own_agrees}
use Rattle.block.specs.Calls.{told_fits, file_answer, read_answer, write_answer}
use Rattle.block.proofs.Calls.{told_is, length_high}

pub file_bounded : (kind : Kind) (n k : ℕ) (file : List ℕ) → Bounded (blocks_for (list_length kind n k)) (file_answer kind n k file)
unfolding file_answer
file_bounded kind n k file =
    or_else_bounded _ _ _ (payload_bounded (kind_number kind) (list_length kind n k) file)
    (tested_bounded _ (own_agrees kind n k (payload_word file 0)) 1 0 (omega arith) (omega arith))

pub read_bounded : (kind : Kind) (n k : ℕ) (file : List ℕ) (room : ℕ) → Bounded 3747 (read_answer kind n k file room)
unfolding read_answer
read_bounded kind n k file room = by (told_fits n k) refl
  where
    by : (t : Bool) → told_fits n k ≡ t → Bounded 3747 (read_answer kind n k file room)
    by false e = rw e (record { number = omega arith; row = omega arith; node = refl; named = λ r. omega arith })
    by true e =
        let l : list_length kind n k ≤ 468327 = length_high kind n k (told_is n k true (sym e) refl) in
        let f = file_bounded kind n k file in
        or_else_bounded 3747 _ _ (tested_bounded 3747 (told_fits n k && eqb room (list_length kind n k)) 1 0 (omega arith) (omega arith)) (record { number = f.number; row = omega (arith, f.row); node = f.node; named = f.named })

pub write_bounded : (kind : Kind) (n k : ℕ) (words : List ℕ) (room : ℕ) → Bounded 0 (write_answer kind n k words room)
unfolding write_answer
write_bounded kind n k words room =
    tested_bounded 0
    (told_fits n k
    && (eqb room (blocks_for (list_length kind n k) * 512)
    && (eqb (length words) (list_length kind n k)
    && own_agrees kind n k (get_or words 0 0))))
    1 0 (omega arith) (omega arith)
