-- Where a refusal may stand: its number is 1 to 18, its row at most the number of blocks, its node 0.
use mathlib.Core.Bool.{Bool, true, false, true≢false}
use mathlib.Core.List.{List}
use mathlib.Core.Path.{◌≡◌, refl, sym}
use Prim.Native.Nat.{ℕ, zero, suc, ◌+◌, ◌-◌, ◌*◌, ◌≤◌, ◌<◌}
use native.Mathlib.Omega.{arith}
use lib.Dec.{eqb}
use lib.ListN.{length}
use Rattle.tables.specs.Answer.{Answer}
use Rattle.tables.specs.Answer.{Accepted, Refused}
use Rattle.tables.specs.Answer.{number_of, row_of, node_of, is_refused, or_else}
use Rattle.tables.specs.First.{first}
use Rattle.payload.specs.File.{blocks_for, word_in, payload_word}
use Rattle.payload.specs.Block.{check_word}
use Rattle.seals.specs.Reading.{tested, length_answer, block_answer, padding_answer, payload_answer}

pub record Bounded (rows : ℕ) (a : Answer) : Type 0 where
  pub number : number_of a ≤ 18
  pub row : row_of a ≤ rows
  pub node : node_of a ≡ 0
  pub named : is_refused a ≡ true → 1 ≤ number_of a

pub accepted_bounded : (rows : ℕ) → Bounded rows Accepted
accepted_bounded rows = record { number = omega arith; row = omega arith; node = refl; named = λ e. absurd (true≢false (sym e)) }

pub tested_bounded : (rows : ℕ) (t : Bool) (number row : ℕ) → number ≤ 18 → row ≤ rows → Bounded rows (tested t number row)
tested_bounded rows true number row h l = accepted_bounded rows
tested_bounded rows false zero row h l = accepted_bounded rows
tested_bounded rows false (suc number) row h l = record { number = h; row = l; node = refl; named = λ e. omega arith }

pub or_else_bounded : (rows : ℕ) (a b : Answer) → Bounded rows a → Bounded rows b → Bounded rows (or_else a b)
or_else_bounded rows Accepted b h l = l
or_else_bounded rows (Refused number row node) b h l = h

first_bounded : (rows n : ℕ) (answer : ℕ → Answer) → ((i : ℕ) → i < n → Bounded rows (answer i)) → Bounded rows (first n answer)
unfolding first
first_bounded rows zero answer h = accepted_bounded rows
first_bounded rows (suc n) answer h =
    or_else_bounded rows (first n answer) (answer n) (first_bounded rows n answer (λ i l. h i (omega arith))) (h n (omega arith))

pub payload_bounded : (kind m : ℕ) (file : List ℕ) → Bounded (blocks_for m) (payload_answer kind m file)
unfolding payload_answer length_answer block_answer padding_answer
payload_bounded kind m file =
    let rows : ℕ = blocks_for m in
    or_else_bounded rows _ _ (tested_bounded rows (eqb (length file) (rows * 512)) 14 0 (omega arith) (omega arith))
    (or_else_bounded rows _ _
    (first_bounded rows rows (block_answer kind file)
    (λ t l. or_else_bounded rows _ _ (tested_bounded rows (eqb (word_in file t 127) (check_word (word_in file t))) 15 t (omega arith) (omega arith))
    (or_else_bounded rows _ _ (tested_bounded rows (eqb (word_in file t 0) kind) 16 t (omega arith) (omega arith)) (tested_bounded rows (eqb (word_in file t 1) t) 17 t (omega arith) (omega arith)))))
    (first_bounded rows (rows * 125 - m) (padding_answer m file) (λ i l. tested_bounded rows (eqb (payload_word file (m + i)) 0) 18 (rows - 1) (omega arith) (omega arith))))
