-- Refusal 13 of a record's file: the cost's words where they stand.
use Prim.Native.Nat.{ℕ, ◌+◌}
use mathlib.Core.List.{List}
use mathlib.Core.Path.{◌≡◌, refl, sym, ap₂, ◌∙◌}
use native.Mathlib.Omega.{arith}
use Rattle.tables.specs.Answer.{Answer}
use Rattle.tables.specs.Answer.{refusal}
use Rattle.tables.proofs.Tabulate.{tabulate_at}
use Rattle.record_faults.specs.Records.{total_fault}
use Rattle.lists.specs.Words.{trace_length, record_length}
use Rattle.convert.specs.Rows.{cost_in, cost_refusal}
use Rattle.convert.proofs.Answers.{cost_told}
use Rattle.payload.specs.File.{payload_word}
use Rattle.file_rows.specs.Words.{record_in}

-- the cost's two words, read where they stand: v is the fault's number as the code has it, and a the answer that is made of it
pub cost_read : (width links steps total v low high : ℕ) (file : List ℕ) (a : Answer) → low ≡ payload_word file (trace_length width links steps)
    → high ≡ payload_word file (trace_length width links steps + 1) → v ≡ total_fault total low high
    → total ≡ cost_in width links steps (record_in width links steps file) → a ≡ refusal v 0 0
    → a ≡ cost_refusal width links steps (record_in width links steps file)
cost_read width links steps total v low high file a l h e t r =
    cost_told width links steps (trace_length width links steps) total v (record_in width links steps file) a
    (e
    ∙ ap₂ (total_fault total)
    (l ∙ sym (tabulate_at (record_length width links steps) (payload_word file) (trace_length width links steps) 0 (omega arith)))
    (h ∙ sym (tabulate_at (record_length width links steps) (payload_word file) (trace_length width links steps + 1) 0 (omega arith))))
    refl t r
