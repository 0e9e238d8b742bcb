-- By the words that are read.
use Rattle.tables.proofs.Answers.{refusal_told}
use Rattle.convert_rows.proofs.Steps.{fixed_number_is}
use Rattle.convert_rows.proofs.inner.rows.fixed_answer.Goals as goal

pub returns : goal.returns
returns c =
    refusal_told _ _ _ _ _ c.placed.ensures
    (fixed_number_is _ _ _ _ _ _ _ _ _ _ _ _ c.fixed_fault-fault.ensures c.start.ensures c.state.ensures c.flows.ensures c.exit.ensures)
