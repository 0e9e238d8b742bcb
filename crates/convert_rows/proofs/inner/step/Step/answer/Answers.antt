-- By what the junction and the words that are read ensure.
use Prim.Native.Nat.{ℕ}
use mathlib.Core.Path.{ap, ◌∙◌}
use Rattle.lists.specs.Rows.{state_in}
use Rattle.tables.proofs.Answers.{refusal_told}
use Rattle.convert_rows.proofs.Steps.{split_kept, speed_kept, room_kept, step_number_is}
use Rattle.convert_rows.proofs.inner.step.Step.answer.Goals as goal

pub step_fault-fault-requires : goal.step_fault-fault-requires
step_fault-fault-requires c =
    let rows = c.args.self.now.kept in
    let here = c.requires.i_le_links in
    let is = c.junction.ensures in
    record {
      split_bound = (split_kept _ _ _ _ _ rows _ _ here _ is, speed_kept _ _ _ _ _ rows _ _ here _ is);
      inflow_bound = room_kept _ _ _ _ _ rows _ _ here _ is _ _ c.requires.gained.0 c.arrivals.ensures;
    }

pub returns : goal.returns
returns c =
    let self = c.args.self.now in
    refusal_told _ _ _ _ _ c.placed.ensures (step_number_is _ _ _ _ _ _ _ _ _ _ _ _ _ _ c.step_fault-fault.ensures c.junction.ensures
    c.flows.ensures c.exit.ensures c.requires.gained.1 c.arrivals.ensures
    (c.state.ensures ∙ ap (λ (w : ℕ). state_in w self.after.words.now c.args.i) self.next.1))
