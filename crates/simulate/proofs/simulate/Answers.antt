-- A refusal leaves the record; else the run is sound, and is written.
use mathlib.Core.Path.{sym, ap, ◌∙◌}
use Rattle.tables.specs.Answer.{answer_of}
use Rattle.tables.proofs.Answers.{left_refused, left_accepted}
use Rattle.simulate.specs.Simulate.{record_left}
use Rattle.simulate.proofs.Answers.{accepted_sizes, accepted_sound}
use Rattle.simulate.proofs.simulate.Goals as goal

pub returns-in_err-refused-clause-written : goal.returns-in_err-refused-clause-written
unfolding record_left
returns-in_err-refused-clause-written c = left_refused _ _ _ _ (ap answer_of (sym c.in_err-refused.was) ∙ c.refused.ensures) tt

pub write_record-requires : goal.write_record-requires
write_record-requires c =
    let e = sym c.refused.ensures ∙ ap answer_of c.in_ok-refused.was in
    let l = accepted_sizes _ _ _ _ e in
    record { sound = accepted_sound _ _ _ _ e; output_len = l.room_fits }

pub returns-clause-written : goal.returns-clause-written
unfolding record_left
returns-clause-written c = left_accepted _ _ _ _ _ c.refused.ensures (ap answer_of c.in_ok-refused.was) c.write_record.ensures
