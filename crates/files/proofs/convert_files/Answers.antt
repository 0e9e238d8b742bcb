-- N, K and the room decide, then the files and the words in them; the plan file is written where they are accepted.
use mathlib.Core.Path.{sym, ap, ◌∙◌}
use Rattle.std.proofs.lemmas.Result.{err_from_is_err_and}
use Rattle.tables.specs.Answer.{answer_of}
use Rattle.tables.specs.Answer.{sized}
use Rattle.files.proofs.Answers.{accepts, told_by_room, convert_wrong, convert_left, convert_right}
use Rattle.files.proofs.convert_files.Goals as goal

pub returns-in_err-sized : goal.returns-in_err-sized
returns-in_err-sized c =
    let p = err_from_is_err_and c.from_residual.result c.from_residual.ensures.1 in
    let all = convert_wrong _ _ c.args.corridor.now c.args.demands.now c.args.recorded.now c.args.plan.now _
    (c.in_err-sized.ensures ∙ ap sized c.room_fits.ensures) tt in
    rw (p.1, p.2) (record { answered = all.0; written = all.1 })

-- N and K were told with the room
pub returns-in_err-size : goal.returns-in_err-size
returns-in_err-size c =
    absurd
    (told_by_room _ _ _ _ _ (c.sized.ensures ∙ ap sized c.room_fits.ensures) (ap answer_of c.in_ok-sized.was) c.in_err-size.ensures.answered tt)

pub returns-in_err-read_then_check : goal.returns-in_err-read_then_check
returns-in_err-read_then_check c =
    let p = err_from_is_err_and c.from_residual-in_err-read_then_check.result c.from_residual-in_err-read_then_check.ensures.1 in
    let size = c.in_ok-size.ensures.ok in
    let all = convert_left _ _ c.args.corridor.now c.args.demands.now c.args.recorded.now c.args.plan.now _
    (c.sized.ensures ∙ ap sized c.room_fits.ensures)
    (ap answer_of c.in_ok-sized.was) _ _ size.0 size.1 _ c.in_err-read_then_check.ensures tt in
    rw (p.1, p.2) (record { answered = all.0; written = all.1 })

pub invariant_of-write_plan : goal.invariant_of-write_plan
invariant_of-write_plan c =
    record {
      fit =
          (accepts _ _ c.args.corridor.now c.args.demands.now c.args.recorded.now _ c.in_ok-size.size.told c.read_then_check.ensures
          (ap answer_of c.in_ok-read_then_check.was)).0;
    }

pub write_plan-requires-clause-accepts : goal.write_plan-requires-clause-accepts
write_plan-requires-clause-accepts c =
    (accepts _ _ c.args.corridor.now c.args.demands.now c.args.recorded.now _ c.in_ok-size.size.told c.read_then_check.ensures
    (ap answer_of c.in_ok-read_then_check.was)).1

pub returns : goal.returns
returns c =
    let size = c.in_ok-size.ensures.ok in
    let done = ap answer_of c.in_ok-read_then_check.was in
    let all = convert_right _ _ c.args.corridor.now c.args.demands.now c.args.recorded.now c.args.plan.now _
    (c.sized.ensures ∙ ap sized c.room_fits.ensures)
    (ap answer_of c.in_ok-sized.was) _ _ size.0 size.1 _ c.read_then_check.ensures done _ c.write_plan.ensures in
    record { answered = sym done ∙ all.0; written = all.1 }
