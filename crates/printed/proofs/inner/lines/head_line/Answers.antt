-- The record is that of the input, and states its cost.
use mathlib.Core.Path.{◌≡◌, ◌∙◌}
use mathlib.Core.List.{[], ◌∷◌, ◌++◌}
use Prim.Native.Nat.{◌+◌}
use Rattle.road.specs.Run.{cost}
use Rattle.printed.specs.Input.{links_in, steps_in, corridor_file, demands_file, record_file}
use Rattle.printed.specs.Fits.{stated_cost}
use Rattle.printed.specs.Text.{spaced, plan_word, input_road, input_trace, head_line}
use Rattle.printed.proofs.Input.{input_kept, cost_stated}
use Rattle.printed.proofs.inner.lines.head_line.Goals as goal

pub returns : goal.returns
unfolding plan_word input_road input_trace head_line
returns c =
    let input = c.args.input.now in
    let kept = input_kept input c.requires in
    let e = c.files_in-read.ensures in
    let total : c.stated_cost.result ≡ cost (input_road input) (input_trace input) =
    c.stated_cost.ensures
    ∙ (λ z. stated_cost (e.size.0 z) (e.size.1 z) (e.recorded z))
    ∙ cost_stated (links_in input) (steps_in input) (corridor_file input) (demands_file input) (record_file input) kept.fit kept.accepted in
    let steps = c.from-steps.ensures ∙ e.size.1 in
    let links = c.from-nodes.ensures ∙ e.size.0 in
    c.numbers_line.ensures ∙ (λ z. plan_word ++ (spaced (steps z) ++ (spaced (links z + 1) ++ (spaced (total z) ++ (10 ∷ [])))))
