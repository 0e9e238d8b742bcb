-- The files are those of the input.
use mathlib.Core.Path.{◌∙◌}
use Rattle.files.specs.Fits.{Accepts}
use Rattle.printed.specs.Text.{files_line, plan_line, input_road, input_trace}
use Rattle.lists.specs.Words.{road_of}
use Rattle.printed.proofs.Input.{input_kept}
use Rattle.printed.proofs.inner.lines.plan_line.Goals as goal

pub files_line-requires-clause-accepts : goal.files_line-requires-clause-accepts
files_line-requires-clause-accepts c =
    let e = c.files_in.ensures in
    coe 1 0 (z. Accepts (e.size.0 z) (e.size.1 z) (e.corridor z) (e.demands z) (e.recorded z)) (input_kept _ c.requires.accepted).accepted

pub returns : goal.returns
unfolding plan_line files_line input_road input_trace road_of
returns c =
    let e = c.files_in.ensures in
    c.files_line.ensures ∙ (λ z. files_line (e.size.0 z) (e.size.1 z) (e.corridor z) (e.demands z) (e.recorded z) c.args.k c.args.i)
