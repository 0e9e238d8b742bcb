-- The corridor, the demands and the record are those in the files.
use mathlib.Core.Path.{◌≡◌, ◌∙◌}
use Rattle.settings.specs.declared.Setting.{Setting}
use Rattle.lists.specs.Words.{node_at, road_of, trace_of}
use Rattle.convert.specs.Convert.{setting_at}
use Rattle.file_rows.specs.Words.{demands_in, record_in}
use Rattle.printed.specs.Text.{setting_line, files_line}
use Rattle.printed.proofs.inner.lines.files_line.Goals as goal

pub returns : goal.returns
unfolding files_line
returns c =
    let e = c.proposal-proposal.ensures in
    let k = c.args.k in
    let i = c.args.i in
    let setting = c.setting_of-setting.ensures
    ∙ (λ z.
    setting_at (road_of (e.corridor z) (demands_in (e.told.0 z) (e.told.1 z) (e.demands z)))
    (trace_of (e.width z) (road_of (e.corridor z) (demands_in (e.told.0 z) (e.told.1 z) (e.demands z))) (record_in (e.width z) (e.told.0 z) (e.told.1 z) (e.«record» z)))
    k i) in
    c.node_line.ensures ∙ (λ z. setting_line k (node_at (e.corridor z) i).identifier (node_at (e.corridor z) i).link.full_speed (setting z))
