-- By what the junction and the flows that are read ensure.
use mathlib.Core.Path.{ap₂, ◌∙◌}
use Rattle.settings.specs.Setting.{setting_for}
use Rattle.convert_rows.specs.Rows.{setting_in}
use Rattle.convert_rows.proofs.Steps.{split_kept, sent_kept}
use Rattle.convert_rows.proofs.inner.plans.setting_at.Goals as goal

pub setting_for-requires : goal.setting_for-requires
setting_for-requires c =
    let rows = c.requires.rows_kept.0 in
    let here = c.requires.i_le_links in
    record {
      split_bound = split_kept _ _ _ _ _ rows _ _ here _ c.junction.ensures;
      vehicles_bound = sent_kept _ _ _ _ _ rows _ _ here _ c.junction.ensures _ c.flows.ensures (c.requires.rows_kept.1 _ here);
    }

pub returns : goal.returns
unfolding setting_in
returns c = c.setting_for.ensures ∙ ap₂ setting_for c.junction.ensures c.flows.ensures
