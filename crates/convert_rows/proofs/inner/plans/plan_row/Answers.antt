use native.Mathlib.Omega.{arith}
use Rattle.convert_rows.proofs.Settings.{setting_more, settings_ended}
use Rattle.convert_rows.proofs.inner.plans.plan_row.Goals as goal

pub loop-i-preserved : goal.loop-i-preserved
loop-i-preserved c =
    setting_more _ _ _ _ _ _ _ _ _ _ _ c.link.result c.loop-i.invariant (omega (arith, c.nodes-i-end.ensures)) c.setting_at-setting.ensures
    c.link.ensures c.put_setting.ensures

pub returns : goal.returns
returns c = settings_ended _ _ _ _ _ _ _ _ _ c.loop-i.invariant (omega (arith, c.nodes-i-end.ensures))
