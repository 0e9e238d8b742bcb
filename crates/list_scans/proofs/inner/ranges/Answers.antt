-- The first scan that refuses decides.
use mathlib.Core.List.{List, []}
use mathlib.Core.Path.{sym, ap, ◌∙◌}
use Prim.Native.Nat.{ℕ}
use Rattle.std.proofs.lemmas.Result.{err_from_is_err_and}
use Rattle.tables.specs.Answer.{answer_of}
use Rattle.list_scans.specs.Scans.{corridor_refusal, demands_refusal}
use Rattle.list_scans.proofs.Scans.{ranges_stop, ranges_next, demands_bare}
use Rattle.list_scans.proofs.inner.ranges.Goals as goal

pub returns-in_err-scan_corridor : goal.returns-in_err-scan_corridor
returns-in_err-scan_corridor c =
    let p = err_from_is_err_and c.from_residual.result c.from_residual.ensures.1 in
    let e = c.scan_corridor.ensures ∙ ap (λ (corridor : List ℕ). corridor_refusal corridor c.sized_corridor.result.links) c.sized_corridor.ensures.0 in
    rw (p.1, p.2)
    (ranges_stop c.args.corridor.now c.args.demands.now _ _ c.sized_corridor.ensures.1 (ap answer_of (sym c.in_err-scan_corridor.was) ∙ e) tt)

pub returns : goal.returns
returns c =
    let e = c.scan_corridor.ensures ∙ ap (λ (corridor : List ℕ). corridor_refusal corridor c.sized_corridor.result.links) c.sized_corridor.ensures.0 in
    let d = c.scan_demands.ensures
    ∙ ap (λ (demands : List ℕ). demands_refusal [] c.sized_demands.result.links c.sized_demands.result.steps demands) c.sized_demands.ensures.0
    ∙ demands_bare c.args.corridor.now c.args.demands.now c.sized_demands.result.links c.sized_demands.result.steps
    ∙ ap (λ (links : ℕ). demands_refusal c.args.corridor.now links c.sized_demands.result.steps c.args.demands.now)
    (c.sized_demands.ensures.1 ∙ sym c.sized_corridor.ensures.1) in
    ranges_next _ _ _ _ _ _ c.sized_corridor.ensures.1 c.sized_demands.ensures.2 e (ap answer_of c.in_ok-scan_corridor.was) d
