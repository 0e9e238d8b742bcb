-- The corridor decides, then the demands.
use Prim.Native.Nat.{ℕ}
use mathlib.Core.List.{List}
use mathlib.Core.Path.{sym, ap, ◌∙◌}
use Rattle.std.proofs.lemmas.Result.{err_from_is_err_and}
use Rattle.tables.specs.Answer.{answer_of}
use Rattle.list_scans.specs.Scans.{demands_refusal}
use Rattle.list_scans.proofs.Scans.{ranges_stop, ranges_next, demands_bare}
use Rattle.file_rows.specs.Words.{demands_in}
use Rattle.file_scans.proofs.inner.ranges.Goals as goal

pub returns-in_err-scan_corridor : goal.returns-in_err-scan_corridor
returns-in_err-scan_corridor c =
    let p = err_from_is_err_and c.from_residual.result c.from_residual.ensures.1 in
    let demands = c.args.demands in
    rw (p.1, p.2)
    (ranges_stop c.args.corridor.words.now (demands_in demands.links demands.steps demands.bytes.now) _ _ c.args.corridor.fits.first
    (ap answer_of (sym c.in_err-scan_corridor.was) ∙ c.scan_corridor.ensures) tt)

pub returns : goal.returns
returns c =
    let demands = c.args.demands in
    let words : List ℕ = demands_in demands.links demands.steps demands.bytes.now in
    ranges_next _ _ _ _ _ _ c.args.corridor.fits.first c.requires.demands_fit.first c.scan_corridor.ensures (ap answer_of c.in_ok-scan_corridor.was)
    (c.scan_demands.ensures
    ∙ demands_bare c.args.corridor.words.now words demands.links demands.steps
    ∙ ap (λ (links : ℕ). demands_refusal c.args.corridor.words.now links demands.steps words) c.requires.same_links)
