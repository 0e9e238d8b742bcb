-- The row of step k is the list's; no word above its bound, no fault.
use mathlib.Core.Path.{refl, sym, ap, ◌∙◌}
use Prim.Native.Nat.{ℕ, suc, ◌+◌, ◌*◌}
use native.Mathlib.Omega.{arith}
use lib.ListN.{length, get_or, get_or-eq_default}
use Rattle.std.proofs.Common.{rules}
use Rattle.lists.specs.Words.{free}
use Rattle.list_scans.specs.Scans.{Plan, ReadsRow}
use Rattle.list_scans.proofs.Clear.{clear_accepts, most_length}
use Rattle.list_scans.proofs.Scans.{row_told, plan_place, plan_lent}
use Rattle.list_scans.proofs.inner.plan_at.Goals as goal

pub row_within-requires : goal.row_within-requires
row_within-requires c =
    plan_lent _ _ _ _ _ _ c.requires.k_lt_steps.0 c.requires.k_lt_steps.2 c.row_at-at.ensures.0 c.nodes-width.ensures.0
    ∙ sym (ap length c.requires.bounds ∙ most_length Plan c.args.corridor.words.now c.args.corridor.links)

pub returns-then-row_within : goal.returns-then-row_within
unfolding ReadsRow
returns-then-row_within c =
    let w = c.nodes-width.ensures.0 in
    let fits = plan_lent _ _ _ _ _ _ c.requires.k_lt_steps.0 c.requires.k_lt_steps.2 c.row_at-at.ensures.0 w in
    row_told Plan c.args.corridor.words.now c.args.words.now _ c.args.steps 0 c.args.k c.row_at-at.result (c.nodes-width.result * 2) 65536 _
    (plan_place _ _ _ _ c.row_at-at.ensures.0 w) (ap (λ (n : ℕ). n * 2) w)
    (sym (get_or-eq_default c.args.words.now free (omega (arith, c.requires.k_lt_steps.2))))
    (clear_accepts Plan _ _ _ _ 65536 _ tt fits c.requires.bounds (record { words = c.row_within.ensures c.if-row_within.true; beyond = omega arith }))

pub returns : goal.returns
returns c =
    let w = c.nodes-width.ensures.0 in
    let past = get_or c.args.words.now (0 + c.args.steps * (suc c.args.corridor.links * 2) + c.args.k) free in
    row_told Plan c.args.corridor.words.now c.args.words.now _ c.args.steps 0 c.args.k c.row_at-at.result (c.nodes-width.result * 2) past _
    (plan_place _ _ _ _ c.row_at-at.ensures.0 w) (ap (λ (n : ℕ). n * 2) w) refl
    (c.scan_nodes.ensures _ (λ i r h p. search rules))
