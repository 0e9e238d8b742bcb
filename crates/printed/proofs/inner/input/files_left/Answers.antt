-- The length decides, then the files, each lent as its part of the input.
use mathlib.Core.Path.{refl, ◌∙◌}
use Rattle.std.proofs.lemmas.Result.{err_from_is_err_and}
use Rattle.tables.proofs.Answers.{or_else_stop, or_else_next}
use Rattle.files.specs.Files.{read_then_check}
use Rattle.printed.proofs.Input.{end_tested, corridor_lent, demands_lent, record_lent}
use Rattle.printed.proofs.inner.input.files_left.Goals as goal

pub returns-in_err-enough : goal.returns-in_err-enough
returns-in_err-enough c =
    let p = err_from_is_err_and c.from_residual.result c.from_residual.ensures.1 in
    rw (p.1, p.2)
    (or_else_stop _ _ _
    (c.in_err-enough.ensures
    ∙ end_tested _ _ _ _ c.requires.size_value.0 c.requires.size_value.1 c.requires.block_value.0 _ c.layout_of-at.ensures.laid _ c.kind_at-kind.ensures
    _ c.blocks_of.ensures.0) tt)

pub returns : goal.returns
returns c =
    let links = c.requires.size_value.0 in
    let steps = c.requires.size_value.1 in
    let starts = c.requires.block_value.0 in
    let laid = c.layout_of-at.ensures.laid in
    let corridor = c.files.ensures.corridor ∙ corridor_lent _ _ _ _ links steps starts _ laid in
    let demands = c.files.ensures.demands ∙ demands_lent _ _ _ _ links steps starts _ laid in
    let recorded = c.files.ensures.recorded ∙ record_lent _ _ _ _ links steps starts _ laid in
    or_else_next _ _ _ _
    (c.in_ok-enough.ensures ∙ end_tested _ _ _ _ links steps starts _ laid _ c.kind_at-kind.ensures _ c.blocks_of.ensures.0) refl
    (c.read_then_check.ensures ∙ (λ z. read_then_check (links z) (steps z) (corridor z) (demands z) (recorded z)))
