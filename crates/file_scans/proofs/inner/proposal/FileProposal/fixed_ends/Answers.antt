-- Node 0, and then node N.
use mathlib.Core.Path.{refl, sym, ap, ◌∙◌}
use native.Mathlib.Omega.{arith}
use Rattle.std.proofs.lemmas.Result.{err_from_is_err_and}
use Rattle.tables.specs.Answer.{answer_of}
use Rattle.convert_rows.proofs.Ends.{ends_stop, ends_ended}
use Rattle.file_scans.proofs.Rows.{fixed_found}
use Rattle.file_scans.proofs.inner.proposal.FileProposal.fixed_ends.Goals as goal

pub returns-in_err-fixed_node : goal.returns-in_err-fixed_node
returns-in_err-fixed_node c =
    let p = err_from_is_err_and c.from_residual.result c.from_residual.ensures.1 in
    rw (p.1, p.2)
    (fixed_found _ c.args.self.record.wide _ _ _ _ _ refl (omega (arith, c.requires)) _ _
    (ends_stop _ _ _ _ _ _ c.requires.0 c.requires.1 _ (ap answer_of (sym c.in_err-fixed_node.was) ∙ c.fixed_node.ensures) tt))

pub returns : goal.returns
returns c =
    fixed_found _ c.args.self.record.wide _ _ _ _ _ refl (omega (arith, c.requires)) _ _
    (ends_ended _ _ _ _ _ _ c.requires.0 c.requires.1 _ c.fixed_node.ensures _ (ap answer_of c.in_ok-fixed_node.was) c.fixed_node-2.ensures)
