-- The row that is unpacked is that of the record.
use Prim.Native.Nat.{ℕ}
use mathlib.Core.Path.{ap, ◌∙◌}
use Rattle.file_rows.specs.Rows.{state_row_in}
use Rattle.file_scans.proofs.Rows.{fixed_found}
use Rattle.file_scans.proofs.inner.proposal.FileProposal.fixed_whole.Goals as goal

pub returns : goal.returns
returns c =
    let self = c.args.self in
    fixed_found _ self.record.wide _ _ _ _ _
    (c.row.ensures ∙ ap (λ (links : ℕ). state_row_in self.record.width links self.record.bytes.now c.args.k) self.same.1) c.requires _ _
    c.fixed_row.ensures
