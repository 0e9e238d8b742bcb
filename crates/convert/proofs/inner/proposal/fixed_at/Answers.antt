-- What is found in row k is found in the record.
use Rattle.convert.proofs.Rows.{fixed_viewed}
use Rattle.convert.proofs.inner.proposal.fixed_at.Goals as goal

pub returns : goal.returns
returns c =
    fixed_viewed _ _ _ _ _ _ _ _ _ _ c.args.recorded.fits.wide c.row.ensures.width c.requires.0 c.row.ensures.row c.fixed_row.ensures
