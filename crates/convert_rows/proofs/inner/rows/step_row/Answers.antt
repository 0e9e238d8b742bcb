-- Where the quick test holds no refusal is due; else the scan decides.
use Rattle.convert_rows.proofs.Quick.{quick_accepts}
use Rattle.convert_rows.proofs.inner.rows.step_row.Goals as goal

pub returns-in-Some-clause-found : goal.returns-in-Some-clause-found
returns-in-Some-clause-found c =
    quick_accepts _ _ _ _ _ _ _ _ c.requires.row_fits.2 c.requires.rows_kept.corridor_fits.first c.in-Some.ensures.0 _ c.in-Some.ensures.1 c.args.k
