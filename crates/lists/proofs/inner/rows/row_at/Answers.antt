-- Row k ends where the next begins, within the rows.
use native.Mathlib.Nat.{mul-le-mul}
use native.Mathlib.Omega.{arith}
use Rattle.tables.proofs.Numbers.{row_fits_lem}
use Rattle.lists.proofs.inner.rows.row_at.Goals as goal

pub overflow_mul-result : goal.overflow_mul-result
overflow_mul-result c = omega (arith, mul-le-mul c.requires.1 c.requires.2, row_fits_lem c.args.k c.args.rows c.args.width c.requires.0)

pub returns : goal.returns
returns c = omega (arith, mul-le-mul c.requires.1 c.requires.2, row_fits_lem c.args.k c.args.rows c.args.width c.requires.0)
