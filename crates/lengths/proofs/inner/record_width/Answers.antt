-- The test is the definition's.
use native.Mathlib.Omega.{arith}
use Rattle.lengths.proofs.Sizes.{told_seven, told_three}
use Rattle.lengths.proofs.inner.record_width.Goals as goal

pub record_length-requires : goal.record_length-requires
record_length-requires c = (c.requires.0, c.requires.1, record { least = omega arith; most = omega arith })

pub returns-then-count-record_length : goal.returns-then-count-record_length
returns-then-count-record_length c =
    (told_seven _ _ _ _ c.record_length.ensures c.if-count-record_length.true, record { least = omega arith; most = omega arith })

pub returns-else-count-record_length : goal.returns-else-count-record_length
returns-else-count-record_length c =
    (told_three _ _ _ _ c.record_length.ensures c.if-count-record_length.false, record { least = omega arith; most = omega arith })
