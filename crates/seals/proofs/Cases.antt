-- The worked cases hold by computation.
use mathlib.Core.Path.{refl}
use Rattle.tables.specs.Sum.{sum}
use Rattle.payload.specs.Block.{check_word, body_word}
use Rattle.seals.specs.Cases.{Cases}

pub cases : Cases
unfolding sum check_word body_word
cases = record { case_10 = refl }
