-- By the two numbers that are compared.
use mathlib.Core.Path.{ap, ap₂, ◌∙◌}
use lib.Dec.{eqb}
use Rattle.block.specs.Kinds.{kind_number}
use Rattle.block.proofs.inner.kinds.says_later.Goals as goal

pub returns : goal.returns
returns c = ap₂ eqb c.kind_word.ensures (c.number_of.ensures ∙ ap kind_number c.later.ensures)
