-- The bytes from payload word `left` on are filled with zeros.
use mathlib.Core.Path.{refl}
use native.Mathlib.Omega.{arith}
use borrow.Author.Rules.{rules}
use lib.ListN.{length-take, length-drop}
use Rattle.seals.proofs.Blocks.{cleared}
use Rattle.seals.proofs.inner.sealing.clear.Goals as goal

pub returns : goal.returns
returns c =
    cleared _ _ _ _ _ _ _ c.requires (omega (arith, c.min.ensures)) (omega (arith, c.min.ensures)) (c.fill.ensures.after (λ y h. search rules))
    (simp (length-take, length-drop) (omega arith)) refl
