-- By the length of the later kind.
use Prim.Native.Nat.{ℕ}
use mathlib.Core.Bool.{cond}
use mathlib.Core.Path.{ap, ◌∙◌}
use lib.Dec.{eqb}
use Rattle.block.specs.declared.Kind.{Kind}
use Rattle.block.specs.Kinds.{later, list_length, list_kind}
use Rattle.block.proofs.inner.kinds.list_kind.Goals as goal

pub returns : goal.returns
unfolding list_kind
returns c = let a = c.args in
    c.choose.ensures
    ∙ ap (λ (m : ℕ). cond (eqb a.count m) (later a.kind) a.kind)
    (c.length_of.ensures.0 ∙ ap (λ (x : Kind). list_length x a.size.links a.size.steps) c.later.ensures)
