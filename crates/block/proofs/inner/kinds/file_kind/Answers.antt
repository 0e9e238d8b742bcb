-- By what the file says.
use mathlib.Core.Bool.{Bool, cond}
use mathlib.Core.Path.{ap, ◌∙◌}
use Rattle.block.specs.Kinds.{later, file_kind}
use Rattle.block.proofs.inner.kinds.file_kind.Goals as goal

pub returns : goal.returns
unfolding file_kind
returns c = let k = c.args.kind in
    c.choose.ensures ∙ ap (λ (t : Bool). cond t (later k) k) c.says_later.ensures
