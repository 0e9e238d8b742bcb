-- The length is a plan's.
use Prim.Native.Nat.{ℕ, ◌*◌}
use mathlib.Core.Path.{ap, ◌∙◌}
use Rattle.payload.specs.File.{blocks_for}
use Rattle.block.specs.Kinds.{list_length}
use Rattle.files.proofs.inner.answers.plan_bytes.Goals as goal

pub returns : goal.returns
unfolding list_length
returns c = ap (λ (x : ℕ). x * 512) (c.blocks_for.ensures ∙ ap (λ (x : ℕ). blocks_for x) c.length_of.ensures.0)
