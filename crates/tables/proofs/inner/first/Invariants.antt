-- None before index i refuses.
use Rattle.std.proofs.Common.{◌≡◌, ℕ, ◌<◌}
use Rattle.tables.specs.Answer.{Answer, Accepted, answer_of}
use Rattle.tables.specs.First.{first}
use Rattle.tables.proofs.inner.first.Given as goal

abbrev pub invariant-loop-i : goal.invariant-loop-i
invariant-loop-i g l = (told : ℕ → Answer) → ((i : ℕ) (r : _) → i < l.n → goal.F-post g l.answer i r → answer_of r ≡ told i) → first l.i told ≡ Accepted
