-- The first refusal: by one index, by the nodes of a row, by row and then node.
use Rattle.std.specs.Prelude.{ℕ, zero, suc}
use Rattle.tables.specs.Answer.{Answer}
use Rattle.tables.specs.Answer.{Accepted}
use Rattle.tables.specs.Answer.{or_else, refusal}

-- the first of answer 0, .. answer (n - 1) that refuses, and Accepted where none does
unfoldable pub first : ℕ → (ℕ → Answer) → Answer
first zero answer = Accepted
first (suc n) answer = or_else (first n answer) (answer n)

-- the first fault among the n nodes of a row
abbrev pub first_node : ℕ → ℕ → (ℕ → ℕ) → Answer
first_node n row fault = first n (λ i. refusal (fault i) row i)

-- the first fault by row, then node
abbrev pub first_place : ℕ → ℕ → (ℕ → ℕ → ℕ) → Answer
first_place rows n fault = first rows (λ k. first_node n k (fault k))
