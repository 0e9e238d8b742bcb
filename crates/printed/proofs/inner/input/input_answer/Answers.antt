-- The length decides, then N, then the rest.
use mathlib.Core.Path.{refl, ap, ◌∙◌}
use Prim.Native.Nat.{ℕ}
use Rattle.std.proofs.lemmas.Result.{err_from_is_err_and}
use Rattle.tables.specs.Answer.{sized}
use Rattle.tables.proofs.Answers.{or_else_stop, or_else_next}
use Rattle.faults.specs.Lists.{within}
use Rattle.printed.specs.Input.{links_in, input_answer}
use Rattle.printed.proofs.Input.{links_told}
use Rattle.printed.proofs.inner.input.input_answer.Goals as goal

pub returns-in_err-enough : goal.returns-in_err-enough
unfolding input_answer
returns-in_err-enough c =
    let p = err_from_is_err_and c.from_residual.result c.from_residual.ensures.1 in
    rw (p.1, p.2) (or_else_stop _ _ _ c.in_err-enough.ensures tt)

pub returns-in_err-enough-2 : goal.returns-in_err-enough-2
unfolding input_answer
returns-in_err-enough-2 c =
    let p = err_from_is_err_and c.from_residual-in_err-enough-2.result c.from_residual-in_err-enough-2.ensures.1 in
    rw (p.1, p.2)
    (or_else_next _ _ _ _ c.in_ok-enough.ensures refl
    (or_else_stop _ _ _ c.in_err-enough-2.ensures tt))

pub returns-in_err-told : goal.returns-in_err-told
unfolding input_answer links_in
returns-in_err-told c =
    let p = err_from_is_err_and c.from_residual-in_err-told.result c.from_residual-in_err-told.ensures.1 in
    rw (p.1, p.2)
    (or_else_next _ _ _ _ c.in_ok-enough.ensures refl
    (or_else_next _ _ _ _ c.in_ok-enough-2.ensures refl
    (or_else_stop _ _ _ (c.in_err-told.ensures.answered ∙ links_told _ ∙ ap (λ (n : ℕ). sized (within 1 64 n)) c.word_at-n.ensures) tt)))

pub steps_left-requires-clause-links_value : goal.steps_left-requires-clause-links_value
unfolding links_in
steps_left-requires-clause-links_value c = c.word_at-n.ensures

pub returns : goal.returns
unfolding input_answer links_in
returns c =
    or_else_next _ _ _ _ c.in_ok-enough.ensures refl
    (or_else_next _ _ _ _ c.in_ok-enough-2.ensures refl
    (or_else_next _ _ _ _ (c.in_ok-told.ensures.answered ∙ links_told _ ∙ ap (λ (n : ℕ). sized (within 1 64 n)) c.word_at-n.ensures) refl
    c.steps_left.ensures))
