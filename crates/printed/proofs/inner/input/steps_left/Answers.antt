-- The input's end decides, then K, then the rest.
use mathlib.Core.Path.{refl, ap, ◌∙◌}
use Prim.Native.Nat.{ℕ}
use Rattle.std.proofs.lemmas.Result.{err_from_is_err_and}
use Rattle.tables.specs.Answer.{sized}
use Rattle.tables.proofs.Answers.{or_else_stop, or_else_next}
use Rattle.faults.specs.Lists.{within}
use Rattle.printed.proofs.Input.{start, start_tested, steps_are, steps_told}
use Rattle.printed.proofs.inner.input.steps_left.Goals as goal

pub returns-in_err-enough : goal.returns-in_err-enough
returns-in_err-enough c =
    let p = err_from_is_err_and c.from_residual.result c.from_residual.ensures.1 in
    rw (p.1, p.2)
    (or_else_stop _ _ _ (c.in_err-enough.ensures ∙ start_tested _ _ c.requires.links_value _ c.corridor_blocks-block.ensures.0) tt)

pub returns-in_err-size : goal.returns-in_err-size
returns-in_err-size c =
    let p = err_from_is_err_and c.from_residual-in_err-size.result c.from_residual-in_err-size.ensures.1 in
    let k = steps_are _ _ c.requires.links_value _ c.corridor_blocks-block.ensures.0 _ c.word_at-k.ensures in
    rw (p.1, p.2)
    (or_else_next _ _ _ _ (c.in_ok-enough.ensures ∙ start_tested _ _ c.requires.links_value _ c.corridor_blocks-block.ensures.0) refl
    (or_else_stop _ _ _
    (c.in_err-size.ensures.answered ∙ steps_told _ _ c.requires.told.0 c.requires.told.1 ∙ ap (λ (n : ℕ). sized (within 1 1440 n)) k) tt))

pub files_left-requires-clause-block_value : goal.files_left-requires-clause-block_value
files_left-requires-clause-block_value c =
    (start _ _ c.requires.links_value _ c.corridor_blocks-block.ensures.0, c.corridor_blocks-block.ensures.1)

pub files_left-requires-clause-size_value : goal.files_left-requires-clause-size_value
files_left-requires-clause-size_value c =
    let e = c.in_ok-size.ensures.ok in
    (e.0 ∙ c.requires.links_value, e.1 ∙ steps_are _ _ c.requires.links_value _ c.corridor_blocks-block.ensures.0 _ c.word_at-k.ensures)

pub returns : goal.returns
returns c =
    let k = steps_are _ _ c.requires.links_value _ c.corridor_blocks-block.ensures.0 _ c.word_at-k.ensures in
    or_else_next _ _ _ _ (c.in_ok-enough.ensures ∙ start_tested _ _ c.requires.links_value _ c.corridor_blocks-block.ensures.0) refl
    (or_else_next _ _ _ _
    (c.in_ok-size.ensures.answered ∙ steps_told _ _ c.requires.told.0 c.requires.told.1 ∙ ap (λ (n : ℕ). sized (within 1 1440 n)) k) refl
    c.files_left.ensures)
