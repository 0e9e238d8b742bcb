-- An accepted input keeps what the reading of N and K asks, and its files are lent as parts of it.
use mathlib.Core.Path.{sym, ◌∙◌, subst₂}
use native.Mathlib.Omega.{arith}
use Rattle.block.specs.Kinds.{Told}
use Rattle.files.specs.Fits.{FilesFit}
use Rattle.printed.specs.Input.{links_in}
use Rattle.printed.proofs.Input.{input_kept, start, steps_are, in_order, corridor_lent, demands_lent, record_lent}
use Rattle.printed.proofs.inner.input.files_in.Goals as goal

pub word_at-links-requires : goal.word_at-links-requires
word_at-links-requires c = (input_kept _ c.requires).some

pub corridor_blocks-block-requires : goal.corridor_blocks-block-requires
unfolding links_in
corridor_blocks-block-requires c = omega (arith, c.word_at-links.ensures, (input_kept _ c.requires).told.links_high)

pub word_at-steps-requires : goal.word_at-steps-requires
unfolding links_in
word_at-steps-requires c =
    omega (arith, (input_kept _ c.requires).holds, start _ _ c.word_at-links.ensures _ c.corridor_blocks-block.ensures.0)

pub invariant_of-size : goal.invariant_of-size
unfolding links_in
invariant_of-size c =
    record {
      told =
          subst₂ Told (sym c.word_at-links.ensures)
          (sym (steps_are _ _ c.word_at-links.ensures _ c.corridor_blocks-block.ensures.0 _ c.word_at-steps.ensures))
          (input_kept _ c.requires).told;
    }

pub files-files-requires : goal.files-files-requires
unfolding links_in
files-files-requires c =
    let links = c.word_at-links.ensures in
    let starts = start _ _ links _ c.corridor_blocks-block.ensures.0 in
    let steps = steps_are _ _ links _ c.corridor_blocks-block.ensures.0 _ c.word_at-steps.ensures in
    (c.layout_of.ensures.bounds.0, in_order _ _ _ _ links steps starts _ c.layout_of.ensures.laid (sym (input_kept _ c.requires).whole))

pub invariant_of-result : goal.invariant_of-result
unfolding links_in
invariant_of-result c =
    let links = c.word_at-links.ensures in
    let starts = start _ _ links _ c.corridor_blocks-block.ensures.0 in
    let steps = steps_are _ _ links _ c.corridor_blocks-block.ensures.0 _ c.word_at-steps.ensures in
    let laid = c.layout_of.ensures.laid in
    let corridor = c.files-files.ensures.corridor ∙ corridor_lent _ _ _ _ links steps starts _ laid in
    let demands = c.files-files.ensures.demands ∙ demands_lent _ _ _ _ links steps starts _ laid in
    let recorded = c.files-files.ensures.recorded ∙ record_lent _ _ _ _ links steps starts _ laid in
    record { fit = coe 1 0 (z. FilesFit (links z) (steps z) (corridor z) (demands z) (recorded z)) (input_kept _ c.requires).fit }

pub returns-clause-size : goal.returns-clause-size
unfolding links_in
returns-clause-size c = (c.word_at-links.ensures, steps_are _ _ c.word_at-links.ensures _ c.corridor_blocks-block.ensures.0 _ c.word_at-steps.ensures)

pub returns-clause-corridor : goal.returns-clause-corridor
unfolding links_in
returns-clause-corridor c =
    let links = c.word_at-links.ensures in
    let starts = start _ _ links _ c.corridor_blocks-block.ensures.0 in
    let steps = steps_are _ _ links _ c.corridor_blocks-block.ensures.0 _ c.word_at-steps.ensures in
    c.files-files.ensures.corridor ∙ corridor_lent _ _ _ _ links steps starts _ c.layout_of.ensures.laid

pub returns-clause-demands : goal.returns-clause-demands
unfolding links_in
returns-clause-demands c =
    let links = c.word_at-links.ensures in
    let starts = start _ _ links _ c.corridor_blocks-block.ensures.0 in
    let steps = steps_are _ _ links _ c.corridor_blocks-block.ensures.0 _ c.word_at-steps.ensures in
    c.files-files.ensures.demands ∙ demands_lent _ _ _ _ links steps starts _ c.layout_of.ensures.laid

pub returns-clause-recorded : goal.returns-clause-recorded
unfolding links_in
returns-clause-recorded c =
    let links = c.word_at-links.ensures in
    let starts = start _ _ links _ c.corridor_blocks-block.ensures.0 in
    let steps = steps_are _ _ links _ c.corridor_blocks-block.ensures.0 _ c.word_at-steps.ensures in
    c.files-files.ensures.recorded ∙ record_lent _ _ _ _ links steps starts _ c.layout_of.ensures.laid
