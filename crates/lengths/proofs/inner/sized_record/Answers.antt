-- The test of all sizes gives the words that N, K and the kind tell.
use Rattle.lengths.proofs.Sizes.{corridor_fits_lem, steps_few, width_told, record_as}
use Rattle.lengths.proofs.inner.sized_record.Goals as goal

pub record_width-requires : goal.record_width-requires
record_width-requires c =
    ((corridor_fits_lem _ _ _ c.requires.sized c.links_of-links.ensures).few, steps_few _ _ _ c.requires.sized c.steps_of-steps.ensures)

pub invariant_of-result : goal.invariant_of-result
invariant_of-result c = record {
  fits =
      record {
        few = (corridor_fits_lem _ _ _ c.requires.sized c.links_of-links.ensures).few;
        short = steps_few _ _ _ c.requires.sized c.steps_of-steps.ensures;
        wide = c.record_width.ensures.1;
        sized = record_as _ _ _ _ _ _ _ (width_told _ _ _ _ _ _ c.links_of-links.ensures c.steps_of-steps.ensures c.record_width.ensures.0) c.links_of-links.ensures c.steps_of-steps.ensures c.requires.words_len;
      };
}
