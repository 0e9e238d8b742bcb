-- The words of all states come first, then the two of the cost.
use Rattle.simulate.proofs.Runs.{record_is_written}
use Rattle.simulate.proofs.inner.run.write_record.Goals as goal

pub returns : goal.returns
returns c =
    record_is_written _ _ c.args.output.now _ _ _ c.links_of-links.ensures c.steps_of-steps.ensures c.record_width.ensures.0
    c.requires.output_len _ _ _ c.run_all-total.ensures
