-- What 2 to 5 leave.
use mathlib.Core.Path.{ap}
use Rattle.tables.specs.Answer.{answer_of}
use Rattle.convert.proofs.Answers.{ready}
use Rattle.convert.proofs.inner.scans.contents.Goals as goal

pub proposed-requires : goal.proposed-requires
proposed-requires c =
    ready _ _ c.args.words.now _ c.requires.sizes_fit c.requires.words_len c.ranges-2.ensures (ap answer_of c.in_ok-ranges.was)
