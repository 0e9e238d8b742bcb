-- The answer fits one number.
use Rattle.host.proofs.Answers.{numbers}
use Rattle.host.proofs.readers.gigorchid_read_plan.Goals as goal

pub number-requires : goal.number-requires
number-requires c = search numbers
