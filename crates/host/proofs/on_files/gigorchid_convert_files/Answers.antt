-- The answer fits one number.
use Rattle.host.proofs.Answers.{numbers}
use Rattle.host.proofs.on_files.gigorchid_convert_files.Goals as goal

pub number-requires : goal.number-requires
number-requires c = search numbers
