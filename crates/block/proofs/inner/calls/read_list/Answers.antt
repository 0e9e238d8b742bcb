-- An accepted file has the length to unpack.
use mathlib.Core.Path.{refl}
use Rattle.block.proofs.Calls.{read_left, read_room, read_words}
use Rattle.block.proofs.inner.calls.read_list.Goals as goal

pub returns-in_err-read_answer-clause-lent : goal.returns-in_err-read_answer-clause-lent
returns-in_err-read_answer-clause-lent c = read_left _ _ _ _ _ _ c.in_err-read_answer.ensures tt

pub unpack-requires : goal.unpack-requires
unpack-requires c = read_room _ _ _ _ _ _ c.in_ok-read_answer.ensures refl

pub returns-clause-lent : goal.returns-clause-lent
returns-clause-lent c = read_words _ _ _ _ _ _ c.in_ok-read_answer.ensures refl _ c.unpack.ensures
