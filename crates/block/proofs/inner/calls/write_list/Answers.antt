-- An accepted list has a file of its length.
use mathlib.Core.Path.{refl}
use Rattle.block.proofs.Calls.{write_left, write_room, write_words, write_file}
use Rattle.block.proofs.inner.calls.write_list.Goals as goal

pub returns-in_err-write_answer-clause-lent : goal.returns-in_err-write_answer-clause-lent
returns-in_err-write_answer-clause-lent c = write_left _ _ _ _ _ _ c.in_err-write_answer.ensures tt

pub write-requires : goal.write-requires
write-requires c = (write_room _ _ _ _ _ _ c.in_ok-write_answer.ensures refl, write_words _ _ _ _ _ _ c.in_ok-write_answer.ensures refl)

pub returns-clause-lent : goal.returns-clause-lent
returns-clause-lent c = write_file _ _ _ _ _ _ c.in_ok-write_answer.ensures refl _ c.number_of.ensures _ c.write.ensures
