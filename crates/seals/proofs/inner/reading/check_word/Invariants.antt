-- The four lanes of the first q * 4 words.
use Rattle.payload.specs.File.{word_in}
use Rattle.seals.proofs.Lanes.{Lanes}
use Rattle.seals.proofs.inner.reading.check_word.Given as goal

abbrev pub invariant-loop-q : goal.invariant-loop-q
invariant-loop-q l = Lanes l.q (word_in l.file l.t) l.a.sum l.a.twice l.b.sum l.b.twice l.c.sum l.c.twice l.d.sum l.d.twice
