-- Kind 5 has the word after its rows, and kind 2 has none.
use native.Mathlib.Omega.{arith}
use Rattle.file_rows.proofs.Demands.{downstream_ends, downstream_read, downstream_none}
use Rattle.file_rows.proofs.inner.demands.FileDemands.downstream.Goals as goal

pub word_of-requires : goal.word_of-requires
word_of-requires c =
    let s = c.args.self in
    omega
    (arith, downstream_ends _ _ c.args.k _ _ c.says_later.ensures c.if-says_later.true _ c.table_length-rows.ensures, c.requires, s.holds)

pub returns-then-says_later : goal.returns-then-says_later
returns-then-says_later c = search downstream_read

pub returns : goal.returns
returns c = search downstream_none
