-- The sets of laws that a proof hands to `search`.
use borrow.Author.Rules.{rules}
use borrow.Author.Tests.{lt-ltb, le-ltb, le-leb, lt-leb, eq-eqb, ne_eqb}
use Rattle.tables.proofs.Numbers.{width_same}
use Rattle.tables.proofs.Answers.{refuses_is, told_refused, told_accepted, or_else_stop, or_else_next, refusal_told, refusal_none, refusal_some, refusal_same, left_refused, left_accepted}
use Rattle.tables.proofs.First.{passed_begun, passed_next, passed_told, passed_stop, passed_ended, first_agrees}
use Rattle.tables.proofs.Part.{part_length}
use Rattle.tables.proofs.Tabulate.{filled_begun, filled_stored, filled_ended, filled_copied}
use Rattle.tables.proofs.Grid.{cell_same, placed_begun, placed_two, placed_four, placed_ended, rowed_begun, rowed_lent, rowed_words, rowed_ended, rowed_grid}
use Rattle.tables.proofs.Sum.{summed_begun, summed_more, summed_ended}

-- a contract by cases of `ltb`, `leb`, `eqb`: the tests that led to a return
pub ruleset tests = (lt-ltb, le-ltb, le-leb, lt-leb, eq-eqb, ne_eqb)

-- a loop that fills a list
pub ruleset fills = (filled_begun, filled_stored, filled_ended, filled_copied)

-- a loop that looks for the first refusal; `tt` is that a refusal refuses
pub ruleset scans = (tt, passed_begun, passed_next, passed_told, passed_stop, passed_ended, refusal_told, refusal_none, refusal_some, refusal_same, refuses_is, told_refused, told_accepted, first_agrees, part_length)

-- one call, then another
pub ruleset joins = (or_else_stop, or_else_next, told_refused, told_accepted)

-- a loop that adds
pub ruleset sums = (summed_begun, summed_more, summed_ended)

-- a call that refuses and leaves the lent list, or writes it
pub ruleset keeps = (left_refused, left_accepted, told_refused, told_accepted)

-- a loop that stores the words of a node at a time, or lends a row at a time
pub ruleset grids = (placed_begun, placed_two, placed_four, placed_ended, rowed_begun, rowed_lent, rowed_words, rowed_ended, rowed_grid, cell_same, width_same, part_length)

-- all of these, and Rattle's own: what a proof tries at each need
pub ruleset all = (tests, fills, scans, sums, keeps, grids, rules)
