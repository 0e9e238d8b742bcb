-- What refuses, or the search at that place.
use mathlib.Core.Path.{ap, ◌∙◌}
use Rattle.tables.specs.Answer.{answer_of}
use Rattle.tables.proofs.Answers.{left_refused, left_accepted}
use Rattle.faults.proofs.Tests.{eq_holds}
use Rattle.search.specs.Search.{search_left}
use Rattle.search.proofs.Places.{place_asks}
use Rattle.search.proofs.Words.{search_told}
use Rattle.search.proofs.search.Goals as goal

pub returns-in_err-place_answer-clause-written : goal.returns-in_err-place_answer-clause-written
unfolding search_left
returns-in_err-place_answer-clause-written c = left_refused _ _ _ _ c.in_err-place_answer.ensures tt

pub place_of-place-requires : goal.place_of-place-requires
place_of-place-requires c =
    let asked = (place_asks _ _ _ _ _ _ _ c.place_answer.ensures (ap answer_of c.in_ok-place_answer.was)).0 in
    record { ready = asked.ready; accepted = asked.accepted; step_bound = (asked.early, asked.here) }

pub put_search-requires : goal.put_search-requires
put_search-requires c = (eq_holds _ 3).0 (place_asks _ _ _ _ _ _ _ c.place_answer.ensures (ap answer_of c.in_ok-place_answer.was)).1

pub returns-clause-written : goal.returns-clause-written
unfolding search_left
returns-clause-written c =
    let here = c.place_of-place in
    left_accepted _ _ _ _ _ c.place_answer.ensures (ap answer_of c.in_ok-place_answer.was)
    (c.put_search.ensures ∙ search_told _ _ _ _ _ here.result _ here.ensures c.search.ensures)
