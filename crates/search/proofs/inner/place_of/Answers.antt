-- The rows of the step are those of the lists.
use native.Mathlib.Omega.{arith}
use Rattle.lists.proofs.Rows.{node_in_lem}
use Rattle.convert_rows.proofs.Steps.{jam_of}
use Rattle.search.proofs.Places.{place_rows, place_told, place_same}
use Rattle.search.proofs.inner.place_of.Goals as goal

pub junction-requires-clause-row_fits : goal.junction-requires-clause-row_fits
junction-requires-clause-row_fits c =
    let own = c.proposed-proposal.result in
    let is = c.proposed-proposal.ensures in
    let rows = place_rows _ _ _ _ _ _ own.ready (rw (is.told.2, is.lent.0, is.lent.1, is.lent.2) c.requires.accepted) _ _ _ _ _ _ own.same.0 own.same.1
    c.row-row.ensures.width (omega (arith, is.told.1, c.requires.step_bound.0)) c.step.ensures.row c.row-row.ensures.row in
    (rows.row_fits, jam_of _ _ _ _ _ rows)

pub flows-requires : goal.flows-requires
flows-requires c =
    let own = c.proposed-proposal.result in
    let is = c.proposed-proposal.ensures in
    let rows = place_rows _ _ _ _ _ _ own.ready (rw (is.told.2, is.lent.0, is.lent.1, is.lent.2) c.requires.accepted) _ _ _ _ _ _ own.same.0 own.same.1
    c.row-row.ensures.width (omega (arith, is.told.1, c.requires.step_bound.0)) c.step.ensures.row c.row-row.ensures.row in
    node_in_lem _ own.corridor.links c.args.node _ rows.row_fits (omega (arith, is.told.0, c.requires.step_bound.1))

pub returns : goal.returns
returns c =
    let own = c.proposed-proposal.result in
    let is = c.proposed-proposal.ensures in
    place_same _ _ _ _ _ _ _ _ _ _ _ is.told.2 is.lent.0 is.lent.1 is.lent.2
    (place_told _ _ _ _ _ _ own.ready (rw (is.told.2, is.lent.0, is.lent.1, is.lent.2) c.requires.accepted) _ _ _ _ _ _ own.same.0 own.same.1
    c.row-row.ensures.width (omega (arith, is.told.1, c.requires.step_bound.0)) c.step.ensures.row c.row-row.ensures.row _ _ c.step.ensures.downstream
    (omega (arith, is.told.0, c.requires.step_bound.1)) _ _ c.junction.ensures c.flows.ensures)
