-- The first scan that refuses decides.
use mathlib.Core.Path.{sym, ap, ◌∙◌}
use Rattle.std.proofs.Common.{rules}
use Rattle.std.proofs.lemmas.Result.{err_from_is_err_and}
use Rattle.tables.specs.Answer.{answer_of}
use Rattle.tables.proofs.Answers.{or_else_stop, or_else_next}
use Rattle.list_scans.specs.Scans.{Link, Ramp, Start, node_fault, corridor_refusal}
use Rattle.list_scans.proofs.inner.scan_corridor.Goals as goal

pub returns-in_err-scan_nodes : goal.returns-in_err-scan_nodes
unfolding corridor_refusal node_fault
returns-in_err-scan_nodes c =
    let p = err_from_is_err_and c.from_residual.result c.from_residual.ensures.1 in
    let e = c.scan_nodes.ensures (λ i. node_fault Link c.args.corridor.words.now c.args.corridor.links i 0 0 0) (λ i r h p. search rules) in
    rw (p.1, p.2) (or_else_stop _ _ _ (ap answer_of (sym c.in_err-scan_nodes.was) ∙ e) tt)

pub returns-in_err-scan_nodes-2 : goal.returns-in_err-scan_nodes-2
unfolding corridor_refusal node_fault
returns-in_err-scan_nodes-2 c =
    let p = err_from_is_err_and c.from_residual-in_err-scan_nodes-2.result c.from_residual-in_err-scan_nodes-2.ensures.1 in
    let e = c.scan_nodes.ensures (λ i. node_fault Link c.args.corridor.words.now c.args.corridor.links i 0 0 0) (λ i r h p. search rules) in
    let f = c.scan_nodes-2.ensures (λ i. node_fault Ramp c.args.corridor.words.now c.args.corridor.links i 0 0 0) (λ i r h p. search rules) in
    rw (p.1, p.2)
    (or_else_next _ _ _ _ e (ap answer_of c.in_ok-scan_nodes.was) (or_else_stop _ _ _ (ap answer_of (sym c.in_err-scan_nodes-2.was) ∙ f) tt))

pub returns : goal.returns
unfolding corridor_refusal node_fault
returns c =
    let e = c.scan_nodes.ensures (λ i. node_fault Link c.args.corridor.words.now c.args.corridor.links i 0 0 0) (λ i r h p. search rules) in
    let f = c.scan_nodes-2.ensures (λ i. node_fault Ramp c.args.corridor.words.now c.args.corridor.links i 0 0 0) (λ i r h p. search rules) in
    let g = c.scan_nodes-3.ensures (λ i. node_fault Start c.args.corridor.words.now c.args.corridor.links i 0 0 0) (λ i r h p. search rules) in
    or_else_next _ _ _ _ e (ap answer_of c.in_ok-scan_nodes.was) (or_else_next _ _ _ _ f (ap answer_of c.in_ok-scan_nodes-2.was) g)
