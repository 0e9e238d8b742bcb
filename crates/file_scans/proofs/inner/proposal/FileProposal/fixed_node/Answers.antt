-- By the node's words.
use Prim.Native.Nat.{ℕ, suc, ◌+◌, ◌*◌}
use mathlib.Core.Path.{ap, ◌∙◌}
use Rattle.tables.proofs.Answers.{refusal_told}
use Rattle.payload.specs.File.{payload_part}
use Rattle.file_scans.proofs.Nodes.{fixed_node_is}
use Rattle.file_scans.proofs.inner.proposal.FileProposal.fixed_node.Goals as goal

pub returns : goal.returns
returns c =
    let self = c.args.self in
    let width : ℕ = self.record.width in
    refusal_told _ _ _ _ _ c.placed.ensures (fixed_node_is _ self.record.wide _ _ _ _ _
    (c.node.ensures
    ∙ ap (λ (links : ℕ). payload_part (c.args.k * (suc links * width) + c.args.i * width) width self.record.bytes.now) self.same.1)
    c.requires.1 _ _ _ _ _ _ _ c.fixed_fault-fault.ensures c.start.ensures c.state.ensures c.flows.ensures c.exit.ensures)
