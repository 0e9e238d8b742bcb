-- No step before k has a fault, and the cost of the states after them is at hand.
use Rattle.convert.proofs.Answers.{Scanning}
use Rattle.file_rows.specs.Words.{demands_in, record_in}
use Rattle.file_scans.proofs.inner.proposal.FileProposal.scan_steps.Given as goal

abbrev pub invariant-loop-k : goal.invariant-loop-k
invariant-loop-k l =
    Scanning l.self.record.width l.k l.self.corridor.words.now (demands_in l.self.corridor.links l.self.demands.steps l.self.demands.bytes.now)
    (record_in l.self.record.width l.self.corridor.links l.self.demands.steps l.self.record.bytes.now) l.self.corridor.links l.self.demands.steps
    l.total
