-- No step before k has a fault, and the cost of the states after them is at hand.
use Rattle.convert.proofs.Answers.{Scanning}
use Rattle.convert.proofs.inner.proposal.Proposal.scan_steps.Given as goal

abbrev pub invariant-loop-k : goal.invariant-loop-k
invariant-loop-k l =
    Scanning l.self.record.width l.k l.self.corridor.words.now l.self.demands.words.now l.self.record.words.now l.self.corridor.links
    l.self.demands.steps l.total
