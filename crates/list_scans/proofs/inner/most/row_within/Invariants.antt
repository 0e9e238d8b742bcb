-- None of the words so far is above its bound, where that is said.
use Rattle.std.proofs.Common.{◌≡◌, ℕ, ◌<◌, ◌≤◌, true, length, get_or}
use Rattle.list_scans.proofs.inner.most.row_within.Given as goal

abbrev pub invariant-loop-word : goal.invariant-loop-word
invariant-loop-word l = (k : ℕ) → k < length l.yielded → l.within ≡ true → get_or l.row k 0 ≤ get_or l.most k 0
