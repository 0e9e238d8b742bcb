-- A try of request 02 on numbers: what the tries of one node and step share is worked out once.
use Rattle.std.specs.Prelude.{ℕ, ◌+◌, ◌≤◌, ◌<◌, min, Bool, ◌&&◌, ◌⊎◌, leb}
use Rattle.road.specs.Step.{passed}

-- whether a rate is high enough, told D, T(D), S, min(l, C), f and r
unfoldable pub tested : ℕ → ℕ → ℕ → ℕ → ℕ → ℕ → ℕ → Bool
tested sent beside supply most main ramp rate =
    leb (passed sent (beside + min most rate) supply) main && leb ramp (passed (min most rate) (beside + min most rate) supply)

-- what the test of the ramp flow by products asks of an offer d beside T(D): it is at least r, or not all fits S
abbrev pub Offered : ℕ → ℕ → ℕ → ℕ → Type 0
Offered beside supply ramp offered = (ramp ≤ offered) ⊎ (supply < beside + offered)
