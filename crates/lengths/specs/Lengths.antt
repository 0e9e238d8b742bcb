-- Refusal 1 of document 01: N, K or any list's length wrong.
use Rattle.std.specs.Prelude.{ℕ, Bool, ◌&&◌, ◌||◌, List, length, eqb}
use Rattle.faults.specs.Lists.{within}
use Rattle.lists.specs.Words.{links_of, steps_of, corridor_length, demands_length, downstream_length, record_length}

-- the length of a corridor: that of kind 1, or that of kind 10
unfoldable pub corridor_sized : ℕ → ℕ → Bool
corridor_sized links count = eqb count (corridor_length 9 links) || eqb count (corridor_length 11 links)

-- the length of demands: that of kind 2, or that of kind 5
unfoldable pub demands_sized : ℕ → ℕ → ℕ → Bool
demands_sized links steps count = eqb count (demands_length links steps) || eqb count (downstream_length links steps)

-- the length of a record: that of kind 3, or that of kind 7
unfoldable pub record_sized : ℕ → ℕ → ℕ → Bool
record_sized links steps count = eqb count (record_length 4 links steps) || eqb count (record_length 5 links steps)

unfoldable pub sizes : List ℕ → List ℕ → Bool
sizes corridor demands =
    within 1 64 (links_of corridor)
    && (within 1 1440 (steps_of demands)
    && (corridor_sized (links_of corridor) (length corridor)
    && demands_sized (links_of corridor) (steps_of demands) (length demands)))

-- 1, of numbers
unfoldable pub lengths_fit : ℕ → ℕ → ℕ → ℕ → Bool
lengths_fit links steps corridor demands =
    within 1 64 links
    && (within 1 1440 steps && (corridor_sized links corridor && demands_sized links steps demands))
