-- The search by halving of request 02, over any test of a rate.
use Rattle.std.specs.Prelude.{Bool, cond, ℕ, zero, suc, ◌+◌, ◌-◌, ◌/◌, ◌^◌, ltb, leb}
use Rattle.tables.specs.declared.Halved.{Halved}
use Rattle.tables.specs.Least.{least}

-- "at last it tries the one left"
abbrev pub last : ℕ → Halved
last rate = record { rate = rate; tries = 1 }

-- one try before the others
abbrev pub tried : Halved → Halved
tried rest = record { rate = rest.rate; tries = suc rest.tries }

-- "the middle, rounded down"
abbrev pub middle : ℕ → ℕ → ℕ
middle low high = (low + high) / 2

-- of the rates left, low to high, the lowest and the highest that are kept: those up to the middle, or those above it
abbrev pub lowest : Bool → ℕ → ℕ → ℕ
lowest up_to low high = cond up_to low (suc (middle low high))

abbrev pub highest : Bool → ℕ → ℕ → ℕ
highest up_to low high = cond up_to (middle low high) high

-- the rates left are halved no more often than `turns`
unfoldable pub halved_in : ℕ → (ℕ → Bool) → ℕ → ℕ → Halved
halved_in zero enough low high = last low
halved_in (suc turns) enough low high =
    cond (ltb low high) (tried (halved_in turns enough (lowest (enough (middle low high)) low high) (highest (enough (middle low high)) low high))) (last low)

-- each halving takes away a rate
abbrev pub halved : (ℕ → Bool) → ℕ → ℕ → Halved
halved enough low high = halved_in (high - low) enough low high

-- "of the rates left, at first 0 to C, it tries the middle, rounded down, and keeps those up to it where .., else those above"
unfoldable pub halving : (ℕ → Bool) → ℕ → Halved
halving enough top = halved enough 0 top

-- log2 n, rounded up: the smallest e with n ≤ 2 ^ e
unfoldable pub ceil_log : ℕ → ℕ
ceil_log n = least (λ e. leb n (2 ^ e)) n
