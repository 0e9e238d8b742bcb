-- A node's setting is either full, or held at a limit.
use Rattle.std.specs.Prelude.{ℕ, ◌*◌, ◌/◌, eqb, Option, Some, None}
use Rattle.tables.specs.Least.{least}
use Rattle.road.specs.declared.Units.{Units}
use Rattle.road.specs.Corridor.{Flows}
use Rattle.road.specs.Step.{Junction}
use Rattle.settings.specs.declared.Setting.{Setting}
use Rattle.settings.specs.declared.Setting.TheVariants.{Full, Held}
use Rattle.settings.specs.Rate.{rate_for}

-- the smallest v with n × v / 65,536 = f; no speed is above 65,536
unfoldable pub held_limit : ℕ → ℕ → ℕ
held_limit vehicles flow = least (λ limit. eqb (vehicles * limit / 65536) flow) 65536

-- full where a rate was found; held otherwise, with rate r
abbrev pub settle : Option Units → ℕ → Flows → Setting
settle (Some rate) vehicles wanted = Full rate
settle None vehicles wanted = Held (record { 0 = wanted.ramp }) (record { 0 = held_limit vehicles wanted.main })

unfoldable pub setting_for : Junction → Flows → Setting
setting_for junction wanted = settle (rate_for junction wanted) junction.state.vehicles wanted

-- a setting's two words in a plan: its rate, and its limit, which is V where it is full
abbrev pub rate_in : Setting → ℕ
rate_in (Full rate) = rate.0
rate_in (Held rate limit) = rate.0

abbrev pub limit_in : ℕ → Setting → ℕ
limit_in full_speed (Full rate) = full_speed
limit_in full_speed (Held rate limit) = limit.0
