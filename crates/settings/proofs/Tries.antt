-- Request 02's promises of a search.
use Prim.Native.Nat.{ℕ, ◌+◌}
use mathlib.Core.Bool.{true}
use mathlib.Core.Path.{ap, ◌∙◌}
use native.Mathlib.Omega.{arith}
use Rattle.tables.specs.declared.Halved.{Halved}
use Rattle.tables.specs.Halving.{ceil_log}
use Rattle.tables.proofs.Halving.{tries_few, tries_most, tries_reached, halving_same, halving_some, log_65537}
use Rattle.road.specs.Corridor.{Flows}
use Rattle.road.specs.Step.{Junction}
use Rattle.settings.specs.Rate.{full_flows, reaches, candidate, search}
use Rattle.settings.specs.Tries.{Promised, Reached}
use Rattle.settings.proofs.Rates.{search_found, first_reaches}

pub promised : (junction : Junction) (wanted : Flows) → Promised junction wanted
unfolding search candidate
promised junction wanted =
    record {
      found = search_found junction wanted;
      log = tries_most (reaches junction wanted) junction.ramp.capacity;
      most = λ h. tries_few (reaches junction wanted) junction.ramp.capacity 17 (omega arith);
      fewer = λ h. tries_few (reaches junction wanted) junction.ramp.capacity 16 (omega arith);
      one = λ e. omega (arith, tries_few (reaches junction wanted) junction.ramp.capacity 0 (omega arith), halving_some (reaches junction wanted) junction.ramp.capacity);
    }

pub reached : (junction : Junction) → Reached junction
unfolding search candidate
reached junction =
    let log = ap (λ (x : Halved). x.tries) (halving_same (reaches junction (full_flows junction 0)) (λ c. true) junction.ramp.capacity (λ c h. first_reaches junction c))
    ∙ tries_reached junction.ramp.capacity in
    record { log = log; eighteen = λ e. log ∙ ap (λ (x : ℕ). 1 + ceil_log (x + 1)) e ∙ ap (λ (x : ℕ). 1 + x) log_65537 }
