-- Two tests that are to hold together.
use mathlib.Core.Bool.{Bool, true, false, ◌&&◌}
use mathlib.Core.Logic.{◌↔◌}
use mathlib.Core.Path.{◌≡◌, refl}

pub and_iff : (s t : Bool) → (s && t ≡ true) ↔ ((s ≡ true) × (t ≡ true))
and_iff true t = (λ e. (refl, e), λ h. h.1)
and_iff false t = (λ e. (e, cc), λ h. h.0)
