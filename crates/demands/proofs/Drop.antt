-- The laws of the drop.
use Prim.Native.Nat.{ℕ, ◌*◌, ◌/◌, min}
use mathlib.Core.Bool.{Bool, true, false, cond}
use mathlib.Core.Path.{◌≡◌, refl, ap}
use lib.Dec.{leb}
use Rattle.road.specs.Corridor.{Link}
use Rattle.road.specs.Step.{discharge, sending, receiving}
use Rattle.road.proofs.Rules.{discharge_above, sending_within, sending_rises}
use Rattle.demands.specs.Drop.{with_drop, DropLaws}

no_drop : (link : Link) (density vehicles : ℕ) → discharge (with_drop link.capacity density link) vehicles ≡ link.capacity
unfolding discharge
no_drop link density vehicles = by (leb vehicles density)
  where
    by : (t : Bool) → cond t link.capacity link.capacity ≡ link.capacity
    by true = refl
    by false = refl

pub drop_laws : DropLaws
unfolding sending receiving
drop_laws =
    record {
      rises = sending_rises;
      within = sending_within;
      above = λ link vehicles limit h. ap (min (vehicles * limit / 65536)) (discharge_above link vehicles h);
      without = λ link density vehicles limit. ap (min (vehicles * limit / 65536)) (no_drop link density vehicles);
      receives = λ link capacity density vehicles. refl;
    }
