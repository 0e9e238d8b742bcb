-- What the steps before step k leave of state k, where they keep 8 to 12: n ≤ J and l ≤ L.
use Prim.Native.Nat.{ℕ, zero, suc, ◌≤◌, ◌<◌}
use mathlib.Core.Path.{◌≡◌, ap}
use native.Mathlib.Omega.{arith}
use Rattle.road.specs.Corridor.{NodeState, Road, Trace}
use Rattle.road.specs.Run.{junction, next}
use Rattle.road.specs.Limits.{Limits}
use Rattle.road.proofs.Runs.{next_jam}
use Rattle.record_faults.proofs.Records.{Stepped}

module _ (road : Road) (limits : Limits road) (trace : Trace) (start : (i : ℕ) → i ≤ road.links → trace.state 0 i ≡ (road.node i).start) where
  pub jam_kept : (k : ℕ) → k ≤ road.steps
      → ((h i : ℕ) → h < k → i ≤ road.links
      → Stepped (junction road h (trace.state h) i) (trace.flows h i) (next road h (trace.state h) (trace.flows h) i) (trace.state (suc h) i))
      → (i : ℕ) → i ≤ road.links → (trace.state k i).vehicles ≤ (road.node i).link.jam
  unfolding junction
  jam_kept zero hk steps i hi = omega (arith, ap (λ (s : NodeState). s.vehicles) (start i hi), (limits.start i hi).vehicles)
  jam_kept (suc k) hk steps i hi =
      omega (
        arith,
        ap (λ (s : NodeState). s.vehicles) (steps k i (omega arith) hi).moves,
        next_jam road limits k (trace.state k) (trace.flows k) (λ j hj. (steps k j (omega arith) (omega arith)).permitted.fits) i hi
            (jam_kept k (omega arith) (λ h j a b. steps h j (omega arith) b) i hi),
      )

  pub queue_kept : (k : ℕ) → ((h i : ℕ) → h < k → i ≤ road.links → (trace.state (suc h) i).queue ≤ (road.node i).ramp.queue_limit)
      → (i : ℕ) → i ≤ road.links → (trace.state k i).queue ≤ (road.node i).ramp.queue_limit
  queue_kept zero held i hi = omega (arith, ap (λ (s : NodeState). s.queue) (start i hi), (limits.start i hi).queue)
  queue_kept (suc k) held i hi = held k i (omega arith) hi
