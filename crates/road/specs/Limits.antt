-- Within limits: the ranges of document 01 and of requests 01 and 07 as facts, those that refusals 1 to 5 leave of a corridor and its demands, and 6 of a plan.
use Rattle.std.specs.Prelude.{ℕ, ◌≤◌, ◌<◌, ◌≡◌}
use Rattle.road.specs.Corridor.{Link, Ramp, Node, Road, Plan}
use Rattle.road.specs.Step.{Junction}

pub record Within (low high x : ℕ) : Type 0 where
  pub above : low ≤ x
  pub below : x ≤ high

-- F 0..65,536; V, W, J 1..65,536; dropped capacity 0..F, drop density 0..J
pub record LinkLimits (link : Link) : Type 0 where
  pub capacity : link.capacity ≤ 65536
  pub full_speed : Within 1 65536 link.full_speed
  pub wave_speed : Within 1 65536 link.wave_speed
  pub jam : Within 1 65536 link.jam
  pub dropped_capacity : link.dropped_capacity ≤ link.capacity
  pub drop_density : link.drop_density ≤ link.jam

-- node 0 has no link
pub record NoLink (link : Link) : Type 0 where
  pub capacity : link.capacity ≡ 0
  pub full_speed : link.full_speed ≡ 0
  pub wave_speed : link.wave_speed ≡ 0
  pub jam : link.jam ≡ 0
  pub dropped_capacity : link.dropped_capacity ≡ 0
  pub drop_density : link.drop_density ≡ 0

-- C 0..65,536; L 0..134,217,728
pub record RampLimits (ramp : Ramp) : Type 0 where
  pub capacity : ramp.capacity ≤ 65536
  pub queue_limit : ramp.queue_limit ≤ 134217728

-- node N has no ramp
pub record NoRamp (ramp : Ramp) : Type 0 where
  pub capacity : ramp.capacity ≡ 0
  pub queue_limit : ramp.queue_limit ≡ 0

-- start n ≤ J and l ≤ L, so both are zero where they are fixed
pub record StartLimits (node : Node) : Type 0 where
  pub vehicles : node.start.vehicles ≤ node.link.jam
  pub queue : node.start.queue ≤ node.ramp.queue_limit

-- identifiers are not zero, and differ
pub record Identified (road : Road) (i : ℕ) : Type 0 where
  pub named : 1 ≤ (road.node i).identifier
  pub distinct : (j : ℕ) → j < i → (road.node j).identifier ≡ (road.node i).identifier → ⊥

-- Q and b 0..65,536; Q of node N and b of nodes 0 and N are zero; the flow that may leave link N, looked at with node N, 0..65,536
pub record DemandLimits (road : Road) (k i : ℕ) : Type 0 where
  pub arrivals : road.arrivals k i ≤ 65536
  pub split : road.split k i ≤ 65536
  pub entry : i ≡ 0 → road.split k i ≡ 0
  pub exit_split : i ≡ road.links → road.split k i ≡ 0
  pub exit_arrivals : i ≡ road.links → road.arrivals k i ≡ 0
  pub downstream : i ≡ road.links → road.downstream k ≤ 65536

-- a corridor and demands within limits
pub record Limits (road : Road) : Type 0 where
  pub links : Within 1 64 road.links
  pub steps : Within 1 1440 road.steps
  pub entry : NoLink (road.node 0).link
  pub link : (i : ℕ) → 1 ≤ i → i ≤ road.links → LinkLimits (road.node i).link
  pub ramp : (i : ℕ) → i ≤ road.links → RampLimits (road.node i).ramp
  pub exit : NoRamp (road.node road.links).ramp
  pub identified : (i : ℕ) → i ≤ road.links → Identified road i
  pub start : (i : ℕ) → i ≤ road.links → StartLimits (road.node i)
  pub demand : (k i : ℕ) → k < road.steps → i ≤ road.links → DemandLimits road k i

-- what these say of a node at a step whose link holds n ≤ J vehicles
pub record JunctionLimits (junction : Junction) : Type 0 where
  pub vehicles : junction.state.vehicles ≤ 65536
  pub full_speed : junction.link.full_speed ≤ 65536
  pub split : junction.split ≤ 65536

-- a plan within bounds: 0 ≤ rate ≤ C and 0 ≤ limit ≤ V
pub record Bounds (road : Road) (plan : Plan) (k i : ℕ) : Type 0 where
  pub rate : plan.rate k i ≤ (road.node i).ramp.capacity
  pub limit : plan.limit k i ≤ (road.node i).link.full_speed

abbrev pub Bounded : Road → Plan → Type 0
Bounded road plan = (k i : ℕ) → k < road.steps → i ≤ road.links → Bounds road plan k i
