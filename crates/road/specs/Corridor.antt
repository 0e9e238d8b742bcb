-- The corridor, its demands, a plan for them and what the plan does, as functions of step k and node i: word lists and slices of nodes are
-- both read into these. Link i ends at node i; the ramp of node i feeds link i + 1; node 0 has no link, node N no ramp.
use Rattle.std.specs.Prelude.{ℕ, suc}

pub record Link : Type 0 where
  -- F
  pub capacity : ℕ
  -- V
  pub full_speed : ℕ
  -- W
  pub wave_speed : ℕ
  -- J
  pub jam : ℕ
  -- dropped capacity, the paper's F with a bar
  pub dropped_capacity : ℕ
  -- drop density, the paper's n with cd
  pub drop_density : ℕ

pub record Ramp : Type 0 where
  -- C
  pub capacity : ℕ
  -- L
  pub queue_limit : ℕ

-- the state of a node: the vehicles n of its link, the queue l of its ramp
pub record NodeState : Type 0 where
  pub vehicles : ℕ
  pub queue : ℕ

pub record Node : Type 0 where
  pub identifier : ℕ
  pub link : Link
  pub ramp : Ramp
  pub start : NodeState

-- a corridor with its demands
pub record Road : Type 0 where
  -- N
  pub links : ℕ
  -- K
  pub steps : ℕ
  pub node : ℕ → Node
  -- Q
  pub arrivals : ℕ → ℕ → ℕ
  -- b
  pub split : ℕ → ℕ → ℕ
  -- the flow that may leave link N, by step
  pub downstream : ℕ → ℕ

-- nodes 0..N
abbrev pub nodes : Road → ℕ
nodes road = suc road.links

pub record Plan : Type 0 where
  -- c
  pub rate : ℕ → ℕ → ℕ
  -- v
  pub limit : ℕ → ℕ → ℕ

-- the mainline flow f and the ramp flow r of a node
pub record Flows : Type 0 where
  pub main : ℕ
  pub ramp : ℕ

-- what a record says: states 0..K, and the flows of each step
pub record Trace : Type 0 where
  pub state : ℕ → ℕ → NodeState
  pub flows : ℕ → ℕ → Flows
