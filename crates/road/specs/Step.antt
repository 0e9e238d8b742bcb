-- One step of one node: rules 1 to 5 of document 01, rule 1 with the drop of request 07. Quotients round down.
use Rattle.std.specs.Prelude.{ℕ, ◌+◌, ◌-◌, ◌*◌, ◌/◌, min, cond, leb}
use Rattle.road.specs.Corridor.{Link, Ramp, NodeState, Flows}

-- 1. What a link with n vehicles may discharge: F while n is at or below the drop density, and the dropped capacity above it
unfoldable pub discharge : Link → ℕ → ℕ
discharge link vehicles = cond (leb vehicles link.drop_density) link.capacity link.dropped_capacity

-- 1. Sending of a link with n vehicles at posted limit v: D = min(n × v / 65,536, what it may discharge)
unfoldable pub sending : Link → ℕ → ℕ → ℕ
sending link vehicles limit = min (vehicles * limit / 65536) (discharge link vehicles)

-- 2. What leaves a flow x by the off-ramp at split b, x × b / 65,536, and its through part, T(x), the rest
unfoldable pub exit : ℕ → ℕ → ℕ
exit flow split = flow * split / 65536

unfoldable pub through : ℕ → ℕ → ℕ
through flow split = flow - exit flow split

-- 3. Ramp offer with queue l at metering rate c: d = min(l, C, c)
unfoldable pub offer : Ramp → ℕ → ℕ → ℕ
offer ramp queue rate = min queue (min ramp.capacity rate)

-- 4. Receiving of a link with n vehicles: S = min(F, W × (J − n) / 65,536)
unfoldable pub receiving : Link → ℕ → ℕ
receiving link vehicles = min link.capacity (link.wave_speed * (link.jam - vehicles) / 65536)

-- 5. Of a flow x that is part of R in all, what passes into supply S: x where R ≤ S, else x × S / R
unfoldable pub passed : ℕ → ℕ → ℕ → ℕ
passed flow total supply = cond (leb total supply) flow (flow * supply / total)

-- 5. Merge of D sent and d offered: f and r pass of D and d, with R = T(D) + d
unfoldable pub merge : ℕ → ℕ → ℕ → ℕ → Flows
merge sent offered split supply =
    record {
      main = passed sent (through sent split + offered) supply;
      ramp = passed offered (through sent split + offered) supply;
    }

-- what rules 1 to 5 ask of node i at a step: link i and ramp i with their state, the split b, and what may pass on, S
pub record Junction : Type 0 where
  pub link : Link
  pub ramp : Ramp
  pub state : NodeState
  pub split : ℕ
  pub supply : ℕ

-- rules 1 to 5 at metering rate c and posted limit v
unfoldable pub flows_with : Junction → ℕ → ℕ → Flows
flows_with junction rate limit =
    merge
    (sending junction.link junction.state.vehicles limit)
    (offer junction.ramp junction.state.queue rate)
    junction.split
    junction.supply

-- what a node passes into the next link: T(f) + r
unfoldable pub outflow : Flows → ℕ → ℕ
outflow flows split = through flows.main split + flows.ramp

-- 6. A node's next state: n gains what flows in and loses f, l becomes l + Q − r
unfoldable pub moved : NodeState → ℕ → ℕ → Flows → NodeState
moved state inflow arrivals flows =
    record {
      vehicles = state.vehicles + inflow - flows.main;
      queue = state.queue + arrivals - flows.ramp;
    }
