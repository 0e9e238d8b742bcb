-- The fault of one node by refusals 2 to 6 of document 01: its number, or 0.
use Rattle.std.specs.Prelude.{ℕ, zero, suc, Bool, true, false, ◌&&◌, leb, eqb}
use Rattle.tables.specs.Answer.{unless}
use Rattle.road.specs.Corridor.{Link, Ramp, Node}

abbrev pub within : ℕ → ℕ → ℕ → Bool
within low high x = leb low x && leb x high

abbrev pub implies : Bool → Bool → Bool
implies true b = b
implies false b = true

-- ---- 2. F, V, W, J, dropped capacity or drop density out of range, or not zero at node 0

abbrev pub no_link : Link → Bool
no_link link =
    eqb link.capacity 0
    && (eqb link.full_speed 0
    && (eqb link.wave_speed 0
    && (eqb link.jam 0
    && (eqb link.dropped_capacity 0
    && eqb link.drop_density 0))))

abbrev pub drop_in_range : Link → Bool
drop_in_range link = leb link.dropped_capacity link.capacity && leb link.drop_density link.jam

abbrev pub link_in_range : Link → Bool
link_in_range link =
    leb link.capacity 65536
    && (within 1 65536 link.full_speed
    && (within 1 65536 link.wave_speed
    && (within 1 65536 link.jam
    && drop_in_range link)))

unfoldable pub link_fault : ℕ → Link → ℕ
link_fault zero link = unless (no_link link) 2
link_fault (suc i) link = unless (link_in_range link) 2

-- ---- 3. identifier zero or repeated, C or L out of range, or not zero at node N

unfoldable pub ramp_fault : Bool → ℕ → Ramp → Bool → ℕ
ramp_fault last identifier ramp is_fresh =
    unless
    (leb 1 identifier
    && (is_fresh
    && (leb ramp.capacity 65536
    && (leb ramp.queue_limit 134217728
    && implies last (eqb ramp.capacity 0 && eqb ramp.queue_limit 0)))))
    3

-- ---- 4. start n > J or l > L, or not zero at node 0 / N (J of node 0 and L of node N are zero)

unfoldable pub start_fault : Node → ℕ
start_fault node = unless (leb node.start.vehicles node.link.jam && leb node.start.queue node.ramp.queue_limit) 4

-- ---- 5. Q or b out of range or not zero where fixed; at node N also the flow that may leave link N out of range

unfoldable pub demand_fault : ℕ → ℕ → ℕ → ℕ → ℕ → ℕ
demand_fault links i arrivals split downstream =
    unless
    (leb arrivals 65536
    && (leb split 65536
    && (implies (eqb i 0) (eqb split 0)
    && implies (eqb i links) (eqb split 0 && (eqb arrivals 0 && leb downstream 65536)))))
    5

-- ---- 6. plan out of bounds (V of node 0 and C of node N are zero, so its limit and its rate are)

unfoldable pub plan_fault : Link → Ramp → ℕ → ℕ → ℕ
plan_fault link ramp rate limit = unless (leb rate ramp.capacity && leb limit link.full_speed) 6
