-- Rows as the code lends them: each says what the whole record or the whole demands say of its step, and keeps what the checks before it leave.
use Prim.Native.Nat.{ℕ, suc, ◌+◌, ◌-◌, ◌*◌, ◌≤◌, ◌<◌}
use mathlib.Core.Bool.{Bool, true, false, cond}
use mathlib.Core.List.{List}
use mathlib.Core.Path.{◌≡◌, refl, sym, ap, ap₂, subst, ◌∙◌}
use native.Mathlib.Numerals.{add-one}
use native.Mathlib.Omega.{arith}
use borrow.Author.Tests.{ltb-true}
use lib.Dec.{ltb}
use lib.ListN.{length, get_or, take, drop}
use Rattle.std.specs.Prelude.{Option, Some, None}
use Rattle.tables.specs.Answer.{Answer}
use Rattle.tables.specs.Answer.{Accepted}
use Rattle.tables.specs.Answer.{refusal}
use Rattle.tables.specs.First.{first_node, first_place}
use Rattle.tables.specs.Grid.{place}
use Rattle.tables.proofs.First.{first_same}
use Rattle.tables.proofs.Numbers.{row_fits_lem}
use Rattle.tables.proofs.Part.{part_length, part_at}
use Rattle.road.specs.declared.Units.{Units}
use Rattle.road.specs.Corridor.{NodeState, Road, Flows, Trace, nodes}
use Rattle.road.specs.Run.{junction, next}
use Rattle.road.specs.Limits.{Limits}
use Rattle.road.proofs.Rules.{flows_eq, state_eq, sending_le}
use Rattle.road.proofs.Runs.{link_tops}
use Rattle.road.proofs.Same.{junction_same, next_same}
use Rattle.settings.specs.Setting.{setting_for}
use Rattle.lists.specs.Words.{links_of, steps_of, downstream_word, node_at, road_of, Width, trace_of, exit_said, exits_of}
use Rattle.lists.specs.Rows.{lent, state_in, flows_in, exit_in, step_road}
use Rattle.lists.specs.Fits.{RowFits}
use Rattle.simulate.proofs.Steps.{DemandRow, demand_row_lem, step_junction, step_next}
use Rattle.record_faults.specs.Records.{fixed_fault, step_fault}
use Rattle.convert.specs.Refusals.{fixed_at, step_at, judged}
use Rattle.convert.specs.Convert.{setting_at}
use Rattle.convert_rows.specs.Rows.{bare_road, fixed_fault_in, step_fault_in, setting_in, NodeKept, RowsKept, SentKept}
use Rattle.convert.specs.Rows.{fixed_row_refusal, fixed_refusal, step_refusal, steps_refusal, Ready}
use Rattle.convert.proofs.Facts.{fixed_all, steps_all, judged_iff}
use Rattle.convert.proofs.Kept.{jam_kept, queue_kept}
use Rattle.convert.proofs.Plans.{trace_jam}
use Rattle.convert.proofs.Records.{queues_within}

-- row k of a record, as the code has it
pub record TraceRow (width links : ℕ) (trace : Trace) (said : ℕ → ℕ → Option Units) (k : ℕ) (row : List ℕ) : Type 0 where
  pub state : (i : ℕ) → i ≤ links → state_in width row i ≡ trace.state k i
  pub flows : (i : ℕ) → i ≤ links → flows_in width row i ≡ trace.flows k i
  pub exits : (i : ℕ) → i ≤ links → exit_in width row i ≡ said k i

-- words that agree where the row has them say the same exit
said_same : (width x y : ℕ) → (4 < width → x ≡ y) → exit_said width x ≡ exit_said width y
unfolding exit_said
said_same width x y h = by_width (ltb 4 width) refl
  where
    by_width : (t : Bool) → ltb 4 width ≡ t
        → cond {A = Option Units} t (Some (record { 0 = x })) None ≡ cond {A = Option Units} t (Some (record { 0 = y })) None
    by_width true e = let q : x ≡ y = h (ltb-true 4 width e) in λ z. Some (record { 0 = q z })
    by_width false e = refl

-- `at` is where the row starts, and w how many words it has
pub trace_row_lem : (width : ℕ) (road : Road) (words : List ℕ) (k at w : ℕ) → Width width → at ≡ k * w → w ≡ nodes road * width
    → TraceRow width road.links (trace_of width road words) (exits_of width road words) k (take (at + w - at) (drop at words))
unfolding trace_of state_in flows_in
trace_row_lem width road words k at w wide e q =
    record {
      state = λ i h. state_eq _ _ (word i 0 h (omega (arith, wide.least))) (word i 1 h (omega (arith, wide.least)));
      flows = λ i h. flows_eq _ _ (word i 2 h (omega (arith, wide.least))) (word i 3 h (omega (arith, wide.least)));
      exits = λ i h. said_same width _ _ (λ b. word i 4 h b);
    }
  where
    word : (i j : ℕ) → i ≤ road.links → j < width → get_or (take (at + w - at) (drop at words)) (i * width + j) 0 ≡ get_or words (place width (nodes road) k i j) 0
    word i j h b =
        part_at at w words (i * width + j) 0 (omega (arith, row_fits_lem i (nodes road) width (omega arith)))
        ∙ ap (λ (n : ℕ). get_or words (n + (i * width + j)) 0) e
        ∙ ap (λ (n : ℕ). get_or words (k * n + (i * width + j)) 0) q

-- ---- 7: the row's answer is that of the whole record at state k

pub fixed_told : (width : ℕ) (corridor words : List ℕ) (links steps k : ℕ) (row : List ℕ) (a : Answer)
    → TraceRow width links (trace_of width (bare_road corridor links steps) words) (exits_of width (bare_road corridor links steps) words) k row
    → a ≡ first_node (suc links) k (fixed_fault_in width corridor links steps k row) → a ≡ fixed_row_refusal width corridor links steps words k
fixed_told width corridor words links steps k row a t e =
    e
    ∙ first_same (suc links) _ _
    (λ i l z. refusal (fixed_fault (bare_road corridor links steps) k i (t.state i (omega arith) z) (t.flows i (omega arith) z) (t.exits i (omega arith) z)) k i)

-- a row as the code lends it
pub fixed_row_told : (width : ℕ) (corridor words : List ℕ) (links steps k at w : ℕ) (a : Answer) → Width width
    → a ≡ first_node (suc links) k (fixed_fault_in width corridor links steps k (take (at + w - at) (drop at words))) → at ≡ k * w → w ≡ suc links * width
    → a ≡ fixed_row_refusal width corridor links steps words k
unfolding bare_road
fixed_row_told width corridor words links steps k at w a wide e h q =
    fixed_told width corridor words links steps k _ a (trace_row_lem width (bare_road corridor links steps) words k at w wide h q) e

-- a row as a record's view gives it: l is N and w the width as the view has them
pub fixed_viewed : (width w : ℕ) (corridor words row : List ℕ) (links l steps k : ℕ) (a : Answer) → Width width → w ≡ width → l ≡ links
    → row ≡ lent (k * (suc l * width)) (suc l * width) words → a ≡ first_node (suc links) k (fixed_fault_in w corridor links steps k row)
    → a ≡ fixed_row_refusal width corridor links steps words k
fixed_viewed width w corridor words row links l steps k a wide p n q e =
    fixed_row_told width corridor words links steps k (k * (suc l * width)) (suc l * width) a wide
    (e ∙ (λ z. first_node (suc links) k (fixed_fault_in (p z) corridor links steps k (q z)))) refl (ap (λ (x : ℕ). suc x * width) n)

-- what it asks of a road, the corridor and its demands have
pub fixed_are : (width : ℕ) (corridor demands words : List ℕ) (links steps : ℕ) → links ≡ links_of corridor → steps ≡ steps_of demands
    → fixed_refusal width corridor links steps words
    ≡ first_place (suc (steps_of demands)) (suc (links_of corridor)) (fixed_at (road_of corridor demands) (trace_of width (road_of corridor demands) words) (exits_of width (road_of corridor demands) words))
unfolding fixed_fault bare_road road_of trace_of
fixed_are width corridor demands words links steps n k = ap₂ (λ (l s : ℕ). fixed_refusal width corridor l s words) n k

-- ---- 8 to 12 and the converter: any rows that say what the lists say of step k, where links and steps are N and K as the code has them

module _ (width : ℕ) (corridor demands words : List ℕ) (links steps : ℕ) (ready : Ready width corridor demands words links steps) (k : ℕ) where
  abbrev road : Road
  road = road_of corridor demands

  abbrev trace : Trace
  trace = trace_of width (road_of corridor demands) words

  abbrev said : ℕ → ℕ → Option Units
  said = exits_of width (road_of corridor demands) words

  n : links ≡ links_of corridor
  n = ready.corridor_fits.first

  -- the demands' row comes with the flow that may leave link N, as the lists have it
  module _ (demand row : List ℕ) (d : DemandRow corridor demands k demand) (t : TraceRow width (links_of corridor) (trace_of width (road_of corridor demands) words) (exits_of width (road_of corridor demands) words) k row) (downstream : ℕ) (beyond : downstream ≡ downstream_word demands links steps k) where
    pub row_junction : (i : ℕ) → i ≤ links_of corridor → junction (step_road corridor demand downstream) 0 (state_in width row) i ≡ junction (road_of corridor demands) k ((trace_of width (road_of corridor demands) words).state k) i
    unfolding road_of
    row_junction i h =
        step_junction corridor demands k demand d downstream (beyond ∙ ap₂ (λ (x y : ℕ). downstream_word demands x y k) n ready.demands_fit.first) (state_in width row) i h
        ∙ junction_same road k (state_in width row) (trace.state k) i t.state h

    row_fault : (after : List ℕ) → TraceRow width (links_of corridor) trace said (suc k) after → (i : ℕ) → i ≤ links_of corridor → step_fault_in width corridor demand downstream row after i ≡ step_at road trace said k i
    unfolding step_fault_in road_of
    row_fault after s i h =
        let j : junction (step_road corridor demand downstream) 0 (state_in width row) i ≡ junction road k (trace.state k) i = row_junction i h in
        let m : next (step_road corridor demand downstream) 0 (state_in width row) (flows_in width row) i ≡ next road k (trace.state k) (trace.flows k) i =
        step_next corridor demands k demand d downstream corridor (state_in width row) (flows_in width row) i h
        ∙ next_same road k (state_in width row) (trace.state k) (flows_in width row) (trace.flows k) i t.state t.flows h in
        λ z. step_fault (j z) (t.flows i h z) (t.exits i h z) (m z) (s.state i h z)

    -- the answer on the rows is that of the whole lists at step k
    pub step_told : (after : List ℕ) (a : Answer) → TraceRow width (links_of corridor) (trace_of width (road_of corridor demands) words) (exits_of width (road_of corridor demands) words) (suc k) after
        → a ≡ first_node (suc links) k (step_fault_in width corridor demand downstream row after)
        → a ≡ step_refusal width corridor demands links words k
    step_told after a s told =
        let w : links ≡ links_of corridor = n in
        told ∙ first_same (suc links) _ _ (λ i l. ap (λ (x : ℕ). refusal x k i) (row_fault after s i (omega arith)))

    -- the converter's setting is that of the whole lists
    pub row_setting : (i : ℕ) → i ≤ links_of corridor → setting_in width corridor demand downstream row i ≡ setting_at (road_of corridor demands) (trace_of width (road_of corridor demands) words) k i
    unfolding setting_in setting_at
    row_setting i h = ap₂ setting_for (row_junction i h) (t.flows i h)

    -- the rows keep what is asked, where state k keeps n ≤ J and l ≤ L
    node_kept : k < steps → (i : ℕ) → i ≤ links_of corridor
        → (trace.state k i).vehicles ≤ (node_at corridor i).link.jam → (trace.state k i).queue ≤ (node_at corridor i).ramp.queue_limit → NodeKept width corridor demand row i
    unfolding road_of
    node_kept hk i hi jam queue =
        let limits : Limits road = ready.limits in
        let tops = link_tops road limits i hi in
        let h : k < steps_of demands = omega (arith, ready.demands_fit.first) in
        let vehicles : (state_in width row i).vehicles ≡ (trace.state k i).vehicles = ap (λ (x : NodeState). x.vehicles) (t.state i hi) in
        let waits : (state_in width row i).queue ≡ (trace.state k i).queue = ap (λ (x : NodeState). x.queue) (t.state i hi) in
        record {
          jam = omega arith;
          vehicles = omega (arith, tops.jam);
          queue = omega (arith, (limits.ramp i hi).queue_limit);
          full_speed = tops.full_speed;
          arrivals = omega (arith, d.arrivals i hi, (limits.demand k i h hi).arrivals);
          split = omega (arith, d.split i hi, (limits.demand k i h hi).split);
        }

    -- so do those of a step before which nothing is refused
    pub step_kept : fixed_refusal width corridor links steps words ≡ Accepted → steps_refusal width corridor demands links words k ≡ Accepted → k < steps
        → (j : ℕ) → j ≤ links → NodeKept width corridor demand row j
    unfolding road_of
    step_kept fixed before hk j hj =
        let limits : Limits road = ready.limits in
        let w : links ≡ links_of corridor = n in
        let h : k < steps_of demands = omega (arith, ready.demands_fit.first) in
        let all = (fixed_all road trace said).0 (sym (fixed_are width corridor demands words links steps n ready.demands_fit.first) ∙ fixed) in
        let start : (i : ℕ) → i ≤ links_of corridor → trace.state 0 i ≡ (node_at corridor i).start = λ i hi. (all 0 i (omega arith) hi).0.first refl in
        let earlier = steps_all road trace said k (subst (λ (l : ℕ). steps_refusal width corridor demands l words k ≡ Accepted) n before) in
        node_kept hk j (omega arith)
        (jam_kept road limits trace start k (omega arith) (λ h i a b. (earlier h i a b).0) j (omega arith))
        (queue_kept road limits trace start k (λ h i a b. (earlier h i a b).2) j (omega arith))

    -- and those of a record that is accepted
    module _ (accepted : judged width (road_of corridor demands) words ≡ Accepted) (hk : k < steps) where
      pub plan_kept : (j : ℕ) → j ≤ links → NodeKept width corridor demand row j
      unfolding road_of
      plan_kept j hj =
          let keeps = (judged_iff width road words).0 accepted in
          let w : links ≡ links_of corridor = n in
          let h : k < steps_of demands = omega (arith, ready.demands_fit.first) in
          node_kept hk j (omega arith)
          (trace_jam road ready.limits trace keeps.moves k j (omega arith) (omega arith))
          (queues_within width ready.wide road ready.limits trace keeps.moves keeps.queues k j (omega arith) (omega arith))

      -- no more leaves a link than is on it
      pub plan_sent : (j : ℕ) → j ≤ links → (flows_in width row j).main ≤ (state_in width row j).vehicles
      unfolding road_of junction
      plan_sent j hj =
          let keeps = (judged_iff width road words).0 accepted in
          let w : links ≡ links_of corridor = n in
          let hi : j ≤ links_of corridor = omega arith in
          let h : k < steps_of demands = omega (arith, ready.demands_fit.first) in
          let sent = (keeps.moves.steps k j h hi).permitted.sent in
          let le = sending_le (node_at corridor j).link (trace.state k j).vehicles (node_at corridor j).link.full_speed (link_tops road ready.limits j hi).full_speed in
          omega (arith, ap (λ (x : Flows). x.main) (t.flows j hi), ap (λ (x : NodeState). x.vehicles) (t.state j hi))

  -- ---- these rows as the code lends them: w is how many words a record's row has

  -- r is where row k starts past the demands' first word
  pub demand_lent : (r : ℕ) → r ≡ k * ((links + 1) * 2) → DemandRow corridor demands k (take (1 + r + (links + 1) * 2 - (1 + r)) (drop (1 + r) demands))
  demand_lent r e =
      let w : links ≡ links_of corridor = n in
      demand_row_lem corridor demands k (1 + r) ((links + 1) * 2) (omega arith) (omega arith)

  pub trace_lent : (j at w : ℕ) → at ≡ j * w → w ≡ suc links * width
      → TraceRow width (links_of corridor) (trace_of width (road_of corridor demands) words) (exits_of width (road_of corridor demands) words) j (take (at + w - at) (drop at words))
  unfolding road_of
  trace_lent j at w e q =
      trace_row_lem width (road_of corridor demands) words j at w ready.wide e (q ∙ ap (λ (x : ℕ). suc x * width) n)

  -- ---- these rows as the lists' views give them: l is N as a view has it

  pub demand_viewed : (l : ℕ) (demand : List ℕ) → l ≡ links → k < steps → demand ≡ lent (1 + k * (suc l * 2)) (suc l * 2) demands
      → DemandRow corridor demands k demand × RowFits 2 demand links
  demand_viewed l demand e hk q =
      let p : demand ≡ lent (1 + k * (suc links * 2)) (suc links * 2) demands = q ∙ ap (λ (x : ℕ). lent (1 + k * (suc x * 2)) (suc x * 2) demands) e in (
        subst (DemandRow corridor demands k) (sym p)
            (demand_row_lem corridor demands k (1 + k * (suc links * 2)) (suc links * 2) refl (ap (λ (x : ℕ). suc x * 2) n)),
        ap length p
            ∙ part_length (1 + k * (suc links * 2)) (suc links * 2) (length demands) demands
            (omega (arith, row_fits_lem k steps (suc links * 2) hk, ready.demands_fit.words)) refl,
      )

  pub record_viewed : (j l : ℕ) (row : List ℕ) → l ≡ links → j ≤ steps → row ≡ lent (j * (suc l * width)) (suc l * width) words
      → TraceRow width (links_of corridor) (trace_of width (road_of corridor demands) words) (exits_of width (road_of corridor demands) words) j row
      × RowFits width row links
  record_viewed j l row e hj q =
      let p : row ≡ lent (j * (suc links * width)) (suc links * width) words = q ∙ ap (λ (x : ℕ). lent (j * (suc x * width)) (suc x * width) words) e in (
        subst (TraceRow width (links_of corridor) trace said j) (sym p) (trace_lent j (j * (suc links * width)) (suc links * width) refl refl),
        ap length p
            ∙ part_length (j * (suc links * width)) (suc links * width) (length words) words
            (omega (arith, row_fits_lem j (suc steps) (suc links * width) (omega arith), ready.record_fits)) refl,
      )

  -- row k + 1
  pub after_viewed : (l : ℕ) (row : List ℕ) → l ≡ links → k < steps → row ≡ lent ((k + 1) * (suc l * width)) (suc l * width) words
      → TraceRow width (links_of corridor) (trace_of width (road_of corridor demands) words) (exits_of width (road_of corridor demands) words) (suc k) row
      × RowFits width row links
  after_viewed l row e hk q =
      let (t, fits) = record_viewed (k + 1) l row e (omega arith) q in
      (subst (λ (j : ℕ). TraceRow width (links_of corridor) trace said j row) (add-one k) t, fits)

  module _ (demand row : List ℕ) (d : DemandRow corridor demands k demand × RowFits 2 demand links)
      (t : TraceRow width (links_of corridor) (trace_of width (road_of corridor demands) words) (exits_of width (road_of corridor demands) words) k row
      × RowFits width row links)
      (hk : k < steps) where
    -- the rows of a step keep what is asked, where each node's words do; w is the width as the view has it
    rows_kept : (w : ℕ) → w ≡ width → ((j : ℕ) → j ≤ links → NodeKept width corridor demand row j) → RowsKept w corridor demand row links
    rows_kept w e kept =
        subst (λ (x : ℕ). RowsKept x corridor demand row links) (sym e)
        (record { corridor_fits = ready.corridor_fits; demand_fits = d.1; row_fits = t.1; wide = ready.wide; kept = kept })

    pub step_row_kept : (w : ℕ) → w ≡ width → fixed_refusal width corridor links steps words ≡ Accepted
        → steps_refusal width corridor demands links words k ≡ Accepted
        → RowsKept w corridor demand row links
    step_row_kept w e fixed before = rows_kept w e (step_kept _ _ d.0 t.0 (downstream_word demands links steps k) refl fixed before hk)

    pub step_row_told : (w downstream : ℕ) (after : List ℕ) (a : Answer) → w ≡ width → downstream ≡ downstream_word demands links steps k
        → TraceRow width (links_of corridor) (trace_of width (road_of corridor demands) words) (exits_of width (road_of corridor demands) words) (suc k) after
        × RowFits width after links
        → a ≡ first_node (suc links) k (step_fault_in w corridor demand downstream row after)
        → a ≡ step_refusal width corridor demands links words k
    step_row_told w downstream after a e beyond s told =
        step_told demand row d.0 t.0 downstream beyond after a s.0
        (told ∙ ap (λ (x : ℕ). first_node (suc links) k (step_fault_in x corridor demand downstream row after)) e)

    module _ (accepted : judged width (road_of corridor demands) words ≡ Accepted) where
      pub plan_row_kept : (w : ℕ) → w ≡ width → RowsKept w corridor demand row links × SentKept w row links
      plan_row_kept w e = (
        rows_kept w e (plan_kept _ _ d.0 t.0 (downstream_word demands links steps k) refl accepted hk),
        subst (λ (x : ℕ). SentKept x row links) (sym e) (plan_sent _ _ d.0 t.0 (downstream_word demands links steps k) refl accepted hk),
      )
