-- Every answer of the calls fits one number: N, K and the blocks of a file are few wherever a place is named.
use Prim.Native.Nat.{ℕ, zero, suc, ◌*◌, ◌/◌, ◌%◌, ◌≤◌, min}
use mathlib.Core.Bool.{Bool, true, false, ◌&&◌}
use mathlib.Core.List.{List}
use mathlib.Core.Path.{◌≡◌, refl, sym, ap, subst, ◌∙◌}
use native.Mathlib.Omega.{arith}
use borrow.Author.Rules.{rules}
use lib.Dec.{leb, ltb, eqb}
use lib.ListN.{length}
use Rattle.tables.specs.Answer.{Answer}
use Rattle.tables.specs.Answer.{or_else, host_number, sized, Small}
use Rattle.tables.specs.First.{first_place}
use Rattle.tables.proofs.Answers.{small_refusal, small_or_else, small_unless, or_else_assoc}
use Rattle.tables.proofs.First.{small_node, small_place}
use Rattle.tables.proofs.Tests.{and_iff}
use Rattle.std.specs.Prelude.{Option}
use Rattle.road.specs.declared.Units.{Units}
use Rattle.road.specs.Corridor.{Link, Ramp, NodeState, Node, Road, Plan, Flows, nodes}
use Rattle.road.specs.Step.{Junction, sending, exit, outflow}
use Rattle.road.specs.Run.{junction, next, cost}
use Rattle.lists.specs.Words.{links_of, steps_of, road_of, trace_of, exits_of, plan_length, width_of}
use Rattle.faults.specs.Lists.{implies, no_link, link_in_range, link_fault, ramp_fault, start_fault, demand_fault, plan_fault}
use Rattle.lengths.specs.Lengths.{record_sized, sizes}
use Rattle.lengths.proofs.Sizes.{sizes_iff}
use Rattle.list_scans.specs.Refusals.{fresh, link_refusal, ramp_refusal, start_refusal, demand_refusal, ranges, bounds, plan_bounds}
use Rattle.simulate.specs.Simulate.{simulate_sizes, simulate_answer, simulated}
use Rattle.convert.specs.Convert.{record_answer, check_answer, convert_answer, normal_refusal, normal_answer}
use Rattle.search.specs.Search.{place_answer}
use Rattle.payload.specs.File.{blocks_for}
use Rattle.seals.proofs.Bounds.{Bounded}
use Rattle.block.specs.declared.Kind.{Kind}
use Rattle.block.specs.declared.Kind.TheVariants.{Corridor, Demands, Record}
use Rattle.block.specs.Kinds.{list_length, file_kind}
use Rattle.block.specs.Calls.{told_fits, file_answer, read_answer, write_answer}
use Rattle.block.proofs.Bounds.{file_bounded, read_bounded, write_bounded}
use Rattle.block.proofs.Calls.{told_is, length_high}
use Rattle.file_rows.specs.Words.{corridor_in, demands_in, file_width, record_in}
use Rattle.files.specs.Files.{files_answer, read_then_check, check_files, convert_files}
use Rattle.record_faults.specs.Records.{same_state, exit_kept, unless_then, fixed_fault, next_fault, step_fault, total_fault}
use Rattle.convert.specs.Refusals.{cost_fault, fixed_at, step_at, judged}

-- ---- each fault's number is small

link_small : (i : ℕ) (link : Link) → link_fault i link ≤ 255
unfolding link_fault
link_small zero link =
    small_unless (no_link link) 2 (omega arith)
link_small (suc i) link =
    small_unless (link_in_range link) 2 (omega arith)

ramp_small : (last : Bool) (identifier : ℕ) (ramp : Ramp) (is_fresh : Bool) → ramp_fault last identifier ramp is_fresh ≤ 255
unfolding ramp_fault
ramp_small last identifier ramp is_fresh =
    small_unless
    (leb 1 identifier
    && (is_fresh
    && (leb ramp.capacity 65536
    && (leb ramp.queue_limit 134217728 && implies last (eqb ramp.capacity 0 && eqb ramp.queue_limit 0)))))
    3 (omega arith)

start_small : (node : Node) → start_fault node ≤ 255
unfolding start_fault
start_small node =
    small_unless (leb node.start.vehicles node.link.jam && leb node.start.queue node.ramp.queue_limit) 4 (omega arith)

demand_small : (links i arrivals split downstream : ℕ) → demand_fault links i arrivals split downstream ≤ 255
unfolding demand_fault
demand_small links i arrivals split downstream =
    small_unless
    (leb arrivals 65536
    && (leb split 65536
    && (implies (eqb i 0) (eqb split 0)
    && implies (eqb i links) (eqb split 0 && (eqb arrivals 0 && leb downstream 65536)))))
    5 (omega arith)

plan_small : (link : Link) (ramp : Ramp) (rate limit : ℕ) → plan_fault link ramp rate limit ≤ 255
unfolding plan_fault
plan_small link ramp rate limit = small_unless (leb rate ramp.capacity && leb limit link.full_speed) 6 (omega arith)

fixed_small : (road : Road) (k i : ℕ) (state : NodeState) (flows : Flows) (said : Option Units) → fixed_fault road k i state flows said ≤ 255
unfolding fixed_fault
fixed_small road k i state flows said =
    small_unless
    (implies (eqb k 0) (same_state state (road.node i).start)
    && (implies (eqb k road.steps) (eqb flows.main 0 && (eqb flows.ramp 0 && exit_kept said 0))
    && (implies (eqb i 0) (eqb state.vehicles 0 && (eqb flows.main 0 && exit_kept said 0))
    && implies (eqb i road.links) (eqb state.queue 0 && (eqb flows.ramp 0 && exit_kept said 0)))))
    7 (omega arith)

then_small : (t : Bool) (x rest : ℕ) → x ≤ 255 → rest ≤ 255 → unless_then t x rest ≤ 255
then_small true x rest h k = k
then_small false x rest h k = h

next_small : (moved after : NodeState) (queue_limit : ℕ) → next_fault moved after queue_limit ≤ 255
unfolding next_fault
next_small moved after queue_limit =
    then_small (same_state after moved) 11 _ (omega arith) (small_unless (leb after.queue queue_limit) 12 (omega arith))

-- four tests in turn, and then the rest
steps_small : (a b c d : Bool) (rest : ℕ) → rest ≤ 255 → unless_then a 8 (unless_then b 9 (unless_then c 10 (unless_then d 11 rest))) ≤ 255
steps_small a b c d rest h =
    then_small a 8 _ (omega arith) (then_small b 9 _ (omega arith) (then_small c 10 _ (omega arith) (then_small d 11 rest (omega arith) h)))

step_small : (junction : Junction) (flows : Flows) (said : Option Units) (moved after : NodeState) → step_fault junction flows said moved after ≤ 255
unfolding step_fault
step_small junction flows said moved after =
    steps_small
    (leb flows.main (sending junction.link junction.state.vehicles junction.link.full_speed))
    (leb (outflow flows junction.split) junction.supply)
    (leb flows.ramp (min junction.state.queue junction.ramp.capacity))
    (exit_kept said (exit flows.main junction.split)) _ (next_small moved after junction.ramp.queue_limit)

total_small : (total low high : ℕ) → total_fault total low high ≤ 255
unfolding total_fault
total_small total low high = small_unless (eqb low (total % 4294967296) && eqb high (total / 4294967296)) 13 (omega arith)

cost_small : (width : ℕ) (road : Road) (words : List ℕ) → cost_fault width road words ≤ 255
unfolding cost_fault
cost_small width road words = total_small (cost road (trace_of width road words)) _ _

module _ (road : Road) (few : road.links ≤ 64) (short : road.steps ≤ 1440) where
  pub ranges_small : Small (ranges road)
  unfolding ranges link_refusal ramp_refusal start_refusal demand_refusal
  ranges_small =
      small_or_else (link_refusal road) _ (small_node (nodes road) 0 _ (omega arith) (omega arith) (λ i. link_small i (road.node i).link))
      (small_or_else (ramp_refusal road) _ (small_node (nodes road) 0 _ (omega arith) (omega arith) (λ i. ramp_small (eqb i road.links) (road.node i).identifier (road.node i).ramp (fresh (λ j. (road.node j).identifier) i)))
      (small_or_else (start_refusal road) _ (small_node (nodes road) 0 _ (omega arith) (omega arith) (λ i. start_small (road.node i)))
      (small_place road.steps (nodes road) _ (omega arith) (omega arith) (λ k i. demand_small road.links i (road.arrivals k i) (road.split k i) (road.downstream k)))))

  pub bounds_small : (plan : Plan) → Small (bounds road plan)
  unfolding bounds
  bounds_small plan =
      small_place road.steps (nodes road) _ (omega arith) (omega arith) (λ k i. plan_small (road.node i).link (road.node i).ramp (plan.rate k i) (plan.limit k i))

  pub judged_small : (width : ℕ) (words : List ℕ) → Small (judged width road words)
  unfolding judged
  judged_small width words =
      let trace = trace_of width road words in
      let said : ℕ → ℕ → Option Units = exits_of width road words in
      small_or_else (first_place (suc road.steps) (nodes road) (fixed_at road trace said)) _
      (small_place (suc road.steps) (nodes road) _ (omega arith) (omega arith) (λ k i. fixed_small road k i (trace.state k i) (trace.flows k i) (said k i)))
      (small_or_else (first_place road.steps (nodes road) (step_at road trace said)) _
      (small_place road.steps (nodes road) _ (omega arith) (omega arith)
      (λ k i. step_small (junction road k (trace.state k) i) (trace.flows k i) (said k i) (next road k (trace.state k) (trace.flows k) i) (trace.state (suc k) i)))
      (small_refusal (cost_fault width road words) 0 0 (cost_small width road words) (omega arith) (omega arith)))

-- a wrong length is refused before any place is named
pub sized_small : (fits : Bool) (rest : Answer) → (fits ≡ true → Small rest) → Small (or_else (sized fits) rest)
sized_small true rest h = h refl
sized_small false rest h = small_refusal 1 0 0 (omega arith) (omega arith) (omega arith)

-- ---- the answers of the calls on word lists

module _ (corridor demands : List ℕ) where
  -- N and K are small where both lists have their lengths
  ranges_fit : sizes corridor demands ≡ true → Small (ranges (road_of corridor demands))
  unfolding road_of
  ranges_fit e = let s = (sizes_iff corridor demands).0 e in ranges_small (road_of corridor demands) (omega (arith, s.links)) (omega (arith, s.steps))

  bounds_fit : (plan : List ℕ) → sizes corridor demands ≡ true → Small (plan_bounds corridor demands plan)
  unfolding road_of
  bounds_fit plan e = let s = (sizes_iff corridor demands).0 e in bounds_small (road_of corridor demands) (omega (arith, s.links)) (omega (arith, s.steps)) _

  judged_fit : (width : ℕ) (words : List ℕ) → sizes corridor demands ≡ true → Small (judged width (road_of corridor demands) words)
  unfolding road_of
  judged_fit width words e = let s = (sizes_iff corridor demands).0 e in judged_small (road_of corridor demands) (omega (arith, s.links)) (omega (arith, s.steps)) width words

  pub simulate_small : (plan : List ℕ) (room : ℕ) → Small (simulate_answer corridor demands plan room)
  unfolding simulate_answer simulate_sizes
  simulate_small plan room =
      sized_small (simulate_sizes corridor demands plan room) _
      (λ e. let s = ((and_iff (sizes corridor demands) _).0 e).0 in small_or_else (ranges (road_of corridor demands)) _ (ranges_fit s) (bounds_fit plan s))

  pub check_small : (words : List ℕ) → Small (check_answer corridor demands words)
  unfolding check_answer
  check_small words =
      sized_small (sizes corridor demands && record_sized (links_of corridor) (steps_of demands) (length words)) _
      (λ e. let s = ((and_iff (sizes corridor demands) _).0 e).0 in small_or_else (ranges (road_of corridor demands)) _ (ranges_fit s) (judged_fit (width_of corridor demands (length words)) words s))

  record_small : (words : List ℕ) (also : Bool) → Small (record_answer also corridor demands words)
  record_small words also =
      sized_small (sizes corridor demands && (record_sized (links_of corridor) (steps_of demands) (length words) && also)) _
      (λ e. let s = ((and_iff (sizes corridor demands) _).0 e).0 in small_or_else (ranges (road_of corridor demands)) _ (ranges_fit s) (judged_fit (width_of corridor demands (length words)) words s))

  pub convert_small : (words : List ℕ) (room : ℕ) → Small (convert_answer corridor demands words room)
  unfolding convert_answer
  convert_small words room = record_small words (eqb room (plan_length (links_of corridor) (steps_of demands)))

  pub place_small : (words : List ℕ) (step node : ℕ) (fits : Bool) → Small (place_answer corridor demands words step node fits)
  unfolding place_answer
  place_small words step node fits = record_small words (ltb step (steps_of demands) && (leb node (links_of corridor) && fits))

  pub normal_small : (plan : List ℕ) (work room : ℕ) → Small (normal_answer corridor demands plan work room)
  unfolding normal_answer normal_refusal
  normal_small plan work room =
      let fits : Bool =
      sizes corridor demands
      && (eqb (length plan) (plan_length (links_of corridor) (steps_of demands))
      && (record_sized (links_of corridor) (steps_of demands) work && eqb room (plan_length (links_of corridor) (steps_of demands)))) in
      let rest : Answer = or_else (ranges (road_of corridor demands)) (plan_bounds corridor demands plan) in
      let width : ℕ = width_of corridor demands work in
      let last : Answer = judged width (road_of corridor demands) (simulated width corridor demands plan) in
      subst Small (sym (or_else_assoc (sized fits) rest last))
      (sized_small fits (or_else rest last)
      (λ e.
      let s = ((and_iff (sizes corridor demands) _).0 e).0 in
      small_or_else rest last (small_or_else (ranges (road_of corridor demands)) _ (ranges_fit s) (bounds_fit plan s)) (judged_fit width (simulated width corridor demands plan) s)))

-- ---- those of the readers and the writers

bounded_small : (rows : ℕ) (a : Answer) → Bounded rows a → rows ≤ 65535 → Small a
bounded_small rows a b h = record { number = omega (arith, b.number); row = omega (arith, b.row); node = omega (arith, b.node); named = b.named }

pub read_small : (kind : Kind) (n k : ℕ) (file : List ℕ) (room : ℕ) → Small (read_answer kind n k file room)
read_small kind n k file room = bounded_small 3747 _ (read_bounded kind n k file room) (omega arith)

pub write_small : (kind : Kind) (n k : ℕ) (words : List ℕ) (room : ℕ) → Small (write_answer kind n k words room)
write_small kind n k words room = bounded_small 0 _ (write_bounded kind n k words room) (omega arith)

-- ---- and those on files

file_small : (kind : Kind) (n k : ℕ) (file : List ℕ) → told_fits n k ≡ true → Small (file_answer kind n k file)
file_small kind n k file t =
    let l : list_length kind n k ≤ 468327 = length_high kind n k (told_is n k _ refl t) in
    bounded_small (blocks_for (list_length kind n k)) _ (file_bounded kind n k file) (omega arith)

module _ (n k : ℕ) (corridor demands recorded : List ℕ) where
  then_check_small : told_fits n k ≡ true → Small (read_then_check n k corridor demands recorded)
  unfolding read_then_check files_answer
  then_check_small t =
      small_or_else (files_answer n k corridor demands recorded) _
      (small_or_else (file_answer (file_kind Corridor corridor) n k corridor) _ (file_small (file_kind Corridor corridor) n k corridor t)
      (small_or_else (file_answer (file_kind Demands demands) n k demands) _ (file_small (file_kind Demands demands) n k demands t) (file_small (file_kind Record recorded) n k recorded t)))
      (check_small (corridor_in n corridor) (demands_in n k demands) (record_in (file_width recorded) n k recorded))

  pub check_files_small : Small (check_files n k corridor demands recorded)
  unfolding check_files
  check_files_small = sized_small (told_fits n k) _ then_check_small

  pub convert_files_small : (room : ℕ) → Small (convert_files n k corridor demands recorded room)
  unfolding convert_files
  convert_files_small room =
      sized_small (told_fits n k && eqb room (blocks_for (plan_length n k) * 512)) _ (λ e. then_check_small ((and_iff (told_fits n k) _).0 e).0)

-- ---- a call's answer x, as the code has it in a

pub told_small : (a x : Answer) → a ≡ x → Small x → Small a
told_small a x e h = subst Small (sym e) h

pub told_number : (v : ℕ) (a x : Answer) → v ≡ host_number a → a ≡ x → v ≡ host_number x
told_number v a x e h = e ∙ ap host_number h

pub ruleset numbers = (
  rules,
  told_small,
  told_number,
  simulate_small,
  check_small,
  convert_small,
  normal_small,
  place_small,
  read_small,
  write_small,
  check_files_small,
  convert_files_small,
)
