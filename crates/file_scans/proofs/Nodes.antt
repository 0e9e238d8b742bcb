-- One node's words unpacked out of a record's file: they say what the whole row of its state says of the node.
use Prim.Native.Nat.{ℕ, suc, ◌+◌, ◌*◌, ◌≤◌, ◌<◌}
use Rattle.std.specs.Prelude.{Option}
use mathlib.Core.List.{List}
use mathlib.Core.Logic.{⊎_elim}
use mathlib.Core.Path.{◌≡◌, refl, sym, ap, subst, ◌∙◌}
use native.Mathlib.Nat.{zero-mul, zero-add, add_assoc}
use native.Mathlib.Omega.{arith}
use lib.ListN.{get_or}
use Rattle.tables.proofs.Numbers.{le_or_lt, row_fits_lem}
use Rattle.tables.proofs.Tabulate.{tabulate_at}
use Rattle.road.specs.declared.Units.{Units}
use Rattle.road.specs.declared.NodeState as states
use Rattle.road.specs.declared.Flows as flows
use Rattle.road.specs.Corridor.{Road}
use Rattle.road.specs.Values.{state_of, flows_of}
use Rattle.road.proofs.Rules.{state_eq, flows_eq}
use Rattle.record_faults.specs.Records.{fixed_fault}
use Rattle.lists.specs.Words.{node_at, Width, exit_said}
use Rattle.lists.specs.Rows.{state_in, flows_in, exit_in}
use Rattle.convert_rows.specs.Rows.{fixed_fault_in}
use Rattle.convert_rows.proofs.Steps.{fixed_number_is}
use Rattle.payload.specs.File.{payload_word, payload_part}
use Rattle.file_rows.specs.Rows.{state_row_in}

module _ (width : ℕ) (wide : Width width) (links k i : ℕ) (file node : List ℕ)
    (told : node ≡ payload_part (k * (suc links * width) + i * width) width file) (h : i ≤ links) where
  word : (q : ℕ) → q < width → get_or node (0 * width + q) 0 ≡ get_or (state_row_in width links file k) (i * width + q) 0
  word q b =
      ap (λ (x : List ℕ). get_or x (0 * width + q) 0) told
      ∙ ap (λ (x : ℕ). get_or (payload_part (k * (suc links * width) + i * width) width file) (x + q) 0) (zero-mul width)
      ∙ ap (λ (x : ℕ). get_or (payload_part (k * (suc links * width) + i * width) width file) x 0) (zero-add q)
      ∙ tabulate_at width (λ j. payload_word file (k * (suc links * width) + i * width + j)) q 0 b
      ∙ ap (payload_word file) (add_assoc (k * (suc links * width)) (i * width) q)
      ∙ sym (tabulate_at (suc links * width) (λ j. payload_word file (k * (suc links * width) + j)) (i * width + q) 0
      (omega (arith, row_fits_lem i (suc links) width (omega arith))))

  node_state : state_in width node 0 ≡ state_in width (state_row_in width links file k) i
  unfolding state_in
  node_state = state_eq _ _ (word 0 (omega (arith, wide.least))) (word 1 (omega (arith, wide.least)))

  node_flows : flows_in width node 0 ≡ flows_in width (state_row_in width links file k) i
  unfolding flows_in
  node_flows = flows_eq _ _ (word 2 (omega (arith, wide.least))) (word 3 (omega (arith, wide.least)))

  node_exit : exit_in width node 0 ≡ exit_in width (state_row_in width links file k) i
  unfolding exit_said
  node_exit =
      ⊎_elim (λ (b : 5 ≤ width). ap (exit_said width) (word 4 (omega arith)))
      (λ (b : width < 5).
      let four : 4 ≡ width = omega (arith, wide.least) in
      subst (λ (c : ℕ). exit_said c (get_or node (0 * width + 4) 0) ≡ exit_said c (get_or (state_row_in width links file k) (i * width + 4) 0)) four refl)
      (le_or_lt 5 width)

  -- v is the number of refusal 7 as the code has it
  pub fixed_node_is : (corridor : List ℕ) (steps v : ℕ) (t s : states.NodeState) (f : flows.Flows) (x : Option Units)
      → ((road : Road) → links ≡ road.links → steps ≡ road.steps → state_of t ≡ (road.node i).start → v ≡ fixed_fault road k i (state_of s) (flows_of f) x)
      → state_of t ≡ (node_at corridor i).start → state_of s ≡ state_in width node 0 → flows_of f ≡ flows_in width node 0 → x ≡ exit_in width node 0
      → v ≡ fixed_fault_in width corridor links steps k (state_row_in width links file k) i
  fixed_node_is corridor steps v t s f x e p q r y =
      fixed_number_is width corridor (state_row_in width links file k) links steps k i v t s f x e p (q ∙ node_state) (r ∙ node_flows) (y ∙ node_exit)
