-- Rows unpacked out of the files: each is the row of the list that the file holds, and says of its step what that list says.
use Prim.Native.Nat.{ℕ, suc, ◌+◌, ◌-◌, ◌*◌, ◌<◌, ◌≤◌}
use mathlib.Core.List.{List}
use mathlib.Core.Path.{◌≡◌, refl, sym, ap, subst, ◌∙◌}
use native.Mathlib.Numerals.{add-one}
use native.Mathlib.Omega.{arith}
use lib.ListN.{take, drop}
use Rattle.tables.specs.Answer.{Answer}
use Rattle.tables.specs.Answer.{Accepted}
use Rattle.tables.specs.First.{first_node}
use Rattle.tables.proofs.Numbers.{row_fits_lem}
use Rattle.list_scans.specs.Scans.{NodeTest}
use Rattle.lists.specs.Words.{links_of, road_of, Width, trace_of, exits_of, record_length}
use Rattle.list_scans.specs.Scans.{node_fault_in, node_fault_at}
use Rattle.list_scans.proofs.Scans.{row_told}
use Rattle.simulate_rows.specs.Rows.{row_cost}
use Rattle.simulate.proofs.Steps.{DemandRow}
use Rattle.convert.specs.Refusals.{judged}
use Rattle.convert.specs.Convert.{setting_at}
use Rattle.convert_rows.specs.Rows.{fixed_fault_in, step_fault_in, setting_in, RowsKept, SentKept}
use Rattle.convert.specs.Rows.{fixed_row_refusal, fixed_refusal, step_refusal, steps_refusal, state_cost_at, Ready}
use Rattle.convert.proofs.Rows.{TraceRow, fixed_row_told, demand_lent, trace_lent, step_told, step_kept, plan_kept, plan_sent, row_setting}
use Rattle.convert.proofs.Answers.{row_cost_told}
use Rattle.payload.proofs.Payloads.{payload_part_lem}
use Rattle.file_rows.specs.Words.{demands_count, demands_in, record_in}
use Rattle.file_rows.specs.Rows.{demand_row_in, downstream_in, state_row_in}
use Rattle.file_rows.proofs.Demands.{count_low}
use Rattle.file_rows.proofs.Rows.{demand_length, state_length}

-- ---- it is a part of the list, and what a call finds in it, it finds in the whole list

module _ (links steps k : ℕ) (file row : List ℕ) (told : row ≡ demand_row_in links file k) (h : k < steps) where
  pub demand_part : row
      ≡ take (1 + k * ((links + 1) * 2) + (links + 1) * 2 - (1 + k * ((links + 1) * 2))) (drop (1 + k * ((links + 1) * 2)) (demands_in links steps file))
  demand_part =
      told
      ∙ payload_part_lem (1 + k * ((links + 1) * 2)) ((links + 1) * 2) (demands_count links steps file) file
      (omega (arith, row_fits_lem k steps ((links + 1) * 2) h, count_low links steps file, ap (λ (n : ℕ). steps * (n * 2)) (add-one links)))

  pub demand_found : (test : NodeTest) (corridor : List ℕ) (downstream : ℕ) (a : Answer)
      → a ≡ first_node (suc links) k (node_fault_in test corridor links row downstream)
      → downstream ≡ downstream_in links steps file k → a ≡ first_node (suc links) k (node_fault_at test corridor links steps 1 (demands_in links steps file) k)
  demand_found test corridor downstream a found beyond =
      row_told test corridor (demands_in links steps file) links steps 1 k (1 + k * ((links + 1) * 2)) ((links + 1) * 2) downstream a
      (ap (λ (n : ℕ). 1 + k * (n * 2)) (add-one links)) (ap (λ (n : ℕ). n * 2) (add-one links)) beyond
      (subst (λ (x : List ℕ). a ≡ first_node (suc links) k (node_fault_in test corridor links x downstream)) demand_part found)

module _ (width : ℕ) (wide : Width width) (links steps : ℕ) (file : List ℕ) where
  pub state_part : (k : ℕ) (row : List ℕ) → row ≡ state_row_in width links file k → k ≤ steps
      → row ≡ take (k * (suc links * width) + suc links * width - k * (suc links * width)) (drop (k * (suc links * width)) (record_in width links steps file))
  state_part k row told h =
      told ∙ payload_part_lem (k * (suc links * width)) (suc links * width) (record_length width links steps) file
      (omega (arith, row_fits_lem k (suc steps) (suc links * width) (omega arith)))

  pub fixed_found : (k : ℕ) (row : List ℕ) → row ≡ state_row_in width links file k → k ≤ steps → (corridor : List ℕ) (a : Answer)
      → a ≡ first_node (suc links) k (fixed_fault_in width corridor links steps k row)
      → a ≡ fixed_row_refusal width corridor links steps (record_in width links steps file) k
  fixed_found k row told h corridor a found =
      fixed_row_told width corridor (record_in width links steps file) links steps k (k * (suc links * width)) (suc links * width) a wide
      (subst (λ (x : List ℕ). a ≡ first_node (suc links) k (fixed_fault_in width corridor links steps k x)) (state_part k row told h) found) refl refl

  pub cost_found : (k : ℕ) (row : List ℕ) → row ≡ state_row_in width links file (k + 1) → k < steps → (v : ℕ) → v ≡ row_cost width links row
      → v ≡ state_cost_at width links steps (record_in width links steps file) k
  cost_found k row told h v found =
      row_cost_told width width links links steps k v (record_in width links steps file) row wide refl refl (state_part (k + 1) row told (omega arith)) found

-- ---- the rows of step k say what the lists say of it

module _ (width : ℕ) (corridor demands recorded : List ℕ) (links steps : ℕ)
    (ready : Ready width corridor (demands_in links steps demands) (record_in width links steps recorded) links steps) where
  state_read : (k : ℕ) (row : List ℕ) → row ≡ state_row_in width links recorded k → k ≤ steps
      → TraceRow width (links_of corridor) (trace_of width (road_of corridor (demands_in links steps demands)) (record_in width links steps recorded))
      (exits_of width (road_of corridor (demands_in links steps demands)) (record_in width links steps recorded)) k row
  state_read k row told h =
      subst (λ (x : List ℕ). TraceRow width (links_of corridor)
      (trace_of width (road_of corridor (demands_in links steps demands)) (record_in width links steps recorded))
      (exits_of width (road_of corridor (demands_in links steps demands)) (record_in width links steps recorded)) k x)
      (sym (state_part width ready.wide links steps recorded k row told h))
      (trace_lent width corridor (demands_in links steps demands) (record_in width links steps recorded) links steps ready k k (k * (suc links * width))
      (suc links * width) refl refl)

  module _ (k : ℕ) (demand row : List ℕ) (d : demand ≡ demand_row_in links demands k) (t : row ≡ state_row_in width links recorded k) (h : k < steps) where
    demand_read : DemandRow corridor (demands_in links steps demands) k demand
    demand_read =
        subst (λ (x : List ℕ). DemandRow corridor (demands_in links steps demands) k x) (sym (demand_part links steps k demands demand d h))
        (demand_lent width corridor (demands_in links steps demands) (record_in width links steps recorded) links steps ready k (k * ((links + 1) * 2)) refl)

    row_read : TraceRow width (links_of corridor) (trace_of width (road_of corridor (demands_in links steps demands))
        (record_in width links steps recorded)) (exits_of width (road_of corridor (demands_in links steps demands)) (record_in width links steps recorded))
        k row
    row_read = state_read k row t (omega arith)

    pub step_found : (downstream : ℕ) → downstream ≡ downstream_in links steps demands k → (after : List ℕ) (a : Answer)
        → after ≡ state_row_in width links recorded (k + 1)
        → a ≡ first_node (suc links) k (step_fault_in width corridor demand downstream row after)
        → a ≡ step_refusal width corridor (demands_in links steps demands) links (record_in width links steps recorded) k
    step_found downstream f after a told =
        step_told width corridor _ _ links steps ready k demand row demand_read row_read downstream f after a
        (subst (λ (j : ℕ). TraceRow width (links_of corridor)
        (trace_of width (road_of corridor (demands_in links steps demands)) (record_in width links steps recorded))
        (exits_of width (road_of corridor (demands_in links steps demands)) (record_in width links steps recorded)) j after) (add-one k)
        (state_read (k + 1) after told (omega arith)))

    pub setting_found : (downstream : ℕ) → downstream ≡ downstream_in links steps demands k → (i : ℕ) → i ≤ links
        → setting_in width corridor demand downstream row i
        ≡ setting_at (road_of corridor (demands_in links steps demands))
        (trace_of width (road_of corridor (demands_in links steps demands)) (record_in width links steps recorded)) k i
    setting_found downstream f i b =
        row_setting width corridor _ _ links steps ready k demand row demand_read row_read downstream f i (omega (arith, ready.corridor_fits.first))

    -- and keep what the checker and the converter ask
    pub step_keeps : fixed_refusal width corridor links steps (record_in width links steps recorded) ≡ Accepted
        → steps_refusal width corridor (demands_in links steps demands) links (record_in width links steps recorded) k ≡ Accepted
        → RowsKept width corridor demand row links
    step_keeps fixed before =
        record {
          corridor_fits = ready.corridor_fits;
          demand_fits = demand_length links k demands demand d;
          row_fits = state_length width links k recorded row t;
          wide = ready.wide;
          kept = step_kept width corridor _ _ links steps ready k demand row demand_read row_read (downstream_in links steps demands k) refl fixed before h;
        }

    module _ (accepted : judged width (road_of corridor (demands_in links steps demands)) (record_in width links steps recorded) ≡ Accepted) where
      pub plan_keeps : RowsKept width corridor demand row links
      plan_keeps =
          record {
            corridor_fits = ready.corridor_fits;
            demand_fits = demand_length links k demands demand d;
            row_fits = state_length width links k recorded row t;
            wide = ready.wide;
            kept = plan_kept width corridor _ _ links steps ready k demand row demand_read row_read (downstream_in links steps demands k) refl accepted h;
          }

      pub plan_sends : SentKept width row links
      plan_sends = plan_sent width corridor _ _ links steps ready k demand row demand_read row_read (downstream_in links steps demands k) refl accepted h
