-- Laws of the loops that write the converter's plan: step by step.
use Prim.Native.Nat.{ℕ, zero, suc, ◌+◌, ◌-◌, ◌*◌, ◌≤◌, ◌<◌}
use mathlib.Core.List.{List}
use mathlib.Core.Path.{◌≡◌, sym, ap, subst, ◌∙◌}
use native.Mathlib.Omega.{arith}
use borrow.Rule.Slice.PartMut.{put_mid}
use lib.ListN.{length, take, drop}
use Rattle.tables.specs.Grid.{cell}
use Rattle.tables.proofs.Grid.{cell_same, Rowed, rowed_begun, rowed_words, rowed_grid}
use Rattle.settings.specs.Setting.{rate_in, limit_in}
use Rattle.lists.specs.Words.{links_of, steps_of, downstream_word, node_at, road_of, trace_of, exits_of, plan_word, plan_words, plan_length}
use Rattle.lists.specs.Rows.{lent}
use Rattle.simulate.proofs.Steps.{DemandRow}
use Rattle.convert.specs.Convert.{setting_at, plan_for, converted_by}
use Rattle.convert_rows.specs.Rows.{setting_in, setting_word, plan_row}
use Rattle.convert.specs.Rows.{Ready}
use Rattle.convert.proofs.Rows.{TraceRow, demand_lent, trace_lent, demand_viewed, record_viewed, row_setting}

-- ---- as a loop's invariant: the first k rows are the plan's

abbrev pub PlanRows : (width : ℕ) (corridor demands words : List ℕ) (links steps k : ℕ) (d plan : List ℕ) → Type 0
PlanRows width corridor demands words links steps k d plan =
    Rowed k steps ((links + 1) * 2) (λ h. cell 2 (plan_word (plan_for (road_of corridor demands) (trace_of width (road_of corridor demands) words)) h)) d plan

pub plan_begun : (width : ℕ) (corridor demands words : List ℕ) (links steps : ℕ) (d : List ℕ) → length d ≡ plan_length links steps → PlanRows width corridor demands words links steps 0 d d
plan_begun width corridor demands words links steps d e = rowed_begun steps ((links + 1) * 2) _ d (omega arith)

module _ (width : ℕ) (corridor demands words : List ℕ) (links steps : ℕ) (ready : Ready width corridor demands words links steps) where
  n : links ≡ links_of corridor
  n = ready.corridor_fits.first

  -- one more row is lent and comes back as ys
  row_more : (k r downstream : ℕ) (d plan ys demand row : List ℕ) → DemandRow corridor demands k demand
      → TraceRow width (links_of corridor) (trace_of width (road_of corridor demands) words) (exits_of width (road_of corridor demands) words) k row
      → PlanRows width corridor demands words links steps k d plan → k < steps → r ≡ k * ((links + 1) * 2)
      → downstream ≡ downstream_word demands links steps k → ys ≡ plan_row width corridor links demand downstream row
      → PlanRows width corridor demands words links steps (k + 1) d (put_mid r (r + (links + 1) * 2 - r) plan ys)
  unfolding plan_row setting_word plan_word plan_for road_of
  row_more k r downstream d plan ys demand row says holds p h e f y =
      let x : (links + 1) * 2 ≡ suc links * 2 = omega arith in
      let same : (i : ℕ) → i ≤ links_of corridor → setting_in width corridor demand downstream row i ≡ setting_at (road_of corridor demands) (trace_of width (road_of corridor demands) words) k i =
      row_setting width corridor demands words links steps ready k demand row says holds downstream f in
      let l : links ≡ links_of corridor = n in
      rowed_words k steps ((links + 1) * 2) _ d plan r 2 (suc links) (setting_word width corridor demand downstream row) ys p h e y x
      (subst (λ (m : ℕ). (j : ℕ) → j < m → cell 2 (setting_word width corridor demand downstream row) j ≡ cell 2 (plan_word (plan_for (road_of corridor demands) (trace_of width (road_of corridor demands) words)) k) j) (sym x)
      (cell_same 2 (suc links) (setting_word width corridor demand downstream row) (plan_word (plan_for (road_of corridor demands) (trace_of width (road_of corridor demands) words)) k)
      (λ i j a b. word i j (same i (omega arith)))))
    where
      word : (i j : ℕ)
          → setting_in width corridor demand downstream row i ≡ setting_at (road_of corridor demands) (trace_of width (road_of corridor demands) words) k i
          → setting_word width corridor demand downstream row i j ≡ plan_word (plan_for (road_of corridor demands) (trace_of width (road_of corridor demands) words)) k i j
      word i zero s = ap rate_in s
      word i (suc j) s = ap (limit_in (node_at corridor i).link.full_speed) s

  -- w is how many words a record's row has
  pub plan_more : (k r at w downstream : ℕ) (d plan ys : List ℕ) → PlanRows width corridor demands words links steps k d plan → k < steps
      → r ≡ k * ((links + 1) * 2) → at ≡ k * w → w ≡ suc links * width → downstream ≡ downstream_word demands links steps k
      → ys ≡ plan_row width corridor links (take (1 + r + (links + 1) * 2 - (1 + r)) (drop (1 + r) demands)) downstream (take (at + w - at) (drop at words))
      → PlanRows width corridor demands words links steps (k + 1) d (put_mid r (r + (links + 1) * 2 - r) plan ys)
  plan_more k r at w downstream d plan ys p h e q v f y =
      row_more k r downstream d plan ys _ _ (demand_lent width corridor demands words links steps ready k r e)
      (trace_lent width corridor demands words links steps ready k k at w q v) p h e f y

  -- its rows are as the lists' views give them, with l and m for N and x for the width; c is how many words the plan's row has
  pub plan_viewed : (k r c downstream l m x : ℕ) (d plan ys demand row : List ℕ) → PlanRows width corridor demands words links steps k d plan → k < steps
      → c ≡ (links + 1) * 2 → r ≡ k * c → l ≡ links → m ≡ links → x ≡ width
      → demand ≡ lent (1 + k * (suc l * 2)) (suc l * 2) demands → row ≡ lent (k * (suc m * width)) (suc m * width) words
      → downstream ≡ downstream_word demands l steps k → ys ≡ plan_row x corridor links demand downstream row
      → PlanRows width corridor demands words links steps (k + 1) d (put_mid r (r + c - r) plan ys)
  plan_viewed k r c downstream l m x d plan ys demand row p h q e a b w u v f y =
      subst (λ (s : ℕ). PlanRows width corridor demands words links steps (k + 1) d (put_mid r (r + s - r) plan ys)) (sym q)
      (row_more k r downstream d plan ys demand row (demand_viewed width corridor demands words links steps ready k l demand a h u).0
      (record_viewed width corridor demands words links steps ready k k m row b (omega arith) v).0 p h (e ∙ ap (λ (s : ℕ). k * s) q)
      (f ∙ ap (λ (s : ℕ). downstream_word demands s steps k) a) (y ∙ ap (λ (s : ℕ). plan_row s corridor links demand downstream row) w))

  pub plan_ended : (k : ℕ) (d plan : List ℕ) → PlanRows width corridor demands words links steps k d plan → steps ≤ k → plan ≡ converted_by width corridor demands words
  unfolding converted_by plan_words road_of
  plan_ended k d plan p h =
      let s : steps ≡ steps_of demands = ready.demands_fit.first in
      let w : links ≡ links_of corridor = n in
      rowed_grid k (steps_of demands) ((links + 1) * 2) 2 (suc (links_of corridor)) _ d plan
      (subst (λ (m : ℕ). PlanRows width corridor demands words links m k d plan) s p) (omega arith) (omega arith)
