-- Laws of the scans, in the shape of what the code returns: the nodes of a corridor or a row, and the rows of a list.
use Prim.Native.Nat.{ℕ, suc, ◌+◌, ◌-◌, ◌*◌, ◌<◌}
use mathlib.Core.Path.{◌≡◌, refl, ap, ap₂, ◌∙◌}
use mathlib.Core.List.{List, []}
use native.Mathlib.Nat.{zero-add}
use native.Mathlib.Omega.{arith}
use lib.ListN.{length, get_or, take, drop}
use Rattle.tables.specs.Answer.{Answer}
use Rattle.tables.specs.Answer.{Accepted}
use Rattle.tables.specs.Answer.{or_else, refusal}
use Rattle.tables.specs.First.{first_node}
use Rattle.tables.specs.Grid.{place}
use Rattle.tables.proofs.Answers.{Refuses, or_else_assoc, or_else_stop, or_else_next}
use Rattle.tables.proofs.First.{first_same, first_place_same}
use Rattle.tables.proofs.Numbers.{row_fits_lem}
use Rattle.tables.proofs.Part.{part_at, part_length}
use Rattle.lists.specs.Words.{links_of, steps_of, node_at, free, road_of, plan_of, plan_length}
use Rattle.faults.specs.Lists.{plan_fault}
use Rattle.list_scans.specs.Refusals.{link_refusal, ramp_refusal, start_refusal, demand_refusal, ranges, bounds, plan_bounds}
use Rattle.list_scans.specs.Scans.{NodeTest}
use Rattle.lists.specs.Rows.{lent}
use Rattle.lists.specs.Fits.{DemandsFit, RowFits}
use Rattle.list_scans.specs.Scans.{node_fault, node_fault_in, node_fault_at, corridor_refusal, demands_refusal, plan_refusal}

-- ---- rows: row k of the list, that begins `skip` words and k rows into it, as the code lends it

row_word : (list : List ℕ) (links skip k at n i q : ℕ) → at ≡ skip + k * (suc links * 2) → n ≡ suc links * 2 → i < suc links → q < 2
    → get_or (take (at + n - at) (drop at list)) (i * 2 + q) 0 ≡ get_or list (skip + place 2 (suc links) k i q) 0
row_word list links skip k at n i q e w h b =
    let p : at + (i * 2 + q) ≡ skip + place 2 (suc links) k i q = omega arith in
    part_at at n list (i * 2 + q) 0 (omega arith) ∙ ap (λ (j : ℕ). get_or list j 0) p

pub row_told : (test : NodeTest) (corridor list : List ℕ) (links steps skip k at n downstream : ℕ) (a : Answer) → at ≡ skip + k * (suc links * 2) → n ≡ suc links * 2
    → downstream ≡ get_or list (skip + steps * (suc links * 2) + k) free
    → a ≡ first_node (suc links) k (node_fault_in test corridor links (take (at + n - at) (drop at list)) downstream)
    → a ≡ first_node (suc links) k (node_fault_at test corridor links steps skip list k)
row_told test corridor list links steps skip k at n downstream a e w d h =
    h
    ∙ first_same (suc links) _ _
    (λ i l. ap (λ (x : ℕ). refusal x k i)
    (λ z.
    node_fault test corridor links i (row_word list links skip k at n i 0 e w l (omega arith) z) (row_word list links skip k at n i 1 e w l (omega arith) z) (d z)))

-- a row of the demands, and one of a plan as the code lends it, has two words for each node
pub demand_lent : (links steps k : ℕ) (demands row : List ℕ) → DemandsFit demands links steps → k < steps
    → row ≡ lent (1 + k * (suc links * 2)) (suc links * 2) demands → RowFits 2 row links
demand_lent links steps k demands row fits h e =
    ap length e
    ∙ part_length (1 + k * (suc links * 2)) (suc links * 2) (length demands) demands
    (omega (arith, fits.words, row_fits_lem k steps (suc links * 2) h)) refl

pub plan_place : (links k at nodes : ℕ) → at ≡ k * (nodes * 2) → nodes ≡ suc links → at ≡ 0 + k * (suc links * 2)
plan_place links k at nodes e h = let p : at ≡ k * (suc links * 2) = e ∙ ap (λ (n : ℕ). k * (n * 2)) h in omega (arith, p)

pub plan_lent : (links steps k at nodes : ℕ) (words : List ℕ) → k < steps → length words ≡ plan_length links steps → at ≡ k * (nodes * 2) → nodes ≡ suc links
    → length (take (at + nodes * 2 - at) (drop at words)) ≡ suc links * 2
plan_lent links steps k at nodes words h w e n =
    let b : at ≡ 0 + k * (suc links * 2) = plan_place links k at nodes e n in
    part_length at (nodes * 2) (length words) words (omega (arith, row_fits_lem k steps (suc links * 2) h)) refl ∙ ap (λ (x : ℕ). x * 2) n

-- ---- the whole lists

four : (a b c d : Answer) → or_else (or_else a (or_else b c)) d ≡ or_else a (or_else b (or_else c d))
four a b c d = or_else_assoc a (or_else b c) d ∙ ap (or_else a) (or_else_assoc b c d)

ranges_are : (corridor demands : List ℕ)
    → or_else (corridor_refusal corridor (links_of corridor)) (demands_refusal corridor (links_of corridor) (steps_of demands) demands)
    ≡ ranges (road_of corridor demands)
unfolding corridor_refusal node_fault ranges link_refusal ramp_refusal start_refusal demand_refusal road_of
ranges_are corridor demands =
    let road = road_of corridor demands in
    four (link_refusal road) (ramp_refusal road) (start_refusal road) (demand_refusal road)

-- refusal 5 asks nothing of the corridor's words
pub demands_bare : (corridor demands : List ℕ) (links steps : ℕ) → demands_refusal [] links steps demands ≡ demands_refusal corridor links steps demands
unfolding node_fault
demands_bare corridor demands links steps = refl

pub ranges_stop : (corridor demands : List ℕ) (links : ℕ) (a : Answer) → links ≡ links_of corridor
    → a ≡ corridor_refusal corridor links → Refuses a → a ≡ ranges (road_of corridor demands)
ranges_stop corridor demands links a n e h =
    or_else_stop a _ _ (e ∙ ap (corridor_refusal corridor) n) h ∙ ranges_are corridor demands

pub ranges_next : (corridor demands : List ℕ) (links steps : ℕ) (a b : Answer) → links ≡ links_of corridor → steps ≡ steps_of demands
    → a ≡ corridor_refusal corridor links → a ≡ Accepted → b ≡ demands_refusal corridor links steps demands
    → b ≡ ranges (road_of corridor demands)
ranges_next corridor demands links steps a b n k e h q =
    or_else_next a b _ _ (e ∙ ap (corridor_refusal corridor) n) h
    (q ∙ ap₂ (λ (s l : ℕ). demands_refusal corridor l s demands) k n)
    ∙ ranges_are corridor demands

pub bounds_are : (corridor demands plan : List ℕ) (links steps : ℕ) (a : Answer) → links ≡ links_of corridor → steps ≡ steps_of demands
    → a ≡ plan_refusal corridor links steps plan → a ≡ plan_bounds corridor demands plan
unfolding bounds node_fault road_of plan_of
bounds_are corridor demands plan links steps a n k e =
    let road = road_of corridor demands in
    let word : (j i q : ℕ) → get_or plan (0 + place 2 (suc (links_of corridor)) j i q) 0 ≡ get_or plan (place 2 (suc (links_of corridor)) j i q) 0 =
    λ j i q. ap (λ (x : ℕ). get_or plan x 0) (zero-add (place 2 (suc (links_of corridor)) j i q)) in
    e
    ∙ ap₂ (λ (s l : ℕ). plan_refusal corridor l s plan) k n
    ∙ first_place_same (steps_of demands) (suc (links_of corridor)) _ _
    (λ j i hj hi. ap₂ (plan_fault (node_at corridor i).link (node_at corridor i).ramp) (word j i 0) (word j i 1))
