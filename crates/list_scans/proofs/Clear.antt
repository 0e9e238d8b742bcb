-- Laws of the rows that have no fault: the loop that compares their words with their bounds, and that a test then finds none.
use Prim.Native.Nat.{ℕ, suc, ◌+◌, ◌*◌, ◌≤◌, ◌<◌}
use mathlib.Core.Bool.{Bool, true, false, cond}
use mathlib.Core.List.{List}
use mathlib.Core.Path.{◌≡◌, refl, sym, ap, subst, ◌∙◌}
use native.Mathlib.Numerals.{add-one}
use native.Mathlib.Omega.{arith}
use borrow.Author.Tests.{eq-eqb, ne_eqb}
use lib.Dec.{lit<, eqb}
use lib.ListN.{length, get_or, set}
use Rattle.tables.specs.Answer.{Accepted}
use Rattle.tables.specs.First.{first_node}
use Rattle.tables.specs.Grid.{row_words}
use Rattle.tables.proofs.First.{first_node_accepts}
use Rattle.tables.proofs.Grid.{Placed, placed_two, placed_ended, row_words_length, row_words_at}
use Rattle.road.specs.Corridor as Road
use Rattle.faults.specs.Lists.{demand_fault, plan_fault}
use Rattle.faults.proofs.Tests.{le_holds, eq_holds, both_hold, implies_holds, no_fault}
use Rattle.lists.specs.Words.{node_at}
use Rattle.lists.specs.Fits.{RowFits}
use Rattle.list_scans.specs.Scans.{NodeTest, Link, Ramp, Start, Demand, Plan}
use Rattle.list_scans.specs.Scans.{node_fault, node_fault_in, ReadsRow, most_word, MostAre, most_row, Within}

-- ---- a row that no word of which is above its bound has no fault

module _ (test : NodeTest) (corridor : List ℕ) (links : ℕ) where
  pub most_length : length (most_row test corridor links) ≡ suc links * 2
  unfolding most_row
  most_length = row_words_length 2 (suc links) (most_word test corridor links)

  module _ (row most : List ℕ) (downstream : ℕ) (fits : RowFits 2 row links) (told : most ≡ most_row test corridor links) (within : Within row most downstream) where
    word : (i : ℕ) → i ≤ links → (q : ℕ) → q < 2 → get_or row (i * 2 + q) 0 ≤ most_word test corridor links i q
    unfolding most_row
    word i h q b =
        omega (
          arith,
          within.words (i * 2 + q) (omega arith),
          ap (λ (x : List ℕ). get_or x (i * 2 + q) 0) told,
          row_words_at 2 (suc links) (most_word test corridor links) i q 0 (omega arith) b,
        )

-- of the demands: what bounds Q and b is no more than 65,536, and 0 where zero is fixed
most_fixed : (t : Bool) (m : ℕ) → t ≡ true → cond t 0 m ≡ 0
most_fixed t m e = ap (λ (x : Bool). cond x 0 m) e

most_low : (t : Bool) (m : ℕ) → m ≤ 65536 → cond t 0 m ≤ 65536
most_low true m h = omega arith
most_low false m h = h

demand_none : (links i arrivals split downstream : ℕ) → arrivals ≤ cond (eqb i links) 0 65536 → split ≤ cond (eqb i links) 0 (cond (eqb i 0) 0 65536) → downstream ≤ 65536
    → demand_fault links i arrivals split downstream ≡ 0
unfolding demand_fault
demand_none links i arrivals split downstream a b d =
    let inner : ℕ = cond (eqb i 0) 0 65536 in
    (no_fault _ 5 (λ e. omega arith)
    (both_hold _ _ (le_holds arrivals 65536)
    (both_hold _ _ (le_holds split 65536)
    (both_hold _ _ (implies_holds _ _ (eq_holds i 0) (eq_holds split 0))
    (implies_holds _ _ (eq_holds i links) (both_hold _ _ (eq_holds split 0) (both_hold _ _ (eq_holds arrivals 0) (le_holds downstream 65536)))))))
    ).1 (
      omega (arith, most_low (eqb i links) 65536 (omega arith)),
      (
        omega (arith, most_low (eqb i links) inner (most_low (eqb i 0) 65536 (omega arith))),
        (
          λ p. omega (arith, at_entry (eqb i links) inner (most_fixed (eqb i 0) 65536 (eq-eqb i 0 p))),
          λ p.
              let last = eq-eqb i links p in
              (omega (arith, most_fixed (eqb i links) inner last), (omega (arith, most_fixed (eqb i links) 65536 last), d)),
        ),
      ),
    )
  where
    at_entry : (t : Bool) (m : ℕ) → m ≡ 0 → cond t 0 m ≡ 0
    at_entry true m e = refl
    at_entry false m e = e

plan_none : (link : Road.Link) (ramp : Road.Ramp) (rate limit : ℕ) → rate ≤ ramp.capacity → limit ≤ link.full_speed → plan_fault link ramp rate limit ≡ 0
unfolding plan_fault
plan_none link ramp rate limit a b = (no_fault _ 6 (λ e. omega arith) (both_hold _ _ (le_holds rate ramp.capacity) (le_holds limit link.full_speed))).1 (a, b)

pub clear_none : (test : NodeTest) (corridor : List ℕ) (links : ℕ) (row most : List ℕ) (downstream : ℕ) → ReadsRow test → RowFits 2 row links → most ≡ most_row test corridor links
    → Within row most downstream → (i : ℕ) → i ≤ links → node_fault_in test corridor links row downstream i ≡ 0
unfolding ReadsRow node_fault most_word
clear_none Link corridor links row most downstream r fits told within i h = absurd r
clear_none Ramp corridor links row most downstream r fits told within i h = absurd r
clear_none Start corridor links row most downstream r fits told within i h = absurd r
clear_none Demand corridor links row most downstream r fits told within i h =
    demand_none links i _ _ downstream (word Demand corridor links row most downstream fits told within i h 0 (lit< tt)) (word Demand corridor links row most downstream fits told within i h 1 (lit< tt)) within.beyond
clear_none Plan corridor links row most downstream r fits told within i h =
    plan_none _ _ _ _ (word Plan corridor links row most downstream fits told within i h 0 (lit< tt)) (word Plan corridor links row most downstream fits told within i h 1 (lit< tt))

pub clear_accepts : (test : NodeTest) (corridor : List ℕ) (links : ℕ) (row most : List ℕ) (downstream k : ℕ) → ReadsRow test → RowFits 2 row links → most ≡ most_row test corridor links
    → Within row most downstream → Accepted ≡ first_node (suc links) k (node_fault_in test corridor links row downstream)
clear_accepts test corridor links row most downstream k r fits told within =
    sym ((first_node_accepts (suc links) k (node_fault_in test corridor links row downstream)).1 (λ i l. clear_none test corridor links row most downstream r fits told within i (omega arith)))

-- ---- the bounds of node i, as the code has them

-- of the demands, by the node
pub demand_at_last : (corridor : List ℕ) (links i : ℕ) → i ≡ links → MostAre Demand corridor links i 0 0
unfolding most_word
demand_at_last corridor links i e = let last : eqb i links ≡ true = eq-eqb i links e in (rw last, rw last)

module _ (corridor : List ℕ) (links i : ℕ) (n : i ≡ links → ⊥) where
  pub demand_at_entry : i ≡ 0 → MostAre Demand corridor links i 65536 0
  unfolding most_word
  demand_at_entry e =
      let last : eqb i links ≡ false = ne_eqb i links n in
      let entry : eqb i 0 ≡ true = eq-eqb i 0 e in
      (rw last, rw (last, entry))

  pub demand_between : (i ≡ 0 → ⊥) → MostAre Demand corridor links i 65536 65536
  unfolding most_word
  demand_between e =
      let last : eqb i links ≡ false = ne_eqb i links n in
      let entry : eqb i 0 ≡ false = ne_eqb i 0 e in
      (rw last, rw (last, entry))

-- of a plan, by C and V as they are read
pub plan_most : (corridor : List ℕ) (links i : ℕ) (ramp : Road.Ramp) (link : Road.Link) → ramp ≡ (node_at corridor i).ramp → link ≡ (node_at corridor i).link
    → MostAre Plan corridor links i ramp.capacity link.full_speed
unfolding most_word
plan_most corridor links i ramp link r l = (ap (λ (x : Road.Ramp). x.capacity) r, ap (λ (x : Road.Link). x.full_speed) l)

-- ---- the row of bounds, as a loop writes it: a and b are the bounds of node i as a call gave them

pub most_more : (test : NodeTest) (corridor : List ℕ) (i links : ℕ) (d l l' : List ℕ) (a b : ℕ) → Placed 2 i (links + 1) (most_word test corridor links) d l → i < links + 1
    → MostAre test corridor links i a b → l' ≡ set (set l (i * 2) a) (i * 2 + 1) b → Placed 2 (i + 1) (links + 1) (most_word test corridor links) d l'
most_more test corridor i links d l l' a b p h e q =
    subst (λ (x : List ℕ). Placed 2 (i + 1) (links + 1) (most_word test corridor links) d x) (sym q)
    (placed_two i (links + 1) (most_word test corridor links) d l (i * 2) a b p h refl e.0 e.1)

pub most_ended : (test : NodeTest) (corridor : List ℕ) (i links : ℕ) (d l : List ℕ) → Placed 2 i (links + 1) (most_word test corridor links) d l → links + 1 ≤ i → l ≡ most_row test corridor links
unfolding most_row
most_ended test corridor i links d l p h = placed_ended 2 i (links + 1) (most_word test corridor links) d l p h ∙ ap (λ (n : ℕ). row_words 2 n (most_word test corridor links)) (add-one links)
