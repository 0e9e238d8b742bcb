-- Laws of one node in one step of a record, in the shape of what the code asks and returns.
use Prim.Native.Nat.{ℕ, suc, ◌+◌, ◌*◌, ◌≤◌, ◌<◌}
use mathlib.Core.Bool.{Bool, true, ◌&&◌}
use mathlib.Core.List.{List}
use mathlib.Core.Path.{◌≡◌, sym, ap, subst₂, ◌∙◌}
use native.Mathlib.Omega.{arith}
use borrow.Author.Tests.{ltb-true, leb-true}
use lib.Dec.{ltb, leb}
use lib.ListN.{length}
use Rattle.tables.specs.Answer.{Answer}
use Rattle.tables.specs.Answer.{Accepted}
use Rattle.tables.specs.Answer.{sized}
use Rattle.tables.proofs.Answers.{Refuses, or_else_accepts, sized_iff}
use Rattle.tables.proofs.Tests.{and_iff}
use Rattle.road.specs.declared.Junction as junctions
use Rattle.road.specs.declared.Flows as flows
use Rattle.road.specs.Run.{junction}
use Rattle.road.specs.Values.{junction_of, flows_of}
use Rattle.lists.specs.Words.{links_of, steps_of, downstream_word, road_of, width_of}
use Rattle.lists.specs.Rows.{lent, state_in, flows_in, step_road}
use Rattle.lengths.specs.Lengths.{record_sized, sizes}
use Rattle.convert.specs.Refusals.{judged}
use Rattle.convert.specs.Rows.{Ready}
use Rattle.convert.specs.Convert.{check_answer}
use Rattle.convert_rows.specs.Rows.{RowsKept}
use Rattle.convert_rows.proofs.Steps.{split_kept}
use Rattle.convert.proofs.Answers.{also_sized, also_checks, also_kept}
use Rattle.convert.proofs.Rows.{row_junction, demand_viewed, record_viewed, plan_row_kept}
use Rattle.search.specs.Search.{place_answer}
use Rattle.search.specs.declared.inner.Place.{Place}
use Rattle.search.specs.Places.{PlaceAt}

-- ---- whether the step is below K and the node up to N

abbrev pub place_test : List ℕ → List ℕ → ℕ → ℕ → Bool → Bool
place_test corridor demands step node fits = sizes corridor demands && (ltb step (steps_of demands) && (leb node (links_of corridor) && fits))

-- ---- the refusals: t and a are what these tests answered, as a test and as an answer

module _ (corridor demands words : List ℕ) (step node : ℕ) (fits t : Bool) (s : t ≡ place_test corridor demands step node fits) (a : Answer) (e : a ≡ sized t) where
  pub place_sized : Refuses a → a ≡ place_answer corridor demands words step node fits
  unfolding place_answer
  place_sized r = also_sized corridor demands words _ t s a e r

  pub place_checks : (b : Answer) → a ≡ Accepted → b ≡ check_answer corridor demands words → b ≡ place_answer corridor demands words step node fits
  unfolding place_answer
  place_checks b g q = also_checks corridor demands words _ t s a e b g q

-- what an accepted call leaves for the search
pub record Asked (corridor demands words : List ℕ) (step node : ℕ) : Type 0 where
  pub ready : Ready (width_of corridor demands (length words)) corridor demands words (links_of corridor) (steps_of demands)
  pub accepted : judged (width_of corridor demands (length words)) (road_of corridor demands) words ≡ Accepted
  pub early : step < steps_of demands
  pub here : node ≤ links_of corridor

pub place_asks : (corridor demands words : List ℕ) (step node : ℕ) (fits : Bool) (a : Answer) → a ≡ place_answer corridor demands words step node fits → a ≡ Accepted
    → Asked corridor demands words step node × (fits ≡ true)
unfolding place_answer
place_asks corridor demands words step node fits a e g =
    let (k, j, l) = also_kept corridor demands words _ (sym e ∙ g) in
    let (early, rest) = (and_iff (ltb step (steps_of demands)) _).0 l in
    let (here, room) = (and_iff (leb node (links_of corridor)) fits).0 rest in
    (record { ready = k; accepted = j; early = ltb-true step (steps_of demands) early; here = leb-true node (links_of corridor) here }, room)

-- ---- the rows of step k, as the lists' views give them

module _ (width : ℕ) (corridor demands words : List ℕ) (links steps : ℕ) (ready : Ready width corridor demands words links steps)
    (accepted : judged width (road_of corridor demands) words ≡ Accepted) (k l m w : ℕ) (demand row : List ℕ)
    (a : l ≡ links) (b : m ≡ links) (e : w ≡ width) (hk : k < steps)
    (d : demand ≡ lent (1 + k * (suc l * 2)) (suc l * 2) demands) (t : row ≡ lent (k * (suc m * width)) (suc m * width) words) where
  pub place_rows : RowsKept w corridor demand row links
  place_rows =
      (plan_row_kept width corridor demands words links steps ready k demand row
      (demand_viewed width corridor demands words links steps ready k l demand a hk d)
      (record_viewed width corridor demands words links steps ready k k m row b (omega arith) t) hk accepted w e).0

  pub place_told : (downstream i : ℕ) → downstream ≡ downstream_word demands l steps k → i ≤ links → (x : junctions.Junction) (f : flows.Flows)
      → junction_of x ≡ junction (step_road corridor demand downstream) 0 (state_in w row) i → flows_of f ≡ flows_in w row i
      → PlaceAt width corridor demands words k i (record { junction = x; flows = f })
  place_told downstream i q h x f j s =
      let n : links ≡ links_of corridor = ready.corridor_fits.first in
      let hi : i ≤ links_of corridor = omega arith in
      let says = (demand_viewed width corridor demands words links steps ready k l demand a hk d).0 in
      let holds = (record_viewed width corridor demands words links steps ready k k m row b (omega arith) t).0 in
      record {
        junction =
            j
            ∙ ap (λ (v : ℕ). junction (step_road corridor demand downstream) 0 (state_in v row) i) e
            ∙ row_junction width corridor demands words links steps ready k demand row says holds downstream
            (q ∙ ap (λ (v : ℕ). downstream_word demands v steps k) a) i hi;
        flows = s ∙ ap (λ (v : ℕ). flows_in v row i) e ∙ holds.flows i hi;
        split = split_kept w corridor demand row links place_rows downstream i h x j;
      }

-- a place in lists that are the same
pub place_same : (width w : ℕ) (corridor c demands d words l : List ℕ) (step node : ℕ) (here : Place) → width ≡ w → corridor ≡ c → demands ≡ d → words ≡ l
    → PlaceAt width corridor demands words step node here → PlaceAt w c d l step node here
place_same width w corridor c demands d words l step node here e p q r h =
    subst₂ (λ (x y : List ℕ). PlaceAt w c x y step node here) q r (subst₂ (λ (n : ℕ) (x : List ℕ). PlaceAt n x demands words step node here) e p h)
