-- "The corridor is also taken as a list of nodes, one record each, with the same answers": the contract of each call on nodes is, for every answer and every
-- lent list at exit, the contract of its list version at the words of the nodes.
use mathlib.Core.Path.{◌≡◌, sym, ap, ap₂}
use mathlib.Core.List.{List}
use Prim.Native.Nat.{ℕ}
use lib.ListN.{length}
use seplogic.Ra.Ura.{Ura}
use base.Logic.{SProp, sep}
use prog.Memory.{Memory}
use prog.Routine.{Routine}
use types.Logic.{Logic}
use contract.Monad.{Fun, fact}
use contract.Lifetimes.{Lfts}
use denote.Ref.{Bor}
use denote.MutBor.{MutBor}
use denote.Triple.Clauses.{AtExit}
use Rattle.std.specs.Prelude.{Result}
use Rattle.tables.specs.declared.Refusal.{Refusal}
use Rattle.tables.specs.Answer.{answer_of}
use Rattle.simulate.specs.Simulate.{simulate_answer, record_left}
use Rattle.convert.specs.Convert.{check_answer, convert_answer, normal_answer, plan_left, work_left, normal_left}
use Rattle.nodes.specs.declared.Node.{Node}
use Rattle.nodes.specs.Nodes.{corridor_words}
use Rattle.simulate.specs.contracts.simulate as simulate
use Rattle.convert.specs.contracts.check as check
use Rattle.convert.specs.contracts.convert as convert
use Rattle.convert.specs.contracts.normal_form as normal_form
use Rattle.nodes.specs.contracts.simulate_nodes as simulate_nodes
use Rattle.nodes.specs.contracts.check_nodes as check_nodes
use Rattle.nodes.specs.contracts.convert_nodes as convert_nodes
use Rattle.nodes.specs.contracts.normal_form_nodes as normal_form_nodes

module _ {M : Type 1} {𝓤 : Ura M} (𝓛 : Logic 𝓤) (mem : Memory → SProp 𝓤) (run : Routine → Fun 𝓤) where
  -- `corridor` is a list that holds the words of the nodes; r is any answer; e and f are the parameters at exit, alike but for the corridor
  pub record NodesAsLists (nodes : Bor (List Node)) (corridor : Bor (List ℕ)) : Type 2 where
    pub simulate : (κs : Lfts 4) (demands plan : Bor (List ℕ)) (lent : MutBor (List ℕ)) (r : Result (Unit {0}) Refusal) (e : AtExit simulate_nodes.ended κs) (f : AtExit simulate.ended κs) → e.1 ≡ f.1
        → (simulate_nodes.clauses 𝓛 mem run κs (nodes, (demands, (plan, (lent, tt))))).ensures tt r e ≡ (simulate.clauses 𝓛 mem run κs (corridor, (demands, (plan, (lent, tt))))).ensures tt r f
    pub check : (κs : Lfts 3) (demands proposed : Bor (List ℕ)) (r : Result (Unit {0}) Refusal) (e : AtExit check_nodes.ended κs) (f : AtExit check.ended κs)
        → (check_nodes.clauses 𝓛 mem run κs (nodes, (demands, (proposed, tt)))).ensures tt r e ≡ (check.clauses 𝓛 mem run κs (corridor, (demands, (proposed, tt)))).ensures tt r f
    pub convert : (κs : Lfts 4) (demands proposed : Bor (List ℕ)) (lent : MutBor (List ℕ)) (r : Result (Unit {0}) Refusal) (e : AtExit convert_nodes.ended κs) (f : AtExit convert.ended κs) → e.1 ≡ f.1
        → (convert_nodes.clauses 𝓛 mem run κs (nodes, (demands, (proposed, (lent, tt))))).ensures tt r e ≡ (convert.clauses 𝓛 mem run κs (corridor, (demands, (proposed, (lent, tt))))).ensures tt r f
    pub normal_form : (κs : Lfts 5) (demands plan : Bor (List ℕ)) (work lent : MutBor (List ℕ)) (r : Result (Unit {0}) Refusal) (e : AtExit normal_form_nodes.ended κs) (f : AtExit normal_form.ended κs) → e.1 ≡ f.1
        → (normal_form_nodes.clauses 𝓛 mem run κs (nodes, (demands, (plan, (work, (lent, tt)))))).ensures tt r e
        ≡ (normal_form.clauses 𝓛 mem run κs (corridor, (demands, (plan, (work, (lent, tt)))))).ensures tt r f

  pub nodes_as_lists : (nodes : Bor (List Node)) (corridor : Bor (List ℕ)) → corridor.now ≡ corridor_words nodes.now → NodesAsLists nodes corridor
  nodes_as_lists nodes corridor words =
      record {
        simulate = λ κs demands plan lent r e f same.
            ap₂ (λ (c left : List ℕ). sep 𝓤 (fact 𝓤 (answer_of r ≡ simulate_answer c demands.now plan.now (length lent.now))) (fact 𝓤 (left ≡ record_left c demands.now plan.now lent.now)))
            (sym words)
            (ap (λ x. x.1.1.0.now) same);
        check = λ κs demands proposed r e f. ap (λ (c : List ℕ). fact 𝓤 (answer_of r ≡ check_answer c demands.now proposed.now)) (sym words);
        convert = λ κs demands proposed lent r e f same.
            ap₂ (λ (c left : List ℕ). sep 𝓤 (fact 𝓤 (answer_of r ≡ convert_answer c demands.now proposed.now (length lent.now))) (fact 𝓤 (left ≡ plan_left c demands.now proposed.now lent.now)))
            (sym words)
            (ap (λ x. x.1.1.0.now) same);
        normal_form = λ κs demands plan work lent r e f same.
            ap₂ (λ (c : List ℕ) (left : List ℕ × List ℕ).
            sep 𝓤 (fact 𝓤 (answer_of r ≡ normal_answer c demands.now plan.now (length work.now) (length lent.now)))
            (sep 𝓤 (fact 𝓤 (left.0 ≡ work_left c demands.now plan.now work.now (length lent.now)))
            (fact 𝓤 (left.1 ≡ normal_left c demands.now plan.now (length work.now) lent.now))))
            (sym words)
            (ap (λ x. (x.1.1.0.now, x.1.1.1.0.now)) same);
      }
