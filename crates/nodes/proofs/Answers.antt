-- A number of nodes that no corridor has is refused by 1; so the words that are given on and the words of the nodes have the same answers and
-- the same lent lists.
use mathlib.Core.Path.{◌≡◌, refl, sym, ap, ◌∙◌}
use mathlib.Core.Bool.{Bool, true, false}
use mathlib.Core.Logic.{◌⊎◌, inl, inr, ⊎_elim}
use mathlib.Core.List.{List, []}
use Prim.Native.Nat.{ℕ, ◌<◌}
use native.Mathlib.Omega.{arith}
use lib.ListN.{length}
use Rattle.tables.specs.Answer.{Refused}
use Rattle.lists.specs.Words.{links_of}
use Rattle.lengths.specs.Lengths.{sizes}
use Rattle.lengths.proofs.Sizes.{sizes_iff}
use Rattle.simulate.specs.Simulate.{simulate_sizes, simulate_answer, record_left}
use Rattle.convert.specs.Convert.{check_answer, convert_answer, normal_refusal, normal_answer, plan_left, work_left, normal_left}
use Rattle.nodes.specs.declared.Node.{Node}
use Rattle.nodes.specs.Nodes.{corridor_words, words_taken}
use Rattle.nodes.proofs.Counts.{none_or_all}
use Rattle.nodes.proofs.Words.{words_links, taken_whole, taken_none}

not_true : (b : Bool) → (b ≡ true → ⊥) → b ≡ false
not_true true h = absurd (h refl)
not_true false h = refl

-- with N out of range the lengths are wrong
links_fail : (corridor demands : List ℕ) → (links_of corridor < 1) ⊎ (64 < links_of corridor) → sizes corridor demands ≡ false
links_fail corridor demands out =
    not_true (sizes corridor demands)
    (λ e.
    let s = (sizes_iff corridor demands).0 e in
    ⊎_elim (λ (h : links_of corridor < 1). absurd (omega (arith, s.links))) (λ (h : 64 < links_of corridor). absurd (omega (arith, s.links))) out)

none_fail : (demands : List ℕ) → sizes [] demands ≡ false
unfolding links_of
none_fail demands = links_fail [] demands (inl (omega arith))

nodes_fail : (nodes : List Node) (demands : List ℕ) → (length nodes < 2) ⊎ (65 < length nodes) → sizes (corridor_words nodes) demands ≡ false
nodes_fail nodes demands out =
    let e = words_links nodes in
    links_fail (corridor_words nodes) demands
    (⊎_elim (λ (h : length nodes < 2). inl (omega (arith, e))) (λ (h : 65 < length nodes). inr (omega (arith, e))) out)

-- ---- wrong lengths: each answer, and each lent list as it was

module _ (corridor demands : List ℕ) (e : sizes corridor demands ≡ false) where
  simulate_one : (plan : List ℕ) (room : ℕ) → simulate_answer corridor demands plan room ≡ Refused 1 0 0
  unfolding simulate_answer simulate_sizes
  simulate_one plan room = rw e refl

  record_kept : (plan lent : List ℕ) → record_left corridor demands plan lent ≡ lent
  unfolding record_left
  record_kept plan lent = rw (simulate_one plan (length lent)) refl

  check_one : (words : List ℕ) → check_answer corridor demands words ≡ Refused 1 0 0
  unfolding check_answer
  check_one words = rw e refl

  convert_one : (words : List ℕ) (room : ℕ) → convert_answer corridor demands words room ≡ Refused 1 0 0
  unfolding convert_answer
  convert_one words room = rw e refl

  plan_kept : (words lent : List ℕ) → plan_left corridor demands words lent ≡ lent
  unfolding plan_left
  plan_kept words lent = rw (convert_one words (length lent)) refl

  refusal_one : (plan : List ℕ) (work room : ℕ) → normal_refusal corridor demands plan work room ≡ Refused 1 0 0
  unfolding normal_refusal
  refusal_one plan work room = rw e refl

  work_kept : (plan lent : List ℕ) (room : ℕ) → work_left corridor demands plan lent room ≡ lent
  unfolding work_left
  work_kept plan lent room = rw (refusal_one plan (length lent) room) refl

  normal_one : (plan : List ℕ) (work room : ℕ) → normal_answer corridor demands plan work room ≡ Refused 1 0 0
  unfolding normal_answer normal_refusal
  normal_one plan work room = rw e refl

  normal_kept : (plan : List ℕ) (work : ℕ) (lent : List ℕ) → normal_left corridor demands plan work lent ≡ lent
  unfolding normal_left
  normal_kept plan work lent = rw (normal_one plan work (length lent)) refl

-- a length outside 2..65 is refused by 1, whatever the other lists are
module _ (nodes : List Node) (out : (length nodes < 2) ⊎ (65 < length nodes)) (demands : List ℕ) where
  pub simulate_refuses : (plan : List ℕ) (room : ℕ) → simulate_answer (corridor_words nodes) demands plan room ≡ Refused 1 0 0
  simulate_refuses = simulate_one (corridor_words nodes) demands (nodes_fail nodes demands out)

  pub check_refuses : (words : List ℕ) → check_answer (corridor_words nodes) demands words ≡ Refused 1 0 0
  check_refuses = check_one (corridor_words nodes) demands (nodes_fail nodes demands out)

  pub convert_refuses : (words : List ℕ) (room : ℕ) → convert_answer (corridor_words nodes) demands words room ≡ Refused 1 0 0
  convert_refuses = convert_one (corridor_words nodes) demands (nodes_fail nodes demands out)

  pub normal_refuses : (plan : List ℕ) (work room : ℕ) → normal_answer (corridor_words nodes) demands plan work room ≡ Refused 1 0 0
  normal_refuses = normal_one (corridor_words nodes) demands (nodes_fail nodes demands out)

-- ---- the words that are given on

-- what is the same for every corridor that is refused by 1 is the same for both
same : {X : Type 0} (F : List ℕ → X) (refused : X) (demands : List ℕ) → ((corridor : List ℕ) → sizes corridor demands ≡ false → F corridor ≡ refused)
    → (nodes : List Node) → F (words_taken nodes) ≡ F (corridor_words nodes)
same F refused demands h nodes =
    ⊎_elim
    (λ none. ap F (taken_none nodes none) ∙ h [] (none_fail demands) ∙ sym (h (corridor_words nodes) (nodes_fail nodes demands none)))
    (λ whole. ap F (taken_whole nodes whole.0 whole.1))
    (none_or_all (length nodes))

module _ (nodes : List Node) (demands : List ℕ) where
  pub simulate_answer_lem : (plan : List ℕ) (room : ℕ) → simulate_answer (words_taken nodes) demands plan room ≡ simulate_answer (corridor_words nodes) demands plan room
  simulate_answer_lem plan room = same (λ c. simulate_answer c demands plan room) (Refused 1 0 0) demands (λ c e. simulate_one c demands e plan room) nodes

  pub simulate_written : (plan lent : List ℕ) → record_left (words_taken nodes) demands plan lent ≡ record_left (corridor_words nodes) demands plan lent
  simulate_written plan lent = same (λ c. record_left c demands plan lent) lent demands (λ c e. record_kept c demands e plan lent) nodes

  pub check_answer_lem : (words : List ℕ) → check_answer (words_taken nodes) demands words ≡ check_answer (corridor_words nodes) demands words
  check_answer_lem words = same (λ c. check_answer c demands words) (Refused 1 0 0) demands (λ c e. check_one c demands e words) nodes

  pub convert_answer_lem : (words : List ℕ) (room : ℕ) → convert_answer (words_taken nodes) demands words room ≡ convert_answer (corridor_words nodes) demands words room
  convert_answer_lem words room = same (λ c. convert_answer c demands words room) (Refused 1 0 0) demands (λ c e. convert_one c demands e words room) nodes

  pub convert_written : (words lent : List ℕ) → plan_left (words_taken nodes) demands words lent ≡ plan_left (corridor_words nodes) demands words lent
  convert_written words lent = same (λ c. plan_left c demands words lent) lent demands (λ c e. plan_kept c demands e words lent) nodes

  pub normal_answer_lem : (plan : List ℕ) (work room : ℕ) → normal_answer (words_taken nodes) demands plan work room ≡ normal_answer (corridor_words nodes) demands plan work room
  normal_answer_lem plan work room = same (λ c. normal_answer c demands plan work room) (Refused 1 0 0) demands (λ c e. normal_one c demands e plan work room) nodes

  pub normal_worked : (plan lent : List ℕ) (room : ℕ) → work_left (words_taken nodes) demands plan lent room ≡ work_left (corridor_words nodes) demands plan lent room
  normal_worked plan lent room = same (λ c. work_left c demands plan lent room) lent demands (λ c e. work_kept c demands e plan lent room) nodes

  pub normal_written : (plan : List ℕ) (work : ℕ) (lent : List ℕ) → normal_left (words_taken nodes) demands plan work lent ≡ normal_left (corridor_words nodes) demands plan work lent
  normal_written plan work lent = same (λ c. normal_left c demands plan work lent) lent demands (λ c e. normal_kept c demands e plan work lent) nodes
