-- Between states 0 and K zero is fixed at nodes 0 and N alone, so that a look at these two finds what a look at all finds.
use Prim.Native.Nat.{ℕ, zero, suc, ◌≤◌, ◌<◌}
use mathlib.Core.List.{List}
use mathlib.Core.Path.{◌≡◌, refl, sym, ap, ap₂, ◌∙◌}
use native.Mathlib.Omega.{arith}
use Rattle.tables.specs.Answer.{Answer}
use Rattle.tables.specs.Answer.{Accepted}
use Rattle.tables.specs.Answer.{or_else, refusal}
use Rattle.tables.specs.First.{first, first_node}
use Rattle.tables.proofs.Answers.{Refuses, or_else_right, or_else_stop, or_else_next}
use Rattle.record_faults.proofs.Records.{fixed_iff}
use Rattle.convert_rows.specs.Rows.{bare_road, fixed_fault_in}

module _ (k : ℕ) (fault : ℕ → ℕ) where
  first_alone : (n : ℕ) → ((i : ℕ) → 0 < i → i ≤ n → fault i ≡ 0) → first_node (suc n) k fault ≡ refusal (fault 0) k 0
  unfolding first
  first_alone zero h = refl
  first_alone (suc n) h =
      ap₂ or_else (first_alone n (λ i a b. h i a (omega arith))) (ap (λ (x : ℕ). refusal x k (suc n)) (h (suc n) (omega arith) (omega arith)))
      ∙ or_else_right (refusal (fault 0) k 0)

  first_ends : (n : ℕ) → ((i : ℕ) → 0 < i → i < n → fault i ≡ 0) → first_node (suc n) k fault ≡ or_else (refusal (fault 0) k 0) (refusal (fault n) k n)
  unfolding first
  first_ends zero h = by (fault 0)
    where
      by : (x : ℕ) → refusal x k 0 ≡ or_else (refusal x k 0) (refusal x k 0)
      by zero = refl
      by (suc x) = refl
  first_ends (suc n) h = ap (λ (a : Answer). or_else a (refusal (fault (suc n)) k (suc n))) (first_alone n (λ i a b. h i a (omega arith)))

-- a is the answer at node 0 and b that at node N, as calls gave them
module _ (width : ℕ) (corridor : List ℕ) (links steps k : ℕ) (row : List ℕ) (begun : 0 < k) (going : k < steps) where
  between : (i : ℕ) → 0 < i → i < links → fixed_fault_in width corridor links steps k row i ≡ 0
  unfolding bare_road
  between i a b =
      (fixed_iff _ k i _ _ _).1 (
        record {
          first = λ e. absurd (omega arith);
          last = λ e. absurd (omega arith);
          entry_vehicles = λ e. absurd (omega arith);
          entry_main = λ e. absurd (omega arith);
          exit_queue = λ e. absurd (omega arith);
          exit_ramp = λ e. absurd (omega arith);
        },
        record { last = λ e. absurd (omega arith); entry = λ e. absurd (omega arith); end = λ e. absurd (omega arith) },
      )

  module _ (a : Answer) (e : a ≡ refusal (fixed_fault_in width corridor links steps k row 0) k 0) where
    pub ends_stop : Refuses a → a ≡ first_node (suc links) k (fixed_fault_in width corridor links steps k row)
    ends_stop r = or_else_stop a _ _ e r ∙ sym (first_ends k (fixed_fault_in width corridor links steps k row) links between)

    pub ends_ended : (b : Answer) → a ≡ Accepted → b ≡ refusal (fixed_fault_in width corridor links steps k row links) k links
        → b ≡ first_node (suc links) k (fixed_fault_in width corridor links steps k row)
    ends_ended b h o = or_else_next a b _ _ e h o ∙ sym (first_ends k (fixed_fault_in width corridor links steps k row) links between)
