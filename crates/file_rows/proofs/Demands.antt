-- The demands' file: how many words it has in either kind, and the flow that may leave link N, read where it stands.
use Prim.Native.Nat.{ℕ, ◌+◌, ◌*◌, ◌≤◌, ◌<◌}
use mathlib.Core.Bool.{Bool, true, false, cond}
use mathlib.Core.List.{List}
use mathlib.Core.Logic.{inl, inr}
use mathlib.Core.Path.{◌≡◌, refl, sym, ap, ◌∙◌}
use native.Mathlib.Numerals.{add-one}
use native.Mathlib.Omega.{arith}
use lib.Dec.{eqb}
use lib.ListN.{get_or}
use Rattle.tables.proofs.Tabulate.{tabulate_at, tabulate_past}
use Rattle.lists.specs.Words.{demands_length, downstream_length, free}
use Rattle.lengths.proofs.Sizes.{DemandsSized}
use Rattle.payload.specs.File.{payload_word}
use Rattle.block.specs.declared.Kind.TheVariants.{Demands, DemandsDownstream}
use Rattle.block.specs.Kinds.{list_length, own_agrees, later, says_later, file_kind}
use Rattle.block.proofs.Chosen.{of_either}
use Rattle.file_rows.specs.Words.{demands_count, demands_in}
use Rattle.file_rows.specs.Rows.{downstream_in}

pub count_sized : (links steps : ℕ) (file : List ℕ) → DemandsSized links steps (demands_count links steps file)
unfolding list_length later
count_sized links steps file = of_either (λ kind. DemandsSized links steps (list_length kind links steps)) Demands file (inr refl) (inl refl)

pub count_low : (links steps : ℕ) (file : List ℕ) → demands_length links steps ≤ demands_count links steps file
unfolding list_length later
count_low links steps file = of_either (λ kind. demands_length links steps ≤ list_length kind links steps) Demands file (omega arith) (omega arith)

pub demands_own : (n k : ℕ) (file : List ℕ) → own_agrees (file_kind Demands file) n k (payload_word file 0) ≡ eqb (payload_word file 0) k
unfolding own_agrees later
demands_own n k file = of_either (λ kind. own_agrees kind n k (payload_word file 0) ≡ eqb (payload_word file 0) k) Demands file refl refl

-- ---- the flow that may leave link N: `has` is whether the file has it, and `rows` how many words its rows have, as the code has them

module _ (links steps k : ℕ) (file : List ℕ) (has : Bool) (e : has ≡ says_later Demands file) where
  count_is : demands_count links steps file ≡ list_length (cond has DemandsDownstream Demands) links steps
  unfolding file_kind later
  count_is = ap (λ (t : Bool). list_length (cond t DemandsDownstream Demands) links steps) (sym e)

  module _ (long : has ≡ true) (rows : ℕ) (r : rows ≡ steps * ((links + 1) * 2)) where
    count_long : demands_count links steps file ≡ downstream_length links steps
    unfolding list_length
    count_long = count_is ∙ ap (λ (t : Bool). list_length (cond t DemandsDownstream Demands) links steps) long

    at_is : 1 + rows ≡ demands_length links steps
    at_is = ap (λ (n : ℕ). 1 + n) (r ∙ ap (λ (n : ℕ). steps * (n * 2)) (add-one links))

    pub downstream_ends : demands_count links steps file ≡ 1 + rows + steps
    downstream_ends = omega (arith, count_long, at_is)

    pub downstream_read : k < steps → (x : ℕ) → x ≡ payload_word file (1 + rows + k) → x ≡ downstream_in links steps file k
    downstream_read h x word =
        word
        ∙ sym (tabulate_at (demands_count links steps file) (payload_word file) (1 + rows + k) free (omega (arith, count_long, at_is)))
        ∙ ap (λ (n : ℕ). get_or (demands_in links steps file) (n + k) free) at_is

  pub downstream_none : has ≡ false → 65536 ≡ downstream_in links steps file k
  unfolding list_length
  downstream_none short =
      let count : demands_count links steps file ≡ demands_length links steps =
      count_is ∙ ap (λ (t : Bool). list_length (cond t DemandsDownstream Demands) links steps) short in
      sym (tabulate_past (demands_count links steps file) (payload_word file) (demands_length links steps + k) free (omega arith))
