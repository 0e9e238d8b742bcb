-- The plan file: its rows are those of the converter's plan, put one by one and then sealed.
use Prim.Native.Nat.{ℕ, suc, ◌+◌, ◌-◌, ◌*◌, ◌<◌, ◌≤◌}
use mathlib.Core.List.{List}
use mathlib.Core.Path.{◌≡◌, refl, sym, ap, ap₂, subst, ◌∙◌}
use native.Mathlib.Omega.{arith}
use borrow.Rule.Slice.PartMut.{put_mid}
use lib.ListN.{length, take, drop}
use Rattle.tables.proofs.Grid.{row_words_length}
use Rattle.tables.proofs.Numbers.{row_fits_lem}
use Rattle.tables.proofs.Tabulate.{tabulate_length}
use Rattle.lists.specs.Words.{Width, plan_length}
use Rattle.convert.specs.Convert.{converted_by}
use Rattle.convert_rows.specs.Rows.{plan_row, setting_word}
use Rattle.convert.specs.Rows.{Ready}
use Rattle.convert.proofs.Settings.{PlanRows, plan_begun, plan_more, plan_ended}
use Rattle.payload.specs.File.{blocks_for, payload_word, payload_of, put_payload, file_of}
use Rattle.payload.specs.Word.{Words}
use Rattle.payload.proofs.Payloads.{payload_put, put_length_same}
use Rattle.block.specs.declared.Kind.TheVariants.{Plan}
use Rattle.block.specs.Kinds.{kind_number, list_length}
use Rattle.file_rows.specs.Words.{corridor_in, demands_in, file_width, record_in}
use Rattle.files.specs.Files.{plan_file}
use Rattle.file_rows.specs.Rows.{Holds, downstream_in}
use Rattle.files.specs.Fits.{FilesFit, plan_row_in}
use Rattle.file_scans.proofs.Rows.{demand_part, state_part}
use Rattle.files.proofs.Contents.{read_width}

-- ---- as a loop's invariant: the first k rows stand in the file

pub record PlanPut (width : ℕ) (corridor demands recorded : List ℕ) (links steps k : ℕ) (lent file : List ℕ) : Type 0 where
  pub rows : PlanRows width corridor (demands_in links steps demands) (record_in width links steps recorded) links steps k
      (payload_of (plan_length links steps) lent) (payload_of (plan_length links steps) file)
  pub holds : Holds (plan_length links steps) file

pub put_begun : (width : ℕ) (corridor demands recorded : List ℕ) (links steps : ℕ) (lent : List ℕ) → Holds (plan_length links steps) lent
    → PlanPut width corridor demands recorded links steps 0 lent lent
put_begun width corridor demands recorded links steps lent h =
    record { rows = plan_begun width corridor _ _ links steps _ (tabulate_length (plan_length links steps) (payload_word lent)); holds = h }

-- the plan's row of step k, in the words of the lists
row_read : (width : ℕ) → Width width → (corridor demands recorded : List ℕ) (links steps k : ℕ) → k < steps
    → plan_row_in width corridor links steps demands recorded k
    ≡ plan_row width corridor links
    (take (1 + k * ((links + 1) * 2) + (links + 1) * 2 - (1 + k * ((links + 1) * 2))) (drop (1 + k * ((links + 1) * 2)) (demands_in links steps demands)))
    (downstream_in links steps demands k)
    (take (k * (suc links * width) + suc links * width - k * (suc links * width)) (drop (k * (suc links * width)) (record_in width links steps recorded)))
row_read width wide corridor demands recorded links steps k h =
    ap₂ (λ (x y : List ℕ). plan_row width corridor links x (downstream_in links steps demands k) y) (demand_part links steps k demands _ refl h)
    (state_part width wide links steps recorded k _ refl (omega arith))

row_count : (width : ℕ) (corridor demand : List ℕ) (downstream : ℕ) (row : List ℕ) (links : ℕ)
    → length (plan_row width corridor links demand downstream row) ≡ (links + 1) * 2
unfolding plan_row
row_count width corridor demand downstream row links =
    let e : length (plan_row width corridor links demand downstream row) ≡ suc links * 2 =
    row_words_length 2 (suc links) (setting_word width corridor demand downstream row) in
    omega arith

-- ---- one more row

module _ (width : ℕ) (corridor demands recorded : List ℕ) (links steps : ℕ)
    (ready : Ready width corridor (demands_in links steps demands) (record_in width links steps recorded) links steps) where
  pub put_more : (k : ℕ) (lent file file' : List ℕ) → PlanPut width corridor demands recorded links steps k lent file → k < steps
      → file' ≡ put_payload file (k * ((links + 1) * 2)) (plan_row_in width corridor links steps demands recorded k)
      → Words (plan_row_in width corridor links steps demands recorded k)
      → PlanPut width corridor demands recorded links steps (k + 1) lent file'
  put_more k lent file file' p h e w =
      let m : ℕ = plan_length links steps in
      let r : ℕ = k * ((links + 1) * 2) in
      let ys : List ℕ = plan_row_in width corridor links steps demands recorded k in
      let n : length (plan_row_in width corridor links steps demands recorded k) ≡ (links + 1) * 2 = row_count width corridor _ _ _ links in
      let put : payload_of m file' ≡ put_mid r (r + (links + 1) * 2 - r) (payload_of m file) ys =
      ap (payload_of m) e
      ∙ payload_put m r file ys w (omega (arith, row_fits_lem k steps ((links + 1) * 2) h)) (omega (arith, p.holds))
      ∙ ap (λ (x : ℕ). put_mid r (r + x - r) (payload_of m file) ys) n in
      record {
        rows =
            subst (λ (x : List ℕ). PlanRows width corridor (demands_in links steps demands) (record_in width links steps recorded) links steps (k + 1)
            (payload_of m lent) x) (sym put)
            (plan_more width corridor _ _ links steps ready k r (k * (suc links * width)) (suc links * width) (downstream_in links steps demands k) _ _ ys
            p.rows h refl refl refl refl (row_read width ready.wide corridor demands recorded links steps k h));
        holds = ap length e ∙ put_length_same file r ys ∙ p.holds;
      }

  pub put_ended : (k : ℕ) (lent file : List ℕ) → PlanPut width corridor demands recorded links steps k lent file → steps ≤ k
      → payload_of (plan_length links steps) file ≡ converted_by width corridor (demands_in links steps demands) (record_in width links steps recorded)
  put_ended k lent file p h = plan_ended width corridor _ _ links steps ready k _ _ p.rows h

-- ---- sealed: m is the plan's length, and kind the number of a plan, as the code has them

-- l and s are N and K as the proposal has them
pub seal_fits : (links steps l s m room : ℕ) → l ≡ links → s ≡ steps → room ≡ blocks_for (plan_length l s) * 512 → m ≡ list_length Plan links steps
    → room ≡ blocks_for m * 512
unfolding list_length
seal_fits links steps l s m room n k h q = h ∙ ap (λ (x : ℕ). blocks_for x * 512) (ap₂ plan_length n k ∙ sym q)

pub plan_sealed : (links steps : ℕ) (corridor demands recorded : List ℕ) → FilesFit links steps corridor demands recorded
    → (kind m : ℕ) (file sealed : List ℕ) → kind ≡ kind_number Plan → m ≡ list_length Plan links steps
    → payload_of (plan_length links steps) file
    ≡ converted_by (file_width recorded) (corridor_in links corridor) (demands_in links steps demands) (record_in (file_width recorded) links steps recorded)
    → sealed ≡ file_of kind (payload_of m file) → sealed ≡ plan_file links steps corridor demands recorded
unfolding plan_file list_length
plan_sealed links steps corridor demands recorded fit kind m file sealed v q e s =
    s
    ∙ ap₂ (λ (k n : ℕ). file_of k (payload_of n file)) v q
    ∙ ap (file_of (kind_number Plan)) e
    ∙ ap (λ (x : ℕ). file_of (kind_number Plan) (converted_by x (corridor_in links corridor) (demands_in links steps demands)
    (record_in (file_width recorded) links steps recorded))) (sym (read_width links steps corridor demands recorded fit))
