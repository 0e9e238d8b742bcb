-- Rows unpacked out of the files: where they lie, and their lengths.
use Prim.Native.Nat.{ℕ, suc, ◌+◌, ◌*◌, ◌≤◌}
use mathlib.Core.List.{List}
use mathlib.Core.Path.{◌≡◌, ap, ◌∙◌}
use native.Mathlib.Numerals.{add-one}
use native.Mathlib.Omega.{arith}
use lib.ListN.{length}
use Rattle.tables.proofs.Tabulate.{tabulate_length}
use Rattle.lists.specs.Fits.{RowFits}
use Rattle.payload.specs.File.{blocks_for}
use Rattle.file_rows.specs.Words.{demands_count}
use Rattle.file_rows.specs.Rows.{Holds, demand_row_in, state_row_in}
use Rattle.file_rows.proofs.Demands.{count_low}

-- ---- the lengths of rows

pub demand_length : (links k : ℕ) (file row : List ℕ) → row ≡ demand_row_in links file k → RowFits 2 row links
demand_length links k file row told = ap length told ∙ tabulate_length ((links + 1) * 2) _ ∙ ap (λ (n : ℕ). n * 2) (add-one links)

pub state_length : (width links k : ℕ) (file row : List ℕ) → row ≡ state_row_in width links file k → RowFits width row links
state_length width links k file row told = ap length told ∙ tabulate_length (suc links * width) _

-- a row of the demands that begins one word past `at` lies in the file
pub demand_holds : (links steps at count : ℕ) (file : List ℕ) → at + (links + 1) * 2 ≤ steps * ((links + 1) * 2) → Holds (demands_count links steps file) file
    → count ≡ (links + 1) * 2 → blocks_for (1 + at + count) * 512 ≤ length file
demand_holds links steps at count file h e c = omega (arith, count_low links steps file, ap (λ (n : ℕ). steps * (n * 2)) (add-one links))
