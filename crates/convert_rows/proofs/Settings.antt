-- Laws of the loop that writes a row of the converter's plan, node by node.
use Prim.Native.Nat.{ℕ, ◌+◌, ◌*◌, ◌≤◌, ◌<◌}
use mathlib.Core.List.{List}
use mathlib.Core.Path.{◌≡◌, refl, sym, ap, ap₂, subst, ◌∙◌}
use native.Mathlib.Numerals.{add-one}
use lib.ListN.{set}
use Rattle.tables.specs.Grid.{row_words}
use Rattle.tables.proofs.Grid.{Placed, placed_two, placed_ended}
use Rattle.road.specs.declared.Link as declared
use Rattle.road.specs.Corridor.{Link}
use Rattle.road.specs.Values.{link_of}
use Rattle.settings.specs.declared.Setting.{Setting}
use Rattle.settings.specs.Setting.{rate_in, limit_in}
use Rattle.lists.specs.Words.{node_at}
use Rattle.convert_rows.specs.Rows.{setting_in, setting_word, plan_row}

-- one more node's words are stored: s is its setting and l its link, as calls gave them
pub setting_more : (width : ℕ) (corridor demand : List ℕ) (downstream : ℕ) (row : List ℕ) (i links : ℕ) (d out out' : List ℕ) (s : Setting) (l : declared.Link)
    → Placed 2 i (links + 1) (setting_word width corridor demand downstream row) d out → i < links + 1 → s ≡ setting_in width corridor demand downstream row i → link_of l ≡ (node_at corridor i).link
    → out' ≡ set (set out (i * 2) (rate_in s)) (i * 2 + 1) (limit_in l.full_speed.0 s) → Placed 2 (i + 1) (links + 1) (setting_word width corridor demand downstream row) d out'
unfolding setting_word
setting_more width corridor demand downstream row i links d out out' s l p h e q o =
    subst (λ (x : List ℕ). Placed 2 (i + 1) (links + 1) (setting_word width corridor demand downstream row) d x) (sym o)
    (placed_two i (links + 1) (setting_word width corridor demand downstream row) d out (i * 2) (rate_in s) (limit_in l.full_speed.0 s) p h refl
    (ap rate_in e) (ap₂ limit_in (ap (λ (x : Link). x.full_speed) q) e))

pub settings_ended : (width : ℕ) (corridor demand : List ℕ) (downstream : ℕ) (row : List ℕ) (i links : ℕ) (d out : List ℕ) → Placed 2 i (links + 1) (setting_word width corridor demand downstream row) d out → links + 1 ≤ i
    → out ≡ plan_row width corridor links demand downstream row
unfolding plan_row
settings_ended width corridor demand downstream row i links d out p h =
    placed_ended 2 i (links + 1) (setting_word width corridor demand downstream row) d out p h ∙ ap (λ (n : ℕ). row_words 2 n (setting_word width corridor demand downstream row)) (add-one links)
