-- Laws of the flow that may leave link N, as the code reads it: the word for it after the rows, or 65,536 where the list has none.
use Prim.Native.Nat.{ℕ, zero, suc, ◌+◌, ◌-◌, ◌*◌, ◌≤◌, ◌<◌}
use mathlib.Core.List.{List, [], ◌∷◌}
use mathlib.Core.Path.{◌≡◌, refl, sym, ap, ◌∙◌}
use native.Mathlib.Nat.{not-suc-le-zero, le_of_suc-le-suc}
use native.Mathlib.Numerals.{add-one}
use native.Mathlib.Omega.{arith}
use lib.ListN.{length, get_or, get_or-eq_default}
use Rattle.road.specs.Run.{FreeBeyond}
use Rattle.lists.specs.Words.{links_of, steps_of, demands_length, free, downstream_word, road_of}

-- a word that is there does not depend on what stands for a missing one
pub word_there : (l : List ℕ) (j d e : ℕ) → j < length l → get_or l j d ≡ get_or l j e
word_there [] j d e h = absurd (not-suc-le-zero h)
word_there (x ∷ l) zero d e h = refl
word_there (x ∷ l) (suc j) d e h = word_there l j d e (le_of_suc-le-suc h)

-- ---- after rows that end before word `end`

pub past_there : (l : List ℕ) (end k : ℕ) → end ≤ length l → k < length l - end → get_or l (end + k) 0 ≡ get_or l (end + k) free
past_there l end k h b = word_there l (end + k) 0 free (omega arith)

pub past_missing : (l : List ℕ) (end k : ℕ) → end ≤ length l → length l - end ≤ k → 65536 ≡ get_or l (end + k) free
past_missing l end k h b = sym (get_or-eq_default l free (omega arith))

-- the rows of the demands as the code counts their words
pub past_rows : (demands : List ℕ) (links steps k rows x : ℕ) → x ≡ get_or demands (1 + rows + k) free → rows ≡ steps * ((links + 1) * 2)
    → x ≡ downstream_word demands links steps k
past_rows demands links steps k rows x e h =
    e ∙ ap (λ (n : ℕ). get_or demands (1 + n + k) free) (h ∙ ap (λ (n : ℕ). steps * (n * 2)) (add-one links))

pub past_fits : (demands : List ℕ) (links steps rows : ℕ) → demands_length links steps ≤ length demands → rows ≡ steps * ((links + 1) * 2)
    → 1 + rows ≤ length demands
past_fits demands links steps rows h e =
    let same : steps * ((links + 1) * 2) ≡ steps * (suc links * 2) = ap (λ (n : ℕ). steps * (n * 2)) (add-one links) in omega arith

-- document 01's "traffic past link N is always free", of the road that demands of kind 2 tell: so `exit_free` of crates/road holds for it
pub free_beyond : (corridor demands : List ℕ) (k : ℕ) → length demands ≡ demands_length (links_of corridor) (steps_of demands)
    → FreeBeyond (road_of corridor demands) k
unfolding road_of
free_beyond corridor demands k e = get_or-eq_default demands free (omega arith)
