-- Laws of text: the fewest digits of a number are its decimal, and the line of a node.
use Prim.Native.Nat.{ℕ, zero, suc, ◌+◌, ◌-◌, ◌/◌, ◌*◌, ◌%◌, ◌^◌, ◌≤◌, ◌<◌}
use mathlib.Core.Bool.{Bool, cond}
use mathlib.Core.List.{List, [], ◌∷◌, ◌++◌, append-nil, append_assoc}
use mathlib.Core.Logic.{⊎_elim}
use mathlib.Core.Path.{◌≡◌, refl, sym, ap, ap₂, subst, subst₂, ◌∙◌}
use native.Mathlib.Nat.{add-zero, pow-succ', one-le-pow, pow-le-pow_right}
use native.Mathlib.Numerals.{add-one}
use native.Mathlib.Omega.{arith}
use borrow.Author.Tests.{lt-ltb, le-ltb}
use lib.ListN.{length, get_or, set, take, drop, length-append, length-set}
use lib.Seq.{take-suc, take-suc-set, take-length, length-take-le}
use Rattle.io.specs.Counts.{IsPrefixLen}
use Rattle.io.specs.Digits.{hex_digit_ascii, last_digits, IsDigitCount}
use Rattle.tables.proofs.Numbers.{le_or_lt}
use Rattle.road.specs.declared.Units.{Units}
use Rattle.road.specs.declared.Speed.{Speed}
use Rattle.road.specs.Run.{cost}
use Rattle.settings.specs.declared.Setting.{Setting}
use Rattle.settings.specs.declared.Setting.TheVariants.{Full, Held}
use Rattle.lists.specs.Words.{node_at, road_of, trace_of}
use Rattle.convert.specs.Convert.{setting_at}
use Rattle.file_rows.specs.Words.{record_in}
use Rattle.printed.specs.declared.inner.input.Layout.{Layout}
use Rattle.printed.specs.Input.{links_in, steps_in, demands_block, demands_kind, corridor_file, demands_file, record_file}
use Rattle.printed.specs.Text.{decimal_in, decimal, spaced, plan_word, letter, input_road, input_trace, head_line, setting_line, files_line, plan_line}

-- ---- numbers

digit : (n : ℕ) → hex_digit_ascii (n % 10) ≡ 48 + n % 10
digit n = ap (λ (t : Bool). cond t (48 + n % 10) (87 + n % 10)) (lt-ltb (n % 10) 10 (omega arith))

-- r is one less than the number of digits
digits_in : (more r n : ℕ) → r ≤ more → n < 10 ^ suc r → (0 < r → 10 ^ r ≤ n) → last_digits 10 (suc r) n ≡ decimal_in more n
unfolding decimal_in
digits_in zero zero n h b l = ap (λ (x : ℕ). x ∷ []) (digit n)
digits_in zero (suc r) n h b l = absurd (omega arith)
digits_in (suc more) zero n h b l =
    let few : n < 10 = b in
    let same : n % 10 ≡ n = omega arith in
    ap (λ (x : ℕ). x ∷ []) (digit n ∙ ap (λ (x : ℕ). 48 + x) same)
    ∙ ap (λ (t : Bool). cond t ((48 + n) ∷ []) (decimal_in more (n / 10) ++ ((48 + n % 10) ∷ []))) (sym (lt-ltb n 10 few))
digits_in (suc more) (suc r) n h b l =
    let low : 10 ^ suc r ≤ n = l (omega arith) in
    let p : 10 ^ suc r ≡ 10 * 10 ^ r = pow-succ' 10 r in
    let q : 10 ^ suc (suc r) ≡ 10 * 10 ^ suc r = pow-succ' 10 (suc r) in
    let some : 1 ≤ 10 ^ r = one-le-pow r 10 (omega arith) in
    ap₂ (λ (x : List ℕ) (y : ℕ). x ++ (y ∷ [])) (digits_in more r (n / 10) (omega arith) (omega arith) (λ g. omega arith)) (digit n)
    ∙ ap (λ (t : Bool). cond t ((48 + n) ∷ []) (decimal_in more (n / 10) ++ ((48 + n % 10) ∷ []))) (sym (le-ltb n 10 (omega arith)))

-- 10 ^ 20 is above 2 ^ 64
pub fewest_short : (n r : ℕ) → n < 2 ^ 64 → IsDigitCount 10 1 n r → r ≤ 20
fewest_short n r h f = ⊎_elim (λ (g : r ≤ 20). g) (λ (g : 20 < r). absurd (many g)) (le_or_lt r 20)
  where
    many : 20 < r → ⊥
    many g =
        let low : 10 ^ (r - 1) ≤ n = f.2 (omega arith) in
        let high : 10 ^ 20 ≤ 10 ^ (r - 1) = pow-le-pow_right {n = 10} (omega arith) {i = 20} {j = r - 1} (omega arith) in
        omega arith

pub fewest_decimal : (n r : ℕ) → IsDigitCount 10 1 n r → r ≤ 20 → last_digits 10 r n ≡ decimal n
unfolding decimal
fewest_decimal n zero f h = absurd (omega (arith, f.0))
fewest_decimal n (suc r) f h =
    digits_in 19 r n (omega arith) f.1 (λ g. subst (λ (x : ℕ). 10 ^ x ≤ n) (omega arith) (f.2 (omega arith)))

-- ---- the line of a node: text is what the code put, and its numbers are as calls gave them

module _ (text : List ℕ) (step identifier number full : ℕ) (setting : Setting) (e : identifier ≡ number) (rate : Units) where
  pub full_line : setting ≡ Full rate → (limit : ℕ) → limit ≡ full
      → text ≡ decimal step ++ (spaced identifier ++ (spaced rate.0 ++ (spaced limit ++ (32 ∷ 70 ∷ 10 ∷ []))))
      → text ≡ setting_line step number full setting
  unfolding setting_line letter
  full_line s limit f t = t ∙ (λ z. setting_line step (e z) (f z) (sym s z))

  pub held_line : (held : Speed) → setting ≡ Held rate held
      → text ≡ decimal step ++ (spaced identifier ++ (spaced rate.0 ++ (spaced held.0 ++ (32 ∷ 72 ∷ 10 ∷ []))))
      → text ≡ setting_line step number full setting
  unfolding setting_line letter
  held_line held s t = t ∙ (λ z. setting_line step (e z) full (sym s z))
