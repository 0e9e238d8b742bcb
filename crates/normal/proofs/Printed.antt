-- What is printed: a line that is handed over is as long as its text, and lines by index, one after another, as long as their lengths in sum.
use Prim.Native.Nat.{ℕ, zero, suc, ◌+◌, ◌*◌, ◌≤◌}
use mathlib.Core.Bool.{Bool}
use mathlib.Core.List.{List}
use mathlib.Core.Path.{◌≡◌, refl, sym, ap, subst, ◌∙◌}
use native.Mathlib.Omega.{arith}
use lib.ListN.{length, length-append, take}
use Rattle.io.specs.Counts.{IsPrefixLen}
use Rattle.tables.specs.Answer.{Answer}
use Rattle.tables.specs.Answer.{Accepted, Refused}
use Rattle.tables.specs.Sum.{sum}
use Rattle.tables.proofs.Sum.{Summed, summed_ended}
use Rattle.normal.specs.declared.inner.print.Given.{Given}
use Rattle.normal.specs.Fits.{Gives}
use Rattle.printed.specs.Input.{links_in, steps_in, input_answer}
use Rattle.printed.specs.Text.{head_line, refused_line, plan_line, lines_of, step_text, plan_text, text_for, printed}

lines_length : (n : ℕ) (line : ℕ → List ℕ) → length (lines_of n line) ≡ sum n (λ i. length (line i))
unfolding lines_of sum
lines_length zero line = refl
lines_length (suc n) line = length-append (lines_of n line) (line n) ∙ ap (λ (x : ℕ). x + length (line n)) (lines_length n line)

-- after a loop over n lines of at most b bytes
lines_counted : (i n b : ℕ) (line : ℕ → List ℕ) (s : ℕ) → Summed i n b (λ j. length (line j)) s → n ≤ i → (s ≡ length (lines_of n line)) × (s ≤ n * b)
lines_counted i n b line s a h =
    let e : i ≡ n = omega (arith, a.bound) in
    (summed_ended i n b (λ j. length (line j)) s a h ∙ sym (lines_length n line), omega (arith, a.low, ap (λ (x : ℕ). x * b) e))

-- nodes and steps are N + 1 and K as the code has them
pub step_counted : (input : List ℕ) (nodes k i s : ℕ) → Summed i nodes 128 (λ j. length (plan_line input k j)) s → nodes ≤ i → nodes ≡ links_in input + 1 → nodes ≤ 65
    → (s ≡ length (step_text input k)) × (s ≤ 8320)
unfolding step_text
step_counted input nodes k i s a h e few =
    let c = lines_counted i nodes 128 (plan_line input k) s a h in
    (c.0 ∙ ap (λ (n : ℕ). length (lines_of n (plan_line input k))) e, omega (arith, c.1))

pub steps_counted : (input : List ℕ) (steps k s : ℕ) → Summed k steps 8320 (λ j. length (step_text input j)) s → steps ≤ k → steps ≡ steps_in input → steps ≤ 1440
    → (s ≡ length (lines_of (steps_in input) (step_text input))) × (s ≤ 11980800)
steps_counted input steps k s a h e few =
    let c = lines_counted k steps 8320 (step_text input) s a h in
    (c.0 ∙ ap (λ (n : ℕ). length (lines_of n (step_text input))) e, omega (arith, c.1))

pub plan_counted : (input : List ℕ) (first rest r : ℕ) → first ≡ length (head_line input) → rest ≡ length (lines_of (steps_in input) (step_text input)) → r ≡ first + rest → r ≡ length (plan_text input)
unfolding plan_text
plan_counted input first rest r a b e = omega (arith, length-append (head_line input) (lines_of (steps_in input) (step_text input)))

module _ (input : List ℕ) (answer : Answer) (told : answer ≡ input_answer input) (r : ℕ) where
  pub accepted_counted : answer ≡ Accepted → r ≡ length (plan_text input) → r ≡ length (printed input)
  unfolding printed
  accepted_counted e h = h ∙ ap (λ (a : Answer). length (text_for a input)) (sym e ∙ told)

  pub refused_counted : (number row node : ℕ) → answer ≡ Refused number row node → r ≡ length (refused_line number row node) → r ≡ length (printed input)
  unfolding printed
  refused_counted number row node e h = h ∙ ap (λ (a : Answer). length (text_for a input)) (sym e ∙ told)
