-- The file of demands of kind 2 and that of the same completed are proved to do the same: both are read, and their words do the same.
use Prim.Native.Nat.{ℕ, ◌+◌, ◌-◌, ◌≤◌, ◌<◌}
use mathlib.Core.Bool.{true, false}
use mathlib.Core.List.{List, ◌++◌}
use mathlib.Core.Logic.{⊎_elim}
use mathlib.Core.Path.{◌≡◌, refl, sym, ap, ap₂, ◌∙◌}
use native.Mathlib.Omega.{arith}
use lib.Dec.{eqb}
use lib.ListN.{length, get_or, replicate, length-append, length-replicate, get_or-replicate, get_or-append, get_or-eq_default}
use lib.Seq.{get_or-append-add}
use Rattle.tables.specs.Answer.{Answer}
use Rattle.tables.specs.Answer.{Accepted}
use Rattle.tables.specs.Answer.{or_else, sized}
use Rattle.tables.proofs.Numbers.{le_or_lt}
use Rattle.lists.specs.Words.{links_of, steps_of, demands_length, downstream_length, free}
use Rattle.convert.specs.Convert.{check_answer, converted}
use Rattle.payload.specs.Word.{Words}
use Rattle.payload.specs.File.{file_of}
use Rattle.block.specs.declared.Kind.TheVariants.{Corridor, Demands, Record}
use Rattle.block.specs.Kinds.{Told, kind_number, list_length, own_agrees, later, file_kind}
use Rattle.block.specs.Calls.{file_answer}
use Rattle.file_rows.specs.Words.{corridor_in, demands_in, file_width, record_in}
use Rattle.files.specs.Files.{files_answer}
use Rattle.files.proofs.Answers.{files_fit}
use Rattle.files.proofs.Contents.{own_links_lem, own_steps_lem}
use Rattle.demands.specs.Completed.{completed, SameOnFiles}
use Rattle.demands.proofs.AlikeFiles.{of_files, alike_files, file_holds, file_answers}
use Rattle.demands.proofs.Completed.{demands_checks, demands_plans}

words_completed : (k : ℕ) (words : List ℕ) → Words words → Words (completed k words)
unfolding completed
words_completed k words fits i =
    ⊎_elim
    (λ (h : length words ≤ i).
    let j : ℕ = i - length words in
    let e : length words + j ≡ i = omega arith in
    let tail : get_or (replicate k free) j 0 < 4294967296 =
    ⊎_elim
    (λ (b : k ≤ j). omega (arith, get_or-eq_default (replicate k free) 0 {n = j} (omega (arith, length-replicate k free))))
    (λ (b : j < k). omega (arith, get_or-replicate k j free 0 b))
    (le_or_lt k j) in
    omega (arith, tail, get_or-append-add words (replicate k free) j 0, ap (λ (n : ℕ). get_or (words ++ replicate k free) n 0) e))
    (λ (h : i < length words). omega (arith, fits i, get_or-append words (replicate k free) 0 i h))
    (le_or_lt (length words) i)

module _ (n k : ℕ) (corridor demands recorded : List ℕ) (fits : Words demands) (size : length demands ≡ demands_length n k) where
  abbrev short : List ℕ
  short = file_of 2 demands

  abbrev long : List ℕ
  long = file_of 5 (completed k demands)

  size_long : length (completed k demands) ≡ downstream_length n k
  unfolding completed
  size_long = length-append demands (replicate k free) ∙ ap₂ (λ (a b : ℕ). a + b) size (length-replicate k free)

  first_same : get_or demands 0 0 ≡ get_or (completed k demands) 0 0
  unfolding completed
  first_same = sym (get_or-append demands (replicate k free) 0 0 (omega arith))

  module _ (told : Told n k) where
    read_short : demands_in n k short ≡ demands
    unfolding list_length kind_number later
    read_short = file_holds Demands false n k told demands fits size

    read_long : demands_in n k long ≡ completed k demands
    unfolding list_length kind_number later
    read_long = file_holds Demands true n k told (completed k demands) (words_completed k demands fits) size_long

    answers_same : file_answer (file_kind Demands short) n k short ≡ file_answer (file_kind Demands long) n k long
    unfolding list_length kind_number later own_agrees
    answers_same =
        file_answers Demands false n k told demands fits size
        ∙ ap (λ (w : ℕ). sized (eqb w k)) first_same
        ∙ sym (file_answers Demands true n k told (completed k demands) (words_completed k demands fits) size_long)

    files_same : files_answer n k corridor short recorded ≡ files_answer n k corridor long recorded
    unfolding files_answer
    files_same = ap (λ (a : Answer). or_else (file_answer (file_kind Corridor corridor) n k corridor) (or_else a (file_answer (file_kind Record recorded) n k recorded))) answers_same

    -- where the files are read, the lists have this N and K
    module _ (read : files_answer n k corridor short recorded ≡ Accepted) where
      steps_are : steps_of demands ≡ k
      steps_are =
          ap steps_of (sym read_short) ∙ own_steps_lem n k corridor short recorded (files_fit n k corridor short recorded _ told refl read)

      fit : length demands ≡ demands_length (links_of (corridor_in n corridor)) (steps_of demands)
      fit =
          size
          ∙ sym (ap₂ demands_length (own_links_lem n k corridor short recorded (files_fit n k corridor short recorded _ told refl read)) steps_are)

      full_is : completed (steps_of demands) demands ≡ demands_in n k long
      full_is = ap (λ (s : ℕ). completed s demands) steps_are ∙ sym read_long

      checks : check_answer (corridor_in n corridor) (demands_in n k short) (record_in (file_width recorded) n k recorded)
          ≡ check_answer (corridor_in n corridor) (demands_in n k long) (record_in (file_width recorded) n k recorded)
      checks =
          of_files (λ d. check_answer (corridor_in n corridor) d (record_in (file_width recorded) n k recorded)) _ _ _ _ read_short
          (demands_checks (corridor_in n corridor) demands fit (record_in (file_width recorded) n k recorded)) full_is

      plans : converted (corridor_in n corridor) (demands_in n k short) (record_in (file_width recorded) n k recorded)
          ≡ converted (corridor_in n corridor) (demands_in n k long) (record_in (file_width recorded) n k recorded)
      plans =
          of_files (λ d. converted (corridor_in n corridor) d (record_in (file_width recorded) n k recorded)) _ _ _ _ read_short
          (demands_plans (corridor_in n corridor) demands fit (record_in (file_width recorded) n k recorded)) full_is

  pub demands_files : SameOnFiles n k corridor (file_of 2 demands) recorded corridor (file_of 5 (completed k demands)) recorded
  demands_files = alike_files n k corridor short recorded corridor long recorded files_same checks plans
