-- The file of a corridor of kind 1 and that of the same completed are proved to do the same: both are read, and their words do the same.
use Prim.Native.Nat.{ℕ, zero, suc, ◌*◌, ◌/◌, ◌%◌, ◌≤◌, ◌<◌}
use mathlib.Core.Bool.{true, false}
use mathlib.Core.List.{List}
use mathlib.Core.Logic.{⊎_elim}
use mathlib.Core.Path.{◌≡◌, refl, sym, ap, subst, ◌∙◌}
use native.Mathlib.Omega.{arith}
use lib.Dec.{eqb}
use lib.ListN.{length, get_or}
use Rattle.tables.specs.Answer.{Answer}
use Rattle.tables.specs.Answer.{Accepted}
use Rattle.tables.specs.Answer.{or_else, sized}
use Rattle.tables.specs.Grid.{cell, row_words}
use Rattle.tables.proofs.Numbers.{le_or_lt}
use Rattle.tables.proofs.Tabulate.{tabulate_at, tabulate_past}
use Rattle.lists.specs.Words.{links_of, corridor_length}
use Rattle.convert.specs.Convert.{check_answer, converted}
use Rattle.payload.specs.Word.{Words}
use Rattle.payload.specs.File.{payload_of, file_of}
use Rattle.block.specs.declared.Kind.TheVariants.{Corridor, Demands, Record}
use Rattle.block.specs.Kinds.{Told, kind_number, list_length, own_agrees, later, file_kind}
use Rattle.block.specs.Calls.{file_answer}
use Rattle.file_rows.specs.Words.{corridor_in, demands_in, file_width, record_in}
use Rattle.files.specs.Files.{files_answer}
use Rattle.file_rows.proofs.Corridors.{corridor_count_lem}
use Rattle.files.proofs.Answers.{files_fit}
use Rattle.files.proofs.Contents.{own_links_lem}
use Rattle.demands.specs.Completed.{completed_word, completed_corridor, SameOnFiles}
use Rattle.demands.proofs.AlikeFiles.{of_files, alike_files, file_holds, file_answers}
use Rattle.demands.proofs.CompletedCorridor.{completed_length, corridor_checks, corridor_plans}

word_fits : (corridor : List ℕ) → Words corridor → (i q : ℕ) → completed_word corridor i q < 4294967296
unfolding completed_word
word_fits corridor fits i q = fits _

words_completed : (links : ℕ) (corridor : List ℕ) → Words corridor → Words (completed_corridor links corridor)
unfolding completed_corridor links_of row_words cell
words_completed links corridor fits zero = fits 0
words_completed links corridor fits (suc j) =
    ⊎_elim
    (λ (h : suc links * 11 ≤ j). omega (arith, tabulate_past (suc links * 11) (cell 11 (completed_word corridor)) j 0 h))
    (λ (h : j < suc links * 11). subst (λ (w : ℕ). w < 4294967296) (sym (tabulate_at (suc links * 11) (cell 11 (completed_word corridor)) j 0 h)) (word_fits corridor fits (j / 11) (j % 11)))
    (le_or_lt (suc links * 11) j)

module _ (n k : ℕ) (corridor demands recorded : List ℕ) (fits : Words corridor) (size : length corridor ≡ corridor_length 9 n) where
  abbrev short : List ℕ
  short = file_of 1 corridor

  abbrev long : List ℕ
  long = file_of 10 (completed_corridor n corridor)

  first_same : get_or corridor 0 0 ≡ get_or (completed_corridor n corridor) 0 0
  unfolding completed_corridor links_of
  first_same = refl

  module _ (told : Told n k) where
    read_short : corridor_in n short ≡ corridor
    unfolding list_length kind_number later
    read_short = ap (λ (m : ℕ). payload_of m short) (sym (corridor_count_lem n k short)) ∙ file_holds Corridor false n k told corridor fits size

    read_long : corridor_in n long ≡ completed_corridor n corridor
    unfolding list_length kind_number later
    read_long =
        ap (λ (m : ℕ). payload_of m long) (sym (corridor_count_lem n k long))
        ∙ file_holds Corridor true n k told (completed_corridor n corridor) (words_completed n corridor fits) (completed_length n corridor)

    answers_same : file_answer (file_kind Corridor short) n k short ≡ file_answer (file_kind Corridor long) n k long
    unfolding list_length kind_number later own_agrees
    answers_same =
        file_answers Corridor false n k told corridor fits size
        ∙ ap (λ (w : ℕ). sized (eqb w n)) first_same
        ∙ sym (file_answers Corridor true n k told (completed_corridor n corridor) (words_completed n corridor fits) (completed_length n corridor))

    files_same : files_answer n k short demands recorded ≡ files_answer n k long demands recorded
    unfolding files_answer
    files_same = ap (λ (a : Answer). or_else a (or_else (file_answer (file_kind Demands demands) n k demands) (file_answer (file_kind Record recorded) n k recorded))) answers_same

    -- where the files are read, the corridor has this N
    module _ (read : files_answer n k short demands recorded ≡ Accepted) where
      links_are : links_of corridor ≡ n
      links_are = ap links_of (sym read_short) ∙ own_links_lem n k short demands recorded (files_fit n k short demands recorded _ told refl read)

      fit : length corridor ≡ corridor_length 9 (links_of corridor)
      fit = size ∙ ap (corridor_length 9) (sym links_are)

      full_is : completed_corridor (links_of corridor) corridor ≡ corridor_in n long
      full_is = ap (λ (m : ℕ). completed_corridor m corridor) links_are ∙ sym read_long

      checks : check_answer (corridor_in n short) (demands_in n k demands) (record_in (file_width recorded) n k recorded)
          ≡ check_answer (corridor_in n long) (demands_in n k demands) (record_in (file_width recorded) n k recorded)
      checks =
          of_files (λ c. check_answer c (demands_in n k demands) (record_in (file_width recorded) n k recorded)) _ _ _ _ read_short
          (corridor_checks corridor fit (demands_in n k demands) (record_in (file_width recorded) n k recorded)) full_is

      plans : converted (corridor_in n short) (demands_in n k demands) (record_in (file_width recorded) n k recorded)
          ≡ converted (corridor_in n long) (demands_in n k demands) (record_in (file_width recorded) n k recorded)
      plans =
          of_files (λ c. converted c (demands_in n k demands) (record_in (file_width recorded) n k recorded)) _ _ _ _ read_short
          (corridor_plans corridor fit (demands_in n k demands) (record_in (file_width recorded) n k recorded)) full_is

  pub corridor_files : SameOnFiles n k (file_of 1 corridor) demands recorded (file_of 10 (completed_corridor n corridor)) demands recorded
  corridor_files = alike_files n k short demands recorded long demands recorded files_same checks plans
