-- The file of a record of kind 3 and that of the same with the right exits are proved to do the same: both are read, and their words do the same.
use Prim.Native.Nat.{ℕ}
use mathlib.Core.Bool.{true, false}
use mathlib.Core.List.{List}
use mathlib.Core.Path.{◌≡◌, refl, sym, ap, ap₂, ◌∙◌}
use lib.ListN.{length}
use Rattle.tables.specs.Answer.{Accepted}
use Rattle.tables.specs.Answer.{or_else}
use Rattle.lists.specs.Words.{links_of, steps_of, road_of, record_length}
use Rattle.convert.specs.Convert.{check_answer, converted}
use Rattle.payload.specs.Word.{Words}
use Rattle.payload.specs.File.{payload_of, file_of}
use Rattle.block.specs.declared.Kind.TheVariants.{Corridor, Demands, Record}
use Rattle.block.specs.Kinds.{Told, kind_number, list_length, own_agrees, later, file_kind}
use Rattle.block.specs.Calls.{file_answer}
use Rattle.file_rows.specs.Words.{corridor_in, demands_in, file_width, record_in}
use Rattle.files.specs.Files.{files_answer}
use Rattle.files.proofs.Answers.{files_fit}
use Rattle.files.proofs.Contents.{own_links_lem, own_steps_lem}
use Rattle.file_rows.proofs.Records.{record_count}
use Rattle.files.proofs.Turns.{second_same}
use Rattle.demands.specs.Completed.{completed_record, SameOnFiles}
use Rattle.demands.proofs.AlikeFiles.{of_files, alike_files, file_holds, file_answers}
use Rattle.demands.proofs.CompletedRecord.{long_length, completed_checks, completed_plans}

module _ (n k : ℕ) (corridor demands words : List ℕ) (fits : Words words)
    (long_fits : Words (completed_record (road_of (corridor_in n corridor) (demands_in n k demands)) words)) (size : length words ≡ record_length 4 n k) where
  abbrev full : List ℕ
  full = completed_record (road_of (corridor_in n corridor) (demands_in n k demands)) words

  abbrev short : List ℕ
  short = file_of 3 words

  abbrev long : List ℕ
  long = file_of 7 full

  module _ (told : Told n k) where
    read_short : record_in (file_width short) n k short ≡ words
    unfolding list_length kind_number later
    read_short = ap (λ (m : ℕ). payload_of m short) (sym (record_count n k short)) ∙ file_holds Record false n k told words fits size

    short_answers : file_answer (file_kind Record short) n k short ≡ Accepted
    unfolding list_length kind_number later own_agrees
    short_answers = file_answers Record false n k told words fits size

    -- where the files are read, the lists have this N and K
    module _ (read : files_answer n k corridor demands short ≡ Accepted) where
      links_are : links_of (corridor_in n corridor) ≡ n
      links_are = own_links_lem n k corridor demands short (files_fit n k corridor demands short _ told refl read)

      steps_are : steps_of (demands_in n k demands) ≡ k
      steps_are = own_steps_lem n k corridor demands short (files_fit n k corridor demands short _ told refl read)

      fit : length words ≡ record_length 4 (links_of (corridor_in n corridor)) (steps_of (demands_in n k demands))
      fit = size ∙ sym (ap₂ (record_length 4) links_are steps_are)

      size_long : length full ≡ record_length 5 n k
      size_long = long_length (corridor_in n corridor) (demands_in n k demands) words fit ∙ ap₂ (record_length 5) links_are steps_are

      read_long : record_in (file_width long) n k long ≡ full
      unfolding list_length kind_number later
      read_long = ap (λ (m : ℕ). payload_of m long) (sym (record_count n k long)) ∙ file_holds Record true n k told full long_fits size_long

      long_answers : file_answer (file_kind Record long) n k long ≡ Accepted
      unfolding list_length kind_number later own_agrees
      long_answers = file_answers Record true n k told full long_fits size_long

      checks : check_answer (corridor_in n corridor) (demands_in n k demands) (record_in (file_width short) n k short)
          ≡ check_answer (corridor_in n corridor) (demands_in n k demands) (record_in (file_width long) n k long)
      checks =
          of_files (λ w. check_answer (corridor_in n corridor) (demands_in n k demands) w) _ _ _ _ read_short
          (completed_checks (corridor_in n corridor) (demands_in n k demands) words fit) (sym read_long)

      plans : converted (corridor_in n corridor) (demands_in n k demands) (record_in (file_width short) n k short)
          ≡ converted (corridor_in n corridor) (demands_in n k demands) (record_in (file_width long) n k long)
      plans =
          of_files (λ w. converted (corridor_in n corridor) (demands_in n k demands) w) _ _ _ _ read_short
          (completed_plans (corridor_in n corridor) (demands_in n k demands) words fit) (sym read_long)

    files_same : files_answer n k corridor demands short ≡ files_answer n k corridor demands long
    unfolding files_answer
    files_same =
        second_same (file_answer (file_kind Corridor corridor) n k corridor) _ _
        (λ c.
        second_same (file_answer (file_kind Demands demands) n k demands) _ _
        (λ d.
        short_answers ∙ sym (long_answers (λ z. or_else (c z) (or_else (d z) (short_answers z))))))

  pub record_files : SameOnFiles n k corridor demands (file_of 3 words) corridor demands (file_of 7 (completed_record (road_of (corridor_in n corridor) (demands_in n k demands)) words))
  record_files = alike_files n k corridor demands short corridor demands long files_same checks plans
