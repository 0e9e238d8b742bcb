-- Files that are read alike, and whose words do the same, do the same in every call on files; and the files of a list and of the same in the
-- later kind of its place are read alike.
use Prim.Native.Nat.{ℕ, ◌*◌, ◌≤◌}
use mathlib.Core.Bool.{Bool, true, ◌&&◌, cond}
use mathlib.Core.List.{List}
use mathlib.Core.Path.{◌≡◌, refl, sym, ap, ap₂, subst, ◌∙◌}
use native.Mathlib.Omega.{arith}
use lib.Dec.{eqb}
use lib.ListN.{length, get_or}
use Rattle.tables.specs.Answer.{Answer}
use Rattle.tables.specs.Answer.{Accepted, Refused}
use Rattle.tables.specs.Answer.{or_else, sized, left}
use Rattle.tables.proofs.Answers.{or_else_accepts, sized_iff}
use Rattle.tables.proofs.Tabulate.{tabulate_at}
use Rattle.tables.proofs.Tests.{and_iff}
use Rattle.lists.specs.Words.{plan_length}
use Rattle.convert.specs.Convert.{check_answer, converted}
use Rattle.payload.specs.Word.{Words}
use Rattle.payload.specs.File.{blocks_for, payload_word, payload_of, file_of}
use Rattle.seals.specs.Reading.{payload_answer}
use Rattle.seals.proofs.Files.{read_write}
use Rattle.block.specs.declared.Kind.{Kind}
use Rattle.block.specs.declared.Kind.TheVariants.{Plan}
use Rattle.block.specs.Kinds.{Told, kind_number, list_length, own_agrees, later, file_kind}
use Rattle.block.specs.Calls.{told_fits, file_answer}
use Rattle.block.proofs.Calls.{told_is, length_low, length_high}
use Rattle.block.proofs.EachKind.{number_fits}
use Rattle.block.proofs.Chosen.{told_kind}
use Rattle.file_rows.specs.Words.{corridor_in, demands_in, file_width, record_in}
use Rattle.files.specs.Files.{files_answer, read_then_check, check_files, convert_files, plan_file, plan_written}
use Rattle.files.proofs.Turns.{second_same, sized_same}
use Rattle.demands.specs.Completed.{SameOnFiles}

-- a lent list is the same where what would be written is
left_same : (a : Answer) (x y lent : List ℕ) → (a ≡ Accepted → x ≡ y) → left a x lent ≡ left a y lent
left_same Accepted x y lent h = h refl
left_same (Refused number row node) x y lent h = refl

-- what is the same of two lists is the same of what two files hold, where these are the lists
pub of_files {ℓ} : {X : Type ℓ} (F : List ℕ → X) (read list other read' : List ℕ) → read ≡ list → F list ≡ F other → other ≡ read' → F read ≡ F read'
of_files F read list other read' p same q = ap F p ∙ same ∙ ap F q

-- ---- files that are read alike

module _ (n k : ℕ) (corridor demands recorded corridor' demands' recorded' : List ℕ)
    (files_same : Told n k → files_answer n k corridor demands recorded ≡ files_answer n k corridor' demands' recorded')
    (checks : Told n k → files_answer n k corridor demands recorded ≡ Accepted
    → check_answer (corridor_in n corridor) (demands_in n k demands) (record_in (file_width recorded) n k recorded)
    ≡ check_answer (corridor_in n corridor') (demands_in n k demands') (record_in (file_width recorded') n k recorded'))
    (plans : Told n k → files_answer n k corridor demands recorded ≡ Accepted
    → converted (corridor_in n corridor) (demands_in n k demands) (record_in (file_width recorded) n k recorded)
    ≡ converted (corridor_in n corridor') (demands_in n k demands') (record_in (file_width recorded') n k recorded')) where
  told_good : told_fits n k ≡ true → Told n k
  told_good t = told_is n k (told_fits n k) refl t

  reads_same : Told n k → read_then_check n k corridor demands recorded ≡ read_then_check n k corridor' demands' recorded'
  unfolding read_then_check
  reads_same told =
      second_same (files_answer n k corridor demands recorded) _ _ (checks told)
      ∙ ap (λ (a : Answer). or_else a (check_answer (corridor_in n corridor') (demands_in n k demands') (record_in (file_width recorded') n k recorded'))) (files_same told)

  converts_same : (room : ℕ) → convert_files n k corridor demands recorded room ≡ convert_files n k corridor' demands' recorded' room
  unfolding convert_files
  converts_same room =
      sized_same (told_fits n k && eqb room (blocks_for (plan_length n k) * 512)) _ _ (λ t. reads_same (told_good ((and_iff (told_fits n k) _).0 t).0))

  pub alike_files : SameOnFiles n k corridor demands recorded corridor' demands' recorded'
  unfolding check_files convert_files plan_written read_then_check plan_file
  alike_files =
      record {
        check_answers = sized_same (told_fits n k) _ _ (λ t. reads_same (told_good t));
        convert_answers = converts_same;
        convert_writes = λ lent.
            ap (λ (a : Answer). left a (plan_file n k corridor demands recorded) lent) (converts_same (length lent))
            ∙ left_same (convert_files n k corridor' demands' recorded' (length lent)) _ _ lent
            (λ h.
            let r = (or_else_accepts (sized (told_fits n k && eqb (length lent) (blocks_for (plan_length n k) * 512))) _).0 (converts_same (length lent) ∙ h) in
            ap (file_of (kind_number Plan))
            (plans (told_good ((and_iff (told_fits n k) _).0 ((sized_iff _).0 r.0)).0)
            ((or_else_accepts (files_answer n k corridor demands recorded) _).0 r.1).0));
      }

-- ---- the file of a list, told a good N and K: `late` where the list is of the later kind of its place

module _ (p : Kind) (late : Bool) (n k : ℕ) (told : Told n k) (words : List ℕ) (fits : Words words)
    (size : length words ≡ list_length (cond late (later p) p) n k) where
  abbrev kind : Kind
  kind = cond late (later p) p

  abbrev file : List ℕ
  file = file_of (kind_number (cond late (later p) p)) words

  some : 1 ≤ length words
  some = omega (arith, length_low kind n k told)

  pub kind_told : file_kind p (file_of (kind_number (cond late (later p) p)) words) ≡ cond late (later p) p
  kind_told = told_kind p late words some

  made : (payload_answer (kind_number kind) (length words) file ≡ Accepted) × (payload_of (length words) file ≡ words)
  made = read_write (kind_number kind) words (number_fits kind) fits (omega (arith, length_high kind n k told))

  pub file_holds : payload_of (list_length (file_kind p (file_of (kind_number (cond late (later p) p)) words)) n k) (file_of (kind_number (cond late (later p) p)) words) ≡ words
  file_holds = ap (λ (x : Kind). payload_of (list_length x n k) file) kind_told ∙ ap (λ (m : ℕ). payload_of m file) (sym size) ∙ made.1

  pub file_answers : file_answer (file_kind p (file_of (kind_number (cond late (later p) p)) words)) n k (file_of (kind_number (cond late (later p) p)) words)
      ≡ sized (own_agrees (cond late (later p) p) n k (get_or words 0 0))
  unfolding file_answer
  file_answers =
      ap (λ (x : Kind). file_answer x n k file) kind_told
      ∙ ap₂ (λ (a : Answer) (w : ℕ). or_else a (sized (own_agrees kind n k w)))
      (subst (λ (m : ℕ). payload_answer (kind_number kind) m file ≡ Accepted) size made.0)
      (sym (tabulate_at (length words) (payload_word file) 0 0 some) ∙ ap (λ (l : List ℕ). get_or l 0 0) made.1)
