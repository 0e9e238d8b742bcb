-- The calls on files are the calls on lists, with a reader for each file before them and a writer after them.
use Prim.Native.Nat.{ℕ, ◌*◌}
use mathlib.Core.Bool.{Bool, true, false, ◌&&◌}
use mathlib.Core.List.{List}
use mathlib.Core.Path.{◌≡◌, refl, sym, ap, ap₂, ◌∙◌}
use borrow.Author.Tests.{eq-eqb}
use lib.Dec.{eqb}
use lib.ListN.{length}
use Rattle.tables.specs.Answer.{Answer}
use Rattle.tables.specs.Answer.{Accepted, Refused}
use Rattle.tables.specs.Answer.{or_else, left, sized}
use Rattle.tables.proofs.Answers.{or_else_assoc, or_else_accepts, sized_iff}
use Rattle.tables.proofs.Grid.{grid_length}
use Rattle.tables.proofs.Tests.{and_iff}
use Rattle.lists.specs.Words.{links_of, steps_of, road_of, plan_length, plan_words}
use Rattle.lengths.specs.Lengths.{record_sized, sizes}
use Rattle.convert.specs.Convert.{converted_by, converted, record_refusal, check_answer, convert_answer}
use Rattle.payload.specs.File.{blocks_for, payload_of, file_of}
use Rattle.block.specs.declared.Kind.{Kind}
use Rattle.block.specs.declared.Kind.TheVariants.{Corridor, Demands, Record, Plan}
use Rattle.block.specs.Kinds.{kind_number, list_length, own_agrees, file_kind}
use Rattle.block.specs.Calls.{told_fits, file_answer, read_answer, words_read, write_answer, file_written}
use Rattle.block.proofs.Calls.{told_is}
use Rattle.file_rows.specs.Words.{corridor_in, demands_in, file_width, record_in}
use Rattle.files.specs.Files.{files_answer, read_then_check, check_files, convert_files, plan_file, plan_written}
use Rattle.files.specs.Fits.{FilesFit}
use Rattle.files.specs.Turns.{in_turn, Turns}
use Rattle.files.proofs.Contents.{own_links_lem, own_steps_lem}
use Rattle.file_rows.proofs.Corridors.{corridor_count_lem}
use Rattle.file_rows.proofs.Records.{record_count}
use Rattle.files.proofs.Answers.{files_fit}

-- an answer that comes second counts only where the first accepts
pub second_same : (a x y : Answer) → (a ≡ Accepted → x ≡ y) → or_else a x ≡ or_else a y
second_same Accepted x y h = h refl
second_same (Refused number row node) x y h = refl

-- ---- one reader, told a good N and K, into a list of the right length, which is `count`

module _ (kind : Kind) (n k : ℕ) (file lent : List ℕ) (told : told_fits n k ≡ true) (fits : length lent ≡ list_length kind n k) (count : ℕ)
    (is : list_length kind n k ≡ count) where
  read_is : read_answer kind n k file (length lent) ≡ file_answer kind n k file
  unfolding read_answer
  read_is = ap₂ (λ (x y : Bool). or_else (sized (x && y)) (file_answer kind n k file)) told (eq-eqb _ _ fits)

  recorded_are : file_answer kind n k file ≡ Accepted → words_read kind n k file lent ≡ payload_of count file
  unfolding words_read
  recorded_are h = ap (λ (x : Answer). left x (payload_of (list_length kind n k) file) lent) (read_is ∙ h) ∙ ap (λ (m : ℕ). payload_of m file) is

  one_turn : (rest : List ℕ → Answer)
      → or_else (file_answer kind n k file) (rest (payload_of count file))
      ≡ or_else (read_answer kind n k file (length lent)) (rest (words_read kind n k file lent))
  one_turn rest =
      second_same _ _ _ (λ h. ap rest (sym (recorded_are h)))
      ∙ ap (λ (x : Answer). or_else x (rest (words_read kind n k file lent))) (sym read_is)

-- ---- all three

module _ (n k : ℕ) (corridor demands recorded a b c : List ℕ) (told : told_fits n k ≡ true)
    (p : length a ≡ list_length (file_kind Corridor corridor) n k) (q : length b ≡ list_length (file_kind Demands demands) n k)
    (r : length c ≡ list_length (file_kind Record recorded) n k) where
  turns : (rest : List ℕ → List ℕ → List ℕ → Answer)
      → or_else (files_answer n k corridor demands recorded) (rest (corridor_in n corridor) (demands_in n k demands)
      (record_in (file_width recorded) n k recorded)) ≡ in_turn n k corridor demands recorded a b c rest
  unfolding files_answer in_turn list_length
  turns rest =
      or_else_assoc (file_answer (file_kind Corridor corridor) n k corridor) _ _
      ∙ ap (or_else (file_answer (file_kind Corridor corridor) n k corridor))
      (or_else_assoc (file_answer (file_kind Demands demands) n k demands) _ _
      ∙ ap (or_else (file_answer (file_kind Demands demands) n k demands))
      (one_turn (file_kind Record recorded) n k recorded c told r _ (record_count n k recorded) (λ z. rest (corridor_in n corridor) (demands_in n k demands) z))
      ∙ one_turn (file_kind Demands demands) n k demands b told q _ refl
      (λ y. or_else (read_answer (file_kind Record recorded) n k recorded (length c))
      (rest (corridor_in n corridor) y (words_read (file_kind Record recorded) n k recorded c))))
      ∙ one_turn (file_kind Corridor corridor) n k corridor a told p _ (corridor_count_lem n k corridor)
      (λ x. or_else (read_answer (file_kind Demands demands) n k demands (length b))
      (or_else (read_answer (file_kind Record recorded) n k recorded (length c))
      (rest x (words_read (file_kind Demands demands) n k demands b) (words_read (file_kind Record recorded) n k recorded c))))

  -- the converter's plan of lists with this N and K has the right length for them
  convert_same : files_answer n k corridor demands recorded ≡ Accepted
      → check_answer (corridor_in n corridor) (demands_in n k demands) (record_in (file_width recorded) n k recorded)
      ≡ convert_answer (corridor_in n corridor) (demands_in n k demands) (record_in (file_width recorded) n k recorded) (plan_length n k)
  unfolding check_answer convert_answer
  convert_same h =
      let fit = files_fit n k corridor demands recorded _ (told_is n k _ refl told) refl h in
      let room : eqb (plan_length n k) (plan_length (links_of (corridor_in n corridor)) (steps_of (demands_in n k demands))) ≡ true =
      eq-eqb _ _ (ap₂ plan_length (sym (own_links_lem n k corridor demands recorded fit)) (sym (own_steps_lem n k corridor demands recorded fit))) in
      ap (λ (t : Bool). or_else (sized t) (record_refusal (corridor_in n corridor) (demands_in n k demands) (record_in (file_width recorded) n k recorded)))
      (and_last (sizes (corridor_in n corridor) (demands_in n k demands))
      (record_sized (links_of (corridor_in n corridor)) (steps_of (demands_in n k demands)) (length (record_in (file_width recorded) n k recorded))) _ room)
    where
      and_last : (s t u : Bool) → u ≡ true → s && t ≡ s && (t && u)
      and_last true true u e = sym e
      and_last true false u e = refl
      and_last false t u e = refl

  plan_count : FilesFit n k corridor demands recorded
      → length (converted (corridor_in n corridor) (demands_in n k demands) (record_in (file_width recorded) n k recorded)) ≡ plan_length n k
  unfolding converted_by plan_words road_of
  plan_count fit =
      grid_length 2 _ _ _
      ∙ ap₂ plan_length (own_links_lem n k corridor demands recorded fit) (own_steps_lem n k corridor demands recorded fit)

  -- the writer takes that plan, into a file of the right length
  plan_taken : (room : ℕ) → FilesFit n k corridor demands recorded → eqb room (blocks_for (plan_length n k) * 512) ≡ true
      → write_answer Plan n k (converted (corridor_in n corridor) (demands_in n k demands) (record_in (file_width recorded) n k recorded)) room ≡ Accepted
  unfolding write_answer list_length own_agrees
  plan_taken room fit h =
      ap sized ((and_iff _ _).1 (told, (and_iff _ _).1 (h, (and_iff _ _).1 (eq-eqb _ _ (plan_count fit), refl))))

  written : (lent : List ℕ) → files_answer n k corridor demands recorded ≡ Accepted → eqb (length lent) (blocks_for (plan_length n k) * 512) ≡ true
      → plan_file n k corridor demands recorded
      ≡ file_written Plan n k (converted (words_read (file_kind Corridor corridor) n k corridor a) (words_read (file_kind Demands demands) n k demands b)
      (words_read (file_kind Record recorded) n k recorded c)) lent
  unfolding files_answer plan_file file_written list_length
  written lent h room =
      let fit = files_fit n k corridor demands recorded _ (told_is n k _ refl told) refl h in
      let first = (or_else_accepts (file_answer (file_kind Corridor corridor) n k corridor) _).0 h in
      let rest = (or_else_accepts (file_answer (file_kind Demands demands) n k demands) (file_answer (file_kind Record recorded) n k recorded)).0 first.1 in
      let plan : List ℕ = converted (corridor_in n corridor) (demands_in n k demands) (record_in (file_width recorded) n k recorded) in
      let same : converted (words_read (file_kind Corridor corridor) n k corridor a) (words_read (file_kind Demands demands) n k demands b)
      (words_read (file_kind Record recorded) n k recorded c) ≡ plan =
      λ z.
      converted (recorded_are (file_kind Corridor corridor) n k corridor a told p _ (corridor_count_lem n k corridor) first.0 z)
      (recorded_are (file_kind Demands demands) n k demands b told q _ refl rest.0 z)
      (recorded_are (file_kind Record recorded) n k recorded c told r _ (record_count n k recorded) rest.1 z) in
      sym (ap (λ (x : Answer). left x (file_of (kind_number Plan) plan) lent) (plan_taken (length lent) fit room))
      ∙ ap (λ (x : List ℕ). file_written Plan n k x lent) (sym same)

-- 1 before all, or all of them told a good N and K
pub sized_same : (t : Bool) (x y : Answer) → (t ≡ true → x ≡ y) → or_else (sized t) x ≡ or_else (sized t) y
sized_same true x y h = h refl
sized_same false x y h = refl

pub as_lists : (n k : ℕ) (corridor demands recorded a b c : List ℕ) → length a ≡ list_length (file_kind Corridor corridor) n k
    → length b ≡ list_length (file_kind Demands demands) n k → length c ≡ list_length (file_kind Record recorded) n k
    → Turns n k corridor demands recorded a b c
unfolding check_files convert_files read_then_check plan_written
as_lists n k corridor demands recorded a b c p q r =
    record {
      checks = sized_same (told_fits n k) _ _ (λ t. turns n k corridor demands recorded a b c t p q r check_answer);
      converts = λ room.
          sized_same (told_fits n k && eqb room (blocks_for (plan_length n k) * 512)) _ _
          (λ t.
          let told = ((and_iff (told_fits n k) _).0 t).0 in
          second_same (files_answer n k corridor demands recorded) _ _ (convert_same n k corridor demands recorded a b c told p q r)
          ∙ turns n k corridor demands recorded a b c told p q r (λ x y z. convert_answer x y z (plan_length n k)));
      writes = λ lent h.
          let told = (or_else_accepts (sized (told_fits n k && eqb (length lent) (blocks_for (plan_length n k) * 512))) _).0 h in
          let good = (and_iff (told_fits n k) _).0 ((sized_iff _).0 told.0) in
          ap (λ (x : Answer). left x (plan_file n k corridor demands recorded) lent) h
          ∙ written n k corridor demands recorded a b c good.0 p q r lent ((or_else_accepts (files_answer n k corridor demands recorded) _).0 told.1).0 good.1;
    }
