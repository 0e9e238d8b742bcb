-- The answers on files as the code joins them, and what an accepted one leaves for the writing of the plan file.
use Prim.Native.Nat.{ℕ, ◌*◌}
use mathlib.Core.Bool.{Bool, true, false, ◌&&◌}
use mathlib.Core.List.{List}
use mathlib.Core.Path.{◌≡◌, refl, sym, ap, ap₂, subst, ◌∙◌}
use borrow.Author.Tests.{eqb-true}
use lib.Dec.{eqb}
use lib.ListN.{length}
use Rattle.tables.specs.Answer.{Answer}
use Rattle.tables.specs.Answer.{Accepted}
use Rattle.tables.specs.Answer.{or_else, sized}
use Rattle.tables.proofs.Answers.{Refuses, or_else_accepts, or_else_stop, or_else_next, left_refused, left_accepted, sized_iff, sized_refuses}
use Rattle.tables.proofs.Tests.{and_iff}
use Rattle.lists.specs.Words.{road_of, plan_length, width_of}
use Rattle.list_scans.specs.Refusals.{ranges}
use Rattle.convert.specs.Refusals.{judged}
use Rattle.convert.specs.Convert.{check_answer}
use Rattle.convert.proofs.Answers.{check_rest, record_test}
use Rattle.payload.specs.File.{blocks_for, payload_word}
use Rattle.block.specs.declared.Kind.{Kind}
use Rattle.block.specs.declared.Kind.TheVariants.{Corridor, Demands, Record}
use Rattle.block.specs.Kinds.{Told, list_length, own_agrees, file_kind}
use Rattle.block.specs.Calls.{told_fits, file_answer}
use Rattle.block.proofs.Calls.{file_kept, file_bytes}
use Rattle.file_rows.specs.Words.{corridor_in, demands_in, file_width, record_in}
use Rattle.files.specs.Files.{files_answer, read_then_check, check_files, convert_files, plan_file, plan_written}
use Rattle.files.specs.Fits.{FilesFit, Accepts, words_answer}
use Rattle.file_rows.proofs.Corridors.{corridor_count_lem, corridor_own}
use Rattle.file_rows.proofs.Demands.{demands_own}
use Rattle.file_rows.proofs.Records.{record_count}
use Rattle.files.proofs.Contents.{read_sizes, read_width, read_sized}

-- ---- the three files in turn: a, b and c are their answers as calls gave them, `first` what the corridor's file chose and kind what the demands' did

module _ (n k : ℕ) (corridor demands recorded : List ℕ) (first : Kind) (s : first ≡ file_kind Corridor corridor) (a : Answer)
    (t : a ≡ file_answer first n k corridor) where
  e : a ≡ file_answer (file_kind Corridor corridor) n k corridor
  e = t ∙ ap (λ (x : Kind). file_answer x n k corridor) s

  pub files_first : Refuses a → a ≡ files_answer n k corridor demands recorded
  unfolding files_answer
  files_first h = or_else_stop a _ _ e h

  module _ (h : a ≡ Accepted) (kind : Kind) (d : kind ≡ file_kind Demands demands) (b : Answer) (g : b ≡ file_answer kind n k demands) where
    f : b ≡ file_answer (file_kind Demands demands) n k demands
    f = g ∙ ap (λ (x : Kind). file_answer x n k demands) d

    pub files_second : Refuses b → b ≡ files_answer n k corridor demands recorded
    unfolding files_answer
    files_second r = or_else_next a b _ _ e h (or_else_stop b _ _ f r)

    -- `last` is what the record's file chose
    pub files_third : b ≡ Accepted → (last : Kind) → last ≡ file_kind Record recorded → (c : Answer) → c ≡ file_answer last n k recorded
        → c ≡ files_answer n k corridor demands recorded
    unfolding files_answer
    files_third r last l c q = or_else_next a c _ _ e h (or_else_next b c _ _ f r (q ∙ ap (λ (x : Kind). file_answer x n k recorded) l))

-- ---- what files that were read keep

pub files_fit : (n k : ℕ) (corridor demands recorded : List ℕ) (a : Answer) → Told n k → a ≡ files_answer n k corridor demands recorded → a ≡ Accepted
    → FilesFit n k corridor demands recorded
unfolding files_answer own_agrees list_length
files_fit n k corridor demands recorded a told e h =
    let r = (or_else_accepts (file_answer (file_kind Corridor corridor) n k corridor) _).0 (sym e ∙ h) in
    let s = (or_else_accepts (file_answer (file_kind Demands demands) n k demands) (file_answer (file_kind Record recorded) n k recorded)).0 r.1 in
    record {
      told = told;
      corridor_holds = file_bytes (file_kind Corridor corridor) n k corridor _ refl r.0 ∙ ap (λ (m : ℕ). blocks_for m * 512) (corridor_count_lem n k corridor);
      demands_hold = file_bytes (file_kind Demands demands) n k demands _ refl s.0;
      record_holds = file_bytes (file_kind Record recorded) n k recorded _ refl s.1 ∙ ap (λ (m : ℕ). blocks_for m * 512) (record_count n k recorded);
      own_links = eqb-true (payload_word corridor 0) n (sym (corridor_own n k corridor) ∙ ((file_kept (file_kind Corridor corridor) n k corridor).0 r.0).own);
      own_steps = eqb-true (payload_word demands 0) k (sym (demands_own n k demands) ∙ ((file_kept (file_kind Demands demands) n k demands).0 s.0).own);
    }

-- ---- then the recorded in them: a is the answer of the readers, b that of the checks

module _ (n k : ℕ) (corridor demands recorded : List ℕ) (a : Answer) (e : a ≡ files_answer n k corridor demands recorded) where
  pub read_stop : Refuses a → a ≡ read_then_check n k corridor demands recorded
  unfolding read_then_check
  read_stop h = or_else_stop a _ _ e h

  pub read_next : a ≡ Accepted → Told n k → (b : Answer)
      → b ≡ words_answer n k corridor demands recorded → b ≡ read_then_check n k corridor demands recorded
  unfolding read_then_check
  read_next h told b q =
      let fit = files_fit n k corridor demands recorded a told e h in
      let kind : file_width recorded ≡ width_of (corridor_in n corridor) (demands_in n k demands) (length (record_in (file_width recorded) n k recorded)) =
      sym (read_width n k corridor demands recorded fit) in
      let words : List ℕ = record_in (file_width recorded) n k recorded in
      or_else_next a b _ _ e h
      (check_rest (corridor_in n corridor) (demands_in n k demands) words true (tests fit) (sized true) refl b refl
      (q ∙ ap (λ (w : ℕ). or_else (ranges (road_of (corridor_in n corridor) (demands_in n k demands)))
      (judged w (road_of (corridor_in n corridor) (demands_in n k demands)) words)) kind))
    where
      tests : FilesFit n k corridor demands recorded
          → true ≡ record_test (corridor_in n corridor) (demands_in n k demands) (length (record_in (file_width recorded) n k recorded))
      tests fit =
          sym
          ((and_iff _ _).1 (
            read_sizes n k corridor demands recorded fit,
            read_sized n k corridor demands recorded fit,
          ))

pub accepts : (n k : ℕ) (corridor demands recorded : List ℕ) (a : Answer) → Told n k → a ≡ read_then_check n k corridor demands recorded → a ≡ Accepted
    → FilesFit n k corridor demands recorded × Accepts n k corridor demands recorded
unfolding read_then_check check_answer
accepts n k corridor demands recorded a told e h =
    let r = (or_else_accepts (files_answer n k corridor demands recorded) _).0 (sym e ∙ h) in
    let words : List ℕ = record_in (file_width recorded) n k recorded in
    let fit = files_fit n k corridor demands recorded _ told refl r.0 in
    let s = (or_else_accepts (ranges (road_of (corridor_in n corridor) (demands_in n k demands)))
    (judged (width_of (corridor_in n corridor) (demands_in n k demands) (length words)) (road_of (corridor_in n corridor) (demands_in n k demands)) words)).0
    ((or_else_accepts (sized (record_test (corridor_in n corridor) (demands_in n k demands) (length words))) _).0 r.1).1 in (
      fit,
      record {
        ranged = s.0;
        judges =
            subst (λ (w : ℕ). judged w (road_of (corridor_in n corridor) (demands_in n k demands)) words ≡ Accepted)
            (read_width n k corridor demands recorded fit) s.1;
      },
    )

-- ---- 1 before all: a is what the test of N and K answered

module _ (n k : ℕ) (corridor demands recorded : List ℕ) (a : Answer) (q : a ≡ sized (told_fits n k)) where
  pub check_wrong : Refuses a → a ≡ check_files n k corridor demands recorded
  unfolding check_files
  check_wrong r = or_else_stop a _ _ q r

  -- l and s are N and K as the code has them then
  pub check_right : a ≡ Accepted → (l s : ℕ) → l ≡ n → s ≡ k → (b : Answer) → b ≡ read_then_check l s corridor demands recorded
      → b ≡ check_files n k corridor demands recorded
  unfolding check_files
  check_right h l s e f b p = or_else_next a b _ _ q h (p ∙ ap₂ (λ (x y : ℕ). read_then_check x y corridor demands recorded) e f)

-- with the length of the lent plan file
abbrev pub room_fits : ℕ → ℕ → ℕ → Bool
room_fits n k room = told_fits n k && eqb room (blocks_for (plan_length n k) * 512)

-- where both tests hold, that of N and K does: a is what it answered, z what both did
pub told_by_room : (n k room : ℕ) (z a : Answer) → z ≡ sized (room_fits n k room) → z ≡ Accepted → a ≡ sized (told_fits n k) → Refuses a → ⊥
told_by_room n k room z a e h q r =
    let both = (and_iff (told_fits n k) (eqb room (blocks_for (plan_length n k) * 512))).0 ((sized_iff (room_fits n k room)).0 (sym e ∙ h)) in
    subst Refuses (q ∙ (sized_iff (told_fits n k)).1 both.0) r

-- z is what both tests answered
module _ (n k : ℕ) (corridor demands recorded lent : List ℕ) (z : Answer) (q : z ≡ sized (room_fits n k (length lent))) where
  pub convert_wrong : Refuses z → (z ≡ convert_files n k corridor demands recorded (length lent)) × (lent ≡ plan_written n k corridor demands recorded lent)
  unfolding convert_files plan_written
  convert_wrong r =
      let is = or_else_stop z (sized (room_fits n k (length lent))) (read_then_check n k corridor demands recorded) q r in
      (is, left_refused z _ _ lent is r)

  module _ (g : z ≡ Accepted) (l s : ℕ) (e : l ≡ n) (f : s ≡ k) (a : Answer) (p : a ≡ read_then_check l s corridor demands recorded) where
    right : a ≡ convert_files n k corridor demands recorded (length lent)
    unfolding convert_files
    right = or_else_next z a _ _ q g (p ∙ ap₂ (λ (x y : ℕ). read_then_check x y corridor demands recorded) e f)

    pub convert_left : Refuses a → (a ≡ convert_files n k corridor demands recorded (length lent)) × (lent ≡ plan_written n k corridor demands recorded lent)
    unfolding plan_written
    convert_left r = (right, left_refused a _ _ lent right r)

    pub convert_right : a ≡ Accepted → (file : List ℕ) → file ≡ plan_file l s corridor demands recorded
        → (a ≡ convert_files n k corridor demands recorded (length lent)) × (file ≡ plan_written n k corridor demands recorded lent)
    unfolding plan_written
    convert_right h file w =
        (right, left_accepted a _ _ lent file right h (w ∙ ap₂ (λ (x y : ℕ). plan_file x y corridor demands recorded) e f))
