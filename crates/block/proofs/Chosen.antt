-- What holds of the calls where the file or the list chooses its kind: p is the oldest kind of its place. A reader and a writer choose alike,
-- so that the laws for a given kind carry over.
use mathlib.Core.Bool.{Bool, true, false, cond}
use mathlib.Core.List.{List}
use mathlib.Core.Logic.{◌≢◌}
use mathlib.Core.Path.{◌≡◌, refl, sym, ap, ◌∙◌}
use Prim.Native.Nat.{ℕ, ◌+◌, ◌*◌, ◌≤◌, ◌<◌}
use native.Mathlib.Omega.{arith}
use borrow.Author.Tests.{eqb-true, eq-eqb, ne_eqb, le-leb}
use lib.Dec.{eqb, lit<}
use lib.ListN.{length, get_or}
use Rattle.tables.specs.Answer.{Answer}
use Rattle.tables.specs.Answer.{Accepted, Refused}
use Rattle.tables.specs.Answer.{left}
use Rattle.tables.specs.Grid.{place}
use Rattle.tables.proofs.Grid.{grid_at}
use Rattle.tables.proofs.Tabulate.{tabulate_length}
use Rattle.payload.specs.Word.{Bytes, Words}
use Rattle.payload.specs.Block.{body_word, block_word, block_byte}
use Rattle.payload.specs.File.{blocks_for, payload_in, payload_word, payload_of, file_of, OneChange}
use Rattle.payload.proofs.Words.{word_is}
use Rattle.seals.proofs.Files.{file_length}
use Rattle.block.specs.declared.Kind.{Kind}
use Rattle.block.specs.declared.Kind.TheVariants.{Corridor, CorridorDrop, Demands, DemandsDownstream, Record, RecordExits, Plan}
use Rattle.block.specs.Kinds.{Told, kind_number, list_length, later, kind_word, says_later, file_kind, list_kind}
use Rattle.block.specs.Calls.{told_fits, read_answer, words_read, write_answer, file_written}
use Rattle.block.proofs.Calls.{told_is, length_low, read_kept, write_kept}
use Rattle.block.proofs.EachKind.{number_fits, wrote, got, written_then_read, read_then_written, change_seen}

-- ---- word 0 of a file's first block

-- a file of at least one word opens with its kind's number
pub opens_with : (number : ℕ) (words : List ℕ) → number < 4294967296 → 1 ≤ length words → kind_word (file_of number words) ≡ number
unfolding kind_word file_of block_word body_word
opens_with number words h l =
    let size : length (file_of number words) ≡ blocks_for (length words) * 512 = file_length number words in
    rw (le-leb 4 (length (file_of number words)) (omega arith))
    (word_is (file_of number words) 0 number h
    (λ q b.
    let e : 0 * 4 + q ≡ place 4 128 0 0 q = omega arith in
    ap (λ (j : ℕ). get_or (file_of number words) j 0) e
    ∙ grid_at 4 128 (blocks_for (length words)) (λ t. block_byte number t (payload_in words t)) 0 0 q 0 (omega arith) (lit< tt) b))

-- nothing else of a file chooses
same_word : (p : Kind) (file other : List ℕ) → kind_word other ≡ kind_word file → file_kind p other ≡ file_kind p file
unfolding file_kind
same_word p file other e = ap (λ (w : ℕ). cond (eqb w (kind_number (later p))) (later p) p) e

-- what holds of both kinds of a place holds of the kind that a file chooses
pub of_either : (P : Kind → Type 0) (p : Kind) (file : List ℕ) → P (later p) → P p → P (file_kind p file)
unfolding file_kind
of_either P p file long short = by (says_later p file)
  where
    by : (t : Bool) → P (cond t (later p) p)
    by true = long
    by false = short

-- the place of a plan has one kind
pub plan_file : (file : List ℕ) → file_kind Plan file ≡ Plan
unfolding later
plan_file file = of_either (λ (kind : Kind). kind ≡ Plan) Plan file refl refl

pub plan_list : (n k count : ℕ) → list_kind Plan n k count ≡ Plan
unfolding list_kind later
plan_list n k count = by (eqb count (list_length Plan n k))
  where
    by : (t : Bool) → cond t Plan Plan ≡ Plan
    by true = refl
    by false = refl

-- ---- a kind and the later one of its place differ in number and in length

later_number : (p : Kind) → kind_number p ≡ kind_number (later p) → later p ≡ p
unfolding later kind_number
later_number Corridor e = absurd (omega arith)
later_number CorridorDrop e = refl
later_number Demands e = absurd (omega arith)
later_number DemandsDownstream e = refl
later_number Record e = absurd (omega arith)
later_number RecordExits e = refl
later_number Plan e = refl

-- two words more for each node, and K, which is not 0
later_length : (p : Kind) (n k : ℕ) → Told n k → list_length p n k ≡ list_length (later p) n k → later p ≡ p
unfolding later list_length
later_length Corridor n k t e = absurd (omega arith)
later_length CorridorDrop n k t e = refl
later_length Demands n k t e = absurd (omega (arith, t.steps_low))
later_length DemandsDownstream n k t e = refl
later_length Record n k t e = absurd (omega arith)
later_length RecordExits n k t e = refl
later_length Plan n k t e = refl

-- so what tells them apart, x of one and y of the other, chooses the one that it was taken of
chosen_back : (p : Kind) (x y : ℕ) → (x ≡ y → later p ≡ p) → (b : Bool) → cond (eqb (cond b y x) y) (later p) p ≡ cond b (later p) p
chosen_back p x y one true = ap (λ (t : Bool). cond t (later p) p) (eq-eqb y y refl)
chosen_back p x y one false = by (eqb x y) refl
  where
    by : (t : Bool) → eqb x y ≡ t → cond t (later p) p ≡ p
    by true e = one (eqb-true x y e)
    by false e = refl

-- a test of kinds told by their numbers or lengths
told_by : (f : Kind → ℕ) (p : Kind) (b : Bool) → cond b (f (later p)) (f p) ≡ f (cond b (later p) p)
told_by f p true = refl
told_by f p false = refl

-- ---- a list and its file choose alike

-- a file that opens with the number of one of the two kinds of a place is of that kind
pub told_kind : (p : Kind) (b : Bool) (words : List ℕ) → 1 ≤ length words → file_kind p (file_of (kind_number (cond b (later p) p)) words) ≡ cond b (later p) p
unfolding file_kind
told_kind p b words some =
    ap (λ (x : ℕ). cond (eqb x (kind_number (later p))) (later p) p)
    (opens_with (kind_number (cond b (later p) p)) words (number_fits (cond b (later p) p)) some ∙ sym (told_by kind_number p b))
    ∙ chosen_back p (kind_number p) (kind_number (later p)) (later_number p) b

pub written_kind : (p : Kind) (n k : ℕ) (words : List ℕ) (room : ℕ) → write_answer (list_kind p n k (length words)) n k words room ≡ Accepted
    → file_kind p (file_of (kind_number (list_kind p n k (length words))) words) ≡ list_kind p n k (length words)
unfolding list_kind
written_kind p n k words room a =
    let kind : Kind = list_kind p n k (length words) in
    let w = (write_kept kind n k words room).0 a in
    let list : length words ≡ list_length kind n k = w.list in
    told_kind p (eqb (length words) (list_length (later p) n k)) words
    (omega (arith, length_low kind n k (told_is n k (told_fits n k) refl w.told)))

pub read_kind : (p : Kind) (n k : ℕ) (file : List ℕ) → Told n k → list_kind p n k (list_length (file_kind p file) n k) ≡ file_kind p file
unfolding file_kind list_kind
read_kind p n k file t =
    ap (λ (x : ℕ). cond (eqb x (list_length (later p) n k)) (later p) p) (sym (told_by (λ kind. list_length kind n k) p (says_later p file)))
    ∙ chosen_back p (list_length p n k) (list_length (later p) n k) (later_length p n k t) (says_later p file)

-- ---- words written and then read come back the same

module _ (p : Kind) (n k : ℕ) (words file lent : List ℕ) (fits : Words words) (written : write_answer (list_kind p n k (length words)) n k words (length file) ≡ Accepted) (room : length lent ≡ length words) where
  pub chosen_written_then_read :
      let made : List ℕ = file_written (list_kind p n k (length words)) n k words file in
      (read_answer (file_kind p made) n k made (length lent) ≡ Accepted) × (words_read (file_kind p made) n k made lent ≡ words)
  chosen_written_then_read =
      let kind : Kind = list_kind p n k (length words) in
      let chosen : file_kind p (file_written kind n k words file) ≡ kind =
      ap (file_kind p) (wrote kind n k words file lent fits written room) ∙ written_kind p n k words (length file) written in
      rw chosen (written_then_read kind n k words file lent fits written room)

-- ---- an accepted file read and rewritten has the same bytes

module _ (p : Kind) (n k : ℕ) (file words lent : List ℕ) (fits : Bytes file) (read : read_answer (file_kind p file) n k file (length words) ≡ Accepted) (room : length lent ≡ length file) where
  pub chosen_read_then_written :
      let list : List ℕ = words_read (file_kind p file) n k file words in
      (write_answer (list_kind p n k (length list)) n k list (length lent) ≡ Accepted) × (file_written (list_kind p n k (length list)) n k list lent ≡ file)
  chosen_read_then_written =
      let kind : Kind = file_kind p file in
      let told = told_is n k (told_fits n k) refl ((read_kept kind n k file (length words)).0 read).told in
      let size : length (words_read kind n k file words) ≡ list_length kind n k =
      ap length (got kind n k file words lent fits read room) ∙ tabulate_length (list_length kind n k) (payload_word file) in
      let chosen : list_kind p n k (length (words_read kind n k file words)) ≡ kind = ap (list_kind p n k) size ∙ read_kind p n k file told in
      rw chosen (read_then_written kind n k file words lent fits read room)

-- ---- any change to just one of words 0..126 of a block is seen

-- only a change of word 0 of block 0 can have the file read as another kind
pub kind_kept : (p : Kind) (file other : List ℕ) (t i : ℕ) → OneChange file other t i → t * 128 + i ≢ 0 → file_kind p other ≡ file_kind p file
unfolding kind_word
kind_kept p file other t i change d = same_word p file other (rw (change.same, change.others 0 (λ e. d (sym e))))

-- the kinds of a place differ in length
same_length : (p : Kind) (n k : ℕ) (file other : List ℕ) → Told n k → list_length (file_kind p other) n k ≡ list_length (file_kind p file) n k
    → file_kind p other ≡ file_kind p file
same_length p n k file other t e = sym (read_kind p n k other t) ∙ ap (list_kind p n k) e ∙ read_kind p n k file t

-- a file of another kind is refused by 1, since the list that was lent has the length of the first, and stays
pub other_kind_seen : (p : Kind) (n k : ℕ) (file other lent : List ℕ) → read_answer (file_kind p file) n k file (length lent) ≡ Accepted → file_kind p other ≢ file_kind p file
    → (read_answer (file_kind p other) n k other (length lent) ≡ Refused 1 0 0) × (words_read (file_kind p other) n k other lent ≡ lent)
unfolding read_answer words_read
other_kind_seen p n k file other lent read d =
    let kept = (read_kept (file_kind p file) n k file (length lent)).0 read in
    let told = told_is n k (told_fits n k) refl kept.told in
    let wrong : length lent ≢ list_length (file_kind p other) n k = λ e. d (same_length p n k file other told (sym e ∙ kept.fits)) in
    let answered : read_answer (file_kind p other) n k other (length lent) ≡ Refused 1 0 0 =
    rw (kept.told, ne_eqb (length lent) (list_length (file_kind p other) n k) wrong) in
    (answered, ap (λ (a : Answer). left a (payload_of (list_length (file_kind p other) n k) other) lent) answered)

module _ (p : Kind) (n k : ℕ) (file other lent : List ℕ) (t i : ℕ) (hf : Bytes file) (ho : Bytes other) (within : i < 127) (change : OneChange file other t i) (read : read_answer (file_kind p file) n k file (length lent) ≡ Accepted) (h : t < blocks_for (list_length (file_kind p file) n k)) where
  -- one of the same kind by 15 at that block
  pub chosen_change_seen : file_kind p other ≡ file_kind p file
      → (read_answer (file_kind p other) n k other (length lent) ≡ Refused 15 t 0) × (words_read (file_kind p other) n k other lent ≡ lent)
  chosen_change_seen same = rw same (change_seen (file_kind p file) n k file other lent t i hf ho within change read h)
