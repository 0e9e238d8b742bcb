-- What holds of the calls, for each kind, any N and K, any words and any bytes.
use mathlib.Core.List.{List}
use mathlib.Core.Path.{◌≡◌, refl, sym, ap, ◌∙◌, subst}
use Prim.Native.Nat.{ℕ, ◌≤◌, ◌<◌}
use native.Mathlib.Omega.{arith}
use borrow.Author.Tests.{eq-eqb}
use lib.Dec.{lit<}
use lib.ListN.{length, get_or}
use Rattle.tables.specs.Answer.{Answer}
use Rattle.tables.specs.Answer.{Accepted, Refused}
use Rattle.tables.specs.Answer.{left}
use Rattle.tables.proofs.Tabulate.{tabulate_length, tabulate_at}
use Rattle.block.specs.declared.Kind.{Kind}
use Rattle.block.specs.declared.Kind.TheVariants.{Corridor, CorridorDrop, Demands, DemandsDownstream, Record, RecordExits, Plan}
use Rattle.payload.specs.Word.{Bytes, Words}
use Rattle.payload.specs.File.{blocks_for, file_of, payload_word, payload_of, OneChange}
use Rattle.seals.specs.Reading.{payload_answer}
use Rattle.block.specs.Kinds.{kind_number, list_length, own_agrees}
use Rattle.block.specs.Calls.{told_fits, file_answer, read_answer, words_read, write_answer, file_written}
use Rattle.block.proofs.Calls.{told_is, length_low, length_high, file_kept, file_bytes, read_kept, write_kept}
use Rattle.seals.proofs.Files.{read_write, write_read, file_change_seen}

pub number_fits : (kind : Kind) → kind_number kind < 4294967296
unfolding kind_number
number_fits Corridor = lit< tt
number_fits CorridorDrop = lit< tt
number_fits Demands = lit< tt
number_fits DemandsDownstream = lit< tt
number_fits Record = lit< tt
number_fits RecordExits = lit< tt
number_fits Plan = lit< tt

-- the payload of a file of good length opens with the first word read
opens : (m : ℕ) (file words : List ℕ) → 1 ≤ m → payload_of m file ≡ words → get_or words 0 0 ≡ payload_word file 0
opens m file words l e = ap (λ (x : List ℕ). get_or x 0 0) (sym e) ∙ tabulate_at m (payload_word file) 0 0 l

-- words written and then read come back the same
module _ (kind : Kind) (n k : ℕ) (words file lent : List ℕ) (fits : Words words) (written : write_answer kind n k words (length file) ≡ Accepted) (room : length lent ≡ length words) where
  pub wrote : file_written kind n k words file ≡ file_of (kind_number kind) words
  unfolding file_written
  wrote = ap (λ (a : Answer). left a (file_of (kind_number kind) words) file) written

  read_back : (read_answer kind n k (file_of (kind_number kind) words) (length lent) ≡ Accepted) × (words_read kind n k (file_of (kind_number kind) words) lent ≡ words)
  unfolding words_read
  read_back =
      let made : List ℕ = file_of (kind_number kind) words in
      let p = (write_kept kind n k words (length file)).0 written in
      let told = told_is n k (told_fits n k) refl p.told in
      let list : length words ≡ list_length kind n k = p.list in
      let r = read_write (kind_number kind) words (number_fits kind) fits (omega (arith, length_high kind n k told)) in
      let accepted : read_answer kind n k made (length lent) ≡ Accepted =
      (read_kept kind n k made (length lent)).1
      (record {
        told = p.told;
        fits = room ∙ list;
        answer =
            (file_kept kind n k made).1
            (record {
              payload = subst (λ (m : ℕ). payload_answer (kind_number kind) m made ≡ Accepted) list r.0;
              own = ap (own_agrees kind n k) (sym (opens (length words) made words (omega (arith, length_low kind n k told)) r.1)) ∙ p.own;
            });
      }) in
      (accepted, ap (λ (a : Answer). left a (payload_of (list_length kind n k) made) lent) accepted ∙ ap (λ (m : ℕ). payload_of m made) (sym list) ∙ r.1)

  pub written_then_read : (read_answer kind n k (file_written kind n k words file) (length lent) ≡ Accepted) × (words_read kind n k (file_written kind n k words file) lent ≡ words)
  written_then_read = rw wrote read_back

-- an accepted file read and rewritten has the same bytes
module _ (kind : Kind) (n k : ℕ) (file words lent : List ℕ) (fits : Bytes file) (read : read_answer kind n k file (length words) ≡ Accepted) (room : length lent ≡ length file) where
  pub got : words_read kind n k file words ≡ payload_of (list_length kind n k) file
  unfolding words_read
  got = ap (λ (a : Answer). left a (payload_of (list_length kind n k) file) words) read

  written_back : (write_answer kind n k (payload_of (list_length kind n k) file) (length lent) ≡ Accepted) × (file_written kind n k (payload_of (list_length kind n k) file) lent ≡ file)
  unfolding file_written
  written_back =
      let m : ℕ = list_length kind n k in
      let made : List ℕ = payload_of (list_length kind n k) file in
      let p = (read_kept kind n k file (length words)).0 read in
      let f = (file_kept kind n k file).0 p.answer in
      let told = told_is n k (told_fits n k) refl p.told in
      let accepted : write_answer kind n k made (length lent) ≡ Accepted =
      (write_kept kind n k made (length lent)).1
      (record {
        told = p.told;
        fits = room ∙ file_bytes kind n k file _ refl p.answer;
        list = tabulate_length m (payload_word file);
        own = ap (own_agrees kind n k) (opens m file made (length_low kind n k told) refl) ∙ f.own;
      }) in
      (accepted, ap (λ (a : Answer). left a (file_of (kind_number kind) made) lent) accepted ∙ write_read (kind_number kind) m file fits f.payload)

  pub read_then_written : (write_answer kind n k (words_read kind n k file words) (length lent) ≡ Accepted) × (file_written kind n k (words_read kind n k file words) lent ≡ file)
  read_then_written = rw got written_back

-- any change to just one of words 0..126 of a block is seen: the file is refused by 15 at that block, and the lent list stays
pub change_seen : (kind : Kind) (n k : ℕ) (file other lent : List ℕ) (t i : ℕ) → Bytes file → Bytes other → i < 127 → OneChange file other t i
    → read_answer kind n k file (length lent) ≡ Accepted → t < blocks_for (list_length kind n k)
    → (read_answer kind n k other (length lent) ≡ Refused 15 t 0) × (words_read kind n k other lent ≡ lent)
unfolding read_answer file_answer words_read
change_seen kind n k file other lent t i hf ho within change read h =
    let p = (read_kept kind n k file (length lent)).0 read in
    let refused : payload_answer (kind_number kind) (list_length kind n k) other ≡ Refused 15 t 0 =
    file_change_seen (kind_number kind) file other t i hf ho within change (list_length kind n k) ((file_kept kind n k file).0 p.answer).payload h in
    let answered : read_answer kind n k other (length lent) ≡ Refused 15 t 0 = rw (p.told, eq-eqb (length lent) (list_length kind n k) p.fits, refused) in
    (answered, ap (λ (a : Answer). left a (payload_of (list_length kind n k) other) lent) answered)
