-- Laws of the input's answer: each case as a branch of the code meets it, and what an accepted input keeps.
use Prim.Native.Nat.{ℕ, suc, ◌+◌, ◌-◌, ◌*◌, ◌/◌, ◌%◌, ◌≤◌, ◌<◌}
use mathlib.Core.Bool.{Bool, true, false, cond, ◌&&◌, and-true}
use mathlib.Core.List.{List}
use mathlib.Core.Logic.{◌≢◌}
use mathlib.Core.Path.{◌≡◌, refl, sym, ap, ap₂, subst, subst₂, ◌∙◌}
use native.Mathlib.Omega.{arith}
use borrow.Author.Tests.{le-leb, lt-leb, eq-eqb, ne_eqb, leb-true, eqb-true}
use lib.Dec.{leb, eqb}
use lib.ListN.{length, get_or, take, drop, length-drop}
use lib.Seq.{take_all, length-take-le}
use Rattle.tables.specs.Answer.{Answer}
use Rattle.tables.specs.Answer.{Accepted, Refused}
use Rattle.tables.specs.Answer.{or_else, sized}
use Rattle.tables.proofs.Answers.{or_else_accepts, or_else_stop, refusal_unless, sized_iff}
use Rattle.tables.proofs.Tabulate.{tabulate_at}
use Rattle.road.specs.Corridor.{Road}
use Rattle.road.specs.Run.{cost}
use Rattle.lists.specs.Words.{links_of, steps_of, road_of, trace_of, trace_length, record_length}
use Rattle.faults.specs.Lists.{within}
use Rattle.faults.proofs.Tests.{within_holds}
use Rattle.convert.proofs.Facts.{judged_iff}
use Rattle.payload.specs.Word.{word_at}
use Rattle.payload.specs.File.{blocks_for, word_in, payload_word}
use Rattle.seals.specs.Reading.{tested}
use Rattle.block.specs.declared.Kind.{Kind}
use Rattle.block.specs.declared.Kind.TheVariants.{Corridor, CorridorDrop, Demands, DemandsDownstream, Record, RecordExits, Plan}
use Rattle.block.specs.Kinds.{Told, kind_number, list_length, later, kind_word, file_kind}
use Rattle.block.specs.Calls.{told_fits}
use Rattle.file_rows.specs.Words.{corridor_count, corridor_in, demands_in, file_width, record_in}
use Rattle.files.specs.Files.{read_then_check}
use Rattle.file_rows.specs.Rows.{Holds}
use Rattle.files.specs.Fits.{FilesFit, Accepts}
use Rattle.files.proofs.Answers.{accepts}
use Rattle.files.proofs.Contents.{own_links_lem, own_steps_lem}
use Rattle.printed.specs.declared.inner.input.Layout.{Layout}
use Rattle.printed.specs.Input.{links_in, steps_in, demands_block, demands_kind, record_block, record_kind, end_block, corridor_file, demands_file, record_file, input_answer}
use Rattle.printed.specs.Text.{refused_line, text_for, printed}
use Rattle.printed.specs.Fits.{files_left, steps_left, Laid, stated_cost}

-- ---- the tests: of the length, of N beside a K that is good, and of K beside an N that is

pub enough_told : (t : Bool) → Accepted ≡ tested t 14 0 → t ≡ true
enough_told t e = (refusal_unless t 14 0 0 (λ z. omega arith)).0 (sym e)

pub links_told : (n : ℕ) → sized (told_fits n 1) ≡ sized (within 1 64 n)
unfolding told_fits
links_told n = ap sized (and-true (within 1 64 n))

pub steps_told : (n k : ℕ) → 1 ≤ n → n ≤ 64 → sized (told_fits n k) ≡ sized (within 1 1440 k)
unfolding told_fits
steps_told n k a b = ap (λ (t : Bool). sized (t && within 1 1440 k)) ((within_holds 1 64 n).1 (record { above = a; below = b }))

-- N that the test lets pass
pub links_good : (n : ℕ) → Accepted ≡ sized (told_fits n 1) → (1 ≤ n) × (n ≤ 64)
links_good n e = let w = (within_holds 1 64 n).0 ((sized_iff _).0 (sym (e ∙ links_told n))) in (w.above, w.below)

-- ---- once N is good: block is where the demands start, and k the word there

module _ (input : List ℕ) (n : ℕ) (is : n ≡ links_in input) (block : ℕ) (b : block ≡ blocks_for (corridor_count n input)) where
  pub start : block ≡ demands_block input
  unfolding demands_block
  start = b ∙ ap (λ (x : ℕ). blocks_for (corridor_count x input)) is

  pub start_tested : tested (leb (block * 512 + 12) (length input)) 14 0 ≡ tested (leb (demands_block input * 512 + 12) (length input)) 14 0
  start_tested = ap (λ (x : ℕ). tested (leb (x * 512 + 12) (length input)) 14 0) start

  pub steps_are : (k : ℕ) → k ≡ word_in input block 2 → k ≡ steps_in input
  unfolding steps_in
  steps_are k word = word ∙ ap (λ (x : ℕ). word_in input x 2) start

-- ---- the kind of a file that starts at a place of the input

-- no kind has the number 0, which stands for none
none_said : (kind : Kind) → kind ≡ cond (eqb 0 (kind_number (later kind))) (later kind) kind
unfolding kind_number later
none_said Corridor = refl
none_said CorridorDrop = refl
none_said Demands = refl
none_said DemandsDownstream = refl
none_said Record = refl
none_said RecordExits = refl
none_said Plan = refl

-- nothing is left past the input's end, so that the oldest kind stays
pub past_kind : (kind : Kind) (at : ℕ) (input : List ℕ) → length input < at → kind ≡ file_kind kind (drop at input)
unfolding file_kind kind_word
past_kind kind at input h =
    none_said kind
    ∙ ap (λ (t : Bool). cond (eqb (cond t (word_at (drop at input) 0) 0) (kind_number (later kind))) (later kind) kind)
    (sym (lt-leb 4 (length (drop at input)) (simp length-drop (omega arith))))

-- ---- once K is good: where the files start

module _ (input : List ℕ) (n k block : ℕ) (links : n ≡ links_in input) (steps : k ≡ steps_in input) (starts : block ≡ demands_block input)
    (at : Layout) (laid : Laid block (file_kind Demands (drop (block * 512) input)) n k at) where
  chosen : file_kind Demands (drop (block * 512) input) ≡ demands_kind input
  unfolding demands_kind
  chosen = ap (λ (x : ℕ). file_kind Demands (drop (x * 512) input)) starts

  demands_at : at.demands ≡ demands_block input * 512
  demands_at = laid.demands ∙ ap (λ (x : ℕ). x * 512) starts

  record_at : at.recorded ≡ record_block input * 512
  unfolding record_block
  record_at = laid.recorded ∙ (λ z. (starts z + blocks_for (list_length (chosen z) (links z) (steps z))) * 512)

  -- `last` is the record's kind, and `blocks` how many it has, as calls gave them
  pub end_tested : (last : Kind) → last ≡ file_kind Record (drop at.recorded input) → (blocks : ℕ) → blocks ≡ blocks_for (list_length last n k)
      → tested (eqb (length input) (at.recorded + blocks * 512)) 14 0 ≡ tested (eqb (length input) (end_block input * 512)) 14 0
  unfolding end_block record_kind
  end_tested last e blocks b =
      let own : last ≡ record_kind input = e ∙ ap (λ (x : ℕ). file_kind Record (drop x input)) record_at in
      let many : blocks ≡ blocks_for (list_length (record_kind input) (links_in input) (steps_in input)) = b ∙ (λ z. blocks_for (list_length (own z) (links z) (steps z))) in
      let ends : at.recorded + blocks * 512 ≡ end_block input * 512 = omega (arith, record_at, many) in
      ap (λ (x : ℕ). tested (eqb (length input) x) 14 0) ends

  pub in_order : end_block input * 512 ≡ length input → at.recorded ≤ length input
  unfolding end_block
  in_order e = omega (arith, record_at)

  -- the files as the code lends them are the input's
  pub corridor_lent : take at.demands input ≡ corridor_file input
  corridor_lent = ap (λ (x : ℕ). take x input) demands_at

  pub demands_lent : take (at.recorded - at.demands) (drop at.demands input) ≡ demands_file input
  demands_lent = λ z. take (record_at z - demands_at z) (drop (demands_at z) input)

  pub record_lent : drop at.recorded input ≡ record_file input
  record_lent = ap (λ (x : ℕ). drop x input) record_at

-- ---- what an accepted input keeps

pub record Kept (input : List ℕ) : Type 0 where
  pub whole : length input ≡ end_block input * 512
  pub some : 12 ≤ length input
  pub holds : demands_block input * 512 + 12 ≤ length input
  pub told : Told (links_in input) (steps_in input)
  pub fit : FilesFit (links_in input) (steps_in input) (corridor_file input) (demands_file input) (record_file input)
  pub accepted : Accepts (links_in input) (steps_in input) (corridor_file input) (demands_file input) (record_file input)

pub input_kept : (input : List ℕ) → input_answer input ≡ Accepted → Kept input
unfolding input_answer
input_kept input e =
    let a = (or_else_accepts (tested (leb (length input) 65536) 14 0) _).0 e in
    let b = (or_else_accepts (tested (leb 12 (length input)) 14 0) _).0 a.1 in
    let c = (or_else_accepts (sized (within 1 64 (links_in input))) _).0 b.1 in
    let d = (or_else_accepts (tested (leb (demands_block input * 512 + 12) (length input)) 14 0) _).0 c.1 in
    let f = (or_else_accepts (sized (within 1 1440 (steps_in input))) _).0 d.1 in
    let g = (or_else_accepts (tested (eqb (length input) (end_block input * 512)) 14 0) _).0 f.1 in
    let links = (within_holds 1 64 (links_in input)).0 ((sized_iff _).0 c.0) in
    let steps = (within_holds 1 1440 (steps_in input)).0 ((sized_iff _).0 f.0) in
    let told : Told (links_in input) (steps_in input) =
    record { links_low = links.above; links_high = links.below; steps_low = steps.above; steps_high = steps.below } in
    let h = accepts (links_in input) (steps_in input) (corridor_file input) (demands_file input) (record_file input) _ told refl g.1 in
    record {
      whole = eqb-true _ _ ((refusal_unless _ 14 0 0 (λ z. omega arith)).0 g.0);
      some = leb-true _ _ ((refusal_unless _ 14 0 0 (λ z. omega arith)).0 b.0);
      holds = leb-true _ _ ((refusal_unless _ 14 0 0 (λ z. omega arith)).0 d.0);
      told = told;
      fit = h.0;
      accepted = h.1;
    }

-- ---- the cost that an accepted record states

pub cost_stated : (links steps : ℕ) (corridor demands recorded : List ℕ) → FilesFit links steps corridor demands recorded → Accepts links steps corridor demands recorded
    → stated_cost links steps recorded
    ≡ cost (road_of (corridor_in links corridor) (demands_in links steps demands))
    (trace_of (file_width recorded) (road_of (corridor_in links corridor) (demands_in links steps demands)) (record_in (file_width recorded) links steps recorded))
unfolding road_of
cost_stated links steps corridor demands recorded fit accepted =
    let width : ℕ = file_width recorded in
    let road : Road = road_of (corridor_in links corridor) (demands_in links steps demands) in
    let total : ℕ = cost road (trace_of width road (record_in width links steps recorded)) in
    let costs = ((judged_iff width road (record_in width links steps recorded)).0 accepted.judges).costs in
    let place : trace_length width links steps ≡ trace_length width (links_of (corridor_in links corridor)) (steps_of (demands_in links steps demands)) =
    sym (ap₂ (trace_length width) (own_links_lem links steps corridor demands recorded fit) (own_steps_lem links steps corridor demands recorded fit)) in
    let low : payload_word recorded (trace_length width links steps) ≡ total % 4294967296 =
    sym (tabulate_at (record_length width links steps) (payload_word recorded) (trace_length width links steps) 0 (omega arith))
    ∙ ap (λ (n : ℕ). get_or (record_in width links steps recorded) n 0) place
    ∙ costs.low in
    let high : payload_word recorded (trace_length width links steps + 1) ≡ total / 4294967296 =
    sym (tabulate_at (record_length width links steps) (payload_word recorded) (trace_length width links steps + 1) 0 (omega arith))
    ∙ ap (λ (n : ℕ). get_or (record_in width links steps recorded) (n + 1) 0) place
    ∙ costs.high in
    omega arith

-- ---- an input that is too long

input_long : (input : List ℕ) → 65536 < length input → Refused 14 0 0 ≡ input_answer input
unfolding input_answer
input_long input h = or_else_stop _ _ _ (ap (λ (t : Bool). tested t 14 0) (sym (lt-leb (length input) 65536 h))) tt

-- it is refused by 14
long_printed : (input : List ℕ) → 65536 < length input → printed input ≡ refused_line 14 0 0
unfolding printed
long_printed input h = ap (λ (a : Answer). text_for a input) (sym (input_long input h))

-- so what is printed for its first 65,537 bytes is what is to be printed for all of it
pub cut_printed : (input : List ℕ) → 65536 < length input → printed (take 65537 input) ≡ printed input
cut_printed input h =
    long_printed (take 65537 input) (omega (arith, length-take-le 65537 input (omega (arith, h)))) ∙ sym (long_printed input h)
