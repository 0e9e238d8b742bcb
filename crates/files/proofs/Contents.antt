-- Files that were read: what their own N and K and their lengths leave for the checks of the recorded in them.
use Prim.Native.Nat.{ℕ}
use mathlib.Core.Bool.{true}
use mathlib.Core.List.{List}
use mathlib.Core.Path.{◌≡◌, refl, sym, ap, ap₂, subst, subst₂, ◌∙◌}
use native.Mathlib.Omega.{arith}
use lib.ListN.{length}
use Rattle.tables.specs.Answer.{Answer}
use Rattle.tables.specs.Answer.{Accepted}
use Rattle.tables.proofs.Tabulate.{tabulate_length, tabulate_at}
use Rattle.lists.specs.Words.{links_of, steps_of, road_of, record_length, width_of}
use Rattle.lengths.specs.Lengths.{record_sized, sizes}
use Rattle.list_scans.specs.Refusals.{ranges}
use Rattle.lists.specs.Fits.{CorridorFits, DemandsFit}
use Rattle.lengths.proofs.Sizes.{CorridorSized, DemandsSized, sizes_iff, sized_words, record_sized_iff, width_is}
use Rattle.convert.specs.Rows.{Ready}
use Rattle.convert.proofs.Answers.{ready}
use Rattle.payload.specs.File.{payload_word, payload_part}
use Rattle.payload.proofs.Payloads.{payload_all}
use Rattle.file_rows.specs.Words.{corridor_count, corridor_in, demands_count, demands_in, file_width, record_in}
use Rattle.files.specs.Fits.{FilesFit}
use Rattle.file_scans.specs.Fits.{FilesReady}
use Rattle.file_rows.proofs.Corridors.{corridor_sized_lem}
use Rattle.file_rows.proofs.Demands.{count_low, count_sized}
use Rattle.file_rows.proofs.Records.{file_wide}

module _ (links steps : ℕ) (corridor demands recorded : List ℕ) (fit : FilesFit links steps corridor demands recorded) where
  pub own_links_lem : links_of (corridor_in links corridor) ≡ links
  unfolding links_of
  own_links_lem = tabulate_at (corridor_count links corridor) (payload_word corridor) 0 0 (omega arith) ∙ fit.own_links

  pub own_steps_lem : steps_of (demands_in links steps demands) ≡ steps
  unfolding steps_of
  own_steps_lem = tabulate_at (demands_count links steps demands) (payload_word demands) 0 0 (omega (arith, count_low links steps demands)) ∙ fit.own_steps

  corridor_holds_lem : CorridorSized links (length (corridor_in links corridor))
  corridor_holds_lem =
      subst (CorridorSized links) (sym (tabulate_length (corridor_count links corridor) (payload_word corridor))) (corridor_sized_lem links corridor)

  pub read_sizes : sizes (corridor_in links corridor) (demands_in links steps demands) ≡ true
  read_sizes =
      let n : links_of (corridor_in links corridor) ≡ links = own_links_lem in
      let k : steps_of (demands_in links steps demands) ≡ steps = own_steps_lem in
      let told = fit.told in
      (sizes_iff (corridor_in links corridor) (demands_in links steps demands)).1
      (record {
        links = record { above = omega (arith, told.links_low); below = omega (arith, told.links_high) };
        steps = record { above = omega (arith, told.steps_low); below = omega (arith, told.steps_high) };
        corridor_fits = subst (λ (l : ℕ). CorridorSized l (length (corridor_in links corridor))) (sym n) corridor_holds_lem;
        demands_fit =
            subst₂ (λ (l s : ℕ). DemandsSized l s (length (demands_in links steps demands))) (sym n) (sym k)
            (subst (DemandsSized links steps) (sym (tabulate_length (demands_count links steps demands) (payload_word demands)))
            (count_sized links steps demands));
      })

  pub read_length : length (record_in (file_width recorded) links steps recorded)
      ≡ record_length (file_width recorded) (links_of (corridor_in links corridor)) (steps_of (demands_in links steps demands))
  read_length =
      tabulate_length (record_length (file_width recorded) links steps) (payload_word recorded)
      ∙ ap₂ (record_length (file_width recorded)) (sym own_links_lem) (sym own_steps_lem)

  -- the kind that its file chooses is the one that its length tells
  pub read_width : width_of (corridor_in links corridor) (demands_in links steps demands) (length (record_in (file_width recorded) links steps recorded))
      ≡ file_width recorded
  read_width =
      ap (width_of (corridor_in links corridor) (demands_in links steps demands)) read_length
      ∙ width_is (file_width recorded) (links_of (corridor_in links corridor)) (steps_of (demands_in links steps demands)) (file_wide recorded)

  pub read_sized : record_sized (links_of (corridor_in links corridor)) (steps_of (demands_in links steps demands))
      (length (record_in (file_width recorded) links steps recorded)) ≡ true
  read_sized =
      (record_sized_iff _ _ _).1
      (read_length
      ∙ ap (λ (w : ℕ). record_length w (links_of (corridor_in links corridor)) (steps_of (demands_in links steps demands))) (sym read_width))

  read_ready : (a : Answer) → a ≡ ranges (road_of (corridor_in links corridor) (demands_in links steps demands)) → a ≡ Accepted
      → Ready (file_width recorded) (corridor_in links corridor) (demands_in links steps demands) (record_in (file_width recorded) links steps recorded)
      links steps
  read_ready a e h =
      subst₂ (λ (l s : ℕ). Ready (file_width recorded) (corridor_in links corridor) (demands_in links steps demands)
      (record_in (file_width recorded) links steps recorded) l s)
      own_links_lem own_steps_lem
      (subst (λ (w : ℕ). Ready w (corridor_in links corridor) (demands_in links steps demands) (record_in (file_width recorded) links steps recorded)
      (links_of (corridor_in links corridor)) (steps_of (demands_in links steps demands)))
      read_width
      (ready (corridor_in links corridor) (demands_in links steps demands) (record_in (file_width recorded) links steps recorded) a read_sizes
      ((record_sized_iff _ _ _).0 read_sized) e h))

  -- ---- the corridor's words are unpacked into a list

  module _ (count : ℕ) (list : List ℕ) (told : list ≡ payload_part 0 count corridor) (fits : count ≡ corridor_count links corridor) where
    pub corridor_read : list ≡ corridor_in links corridor
    corridor_read = told ∙ ap (λ (n : ℕ). payload_part 0 n corridor) fits ∙ payload_all (corridor_count links corridor) corridor

    pub corridor_kept : CorridorFits list links
    corridor_kept =
        subst (λ (x : List ℕ). CorridorFits x links) (sym corridor_read)
        (record { first = sym own_links_lem; few = fit.told.links_high; words = sized_words links (length (corridor_in links corridor)) corridor_holds_lem })

  -- ---- the demands as their view has them: l is N and s is K

  pub demands_kept : (l s : ℕ) (bytes : List ℕ) → bytes ≡ demands → l ≡ links → s ≡ steps → DemandsFit (demands_in l s bytes) l s
  demands_kept l s bytes b n k =
      rw (b, n, k)
      (record {
        first = sym own_steps_lem;
        few = fit.told.links_high;
        short = fit.told.steps_high;
        words = omega (arith, tabulate_length (demands_count links steps demands) (payload_word demands), count_low links steps demands);
      })

  -- ---- all three as their views have them: l is N, s is K, w the record's width, and d the demands' N

  module _ (l s w d : ℕ) (list bytes file : List ℕ) (n : l ≡ links) (k : s ≡ steps) (v : w ≡ file_width recorded) (m : d ≡ links)
      (c : list ≡ corridor_in links corridor) (b : bytes ≡ demands) (f : file ≡ recorded) where
    pub files_opened : ranges (road_of (corridor_in links corridor) (demands_in links steps demands)) ≡ Accepted → FilesReady w l s list bytes file
    files_opened h =
        rw (n, k, v, c, b, f)
        (record { ready = read_ready _ refl h; demands_hold = fit.demands_hold; record_holds = fit.record_holds })

    pub files_viewed : Accepted ≡ ranges (road_of list (demands_in d s bytes)) → FilesReady w l s list bytes file
    files_viewed e = files_opened (sym (e ∙ (λ z. ranges (road_of (c z) (demands_in (m z) (k z) (b z))))))
