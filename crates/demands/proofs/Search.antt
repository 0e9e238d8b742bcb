-- Request 02 over lists of words is proved: by the laws of a search at one node, and by demand 3.
use Prim.Native.Nat.{ℕ, ◌+◌, ◌≤◌, ◌<◌}
use mathlib.Core.Bool.{Bool, true, false, ◌&&◌}
use mathlib.Core.List.{List}
use mathlib.Core.Logic.{◌↔◌, ◌⊎◌, inl, inr, ⊎_elim, ◌≢◌}
use mathlib.Core.Path.{◌≡◌, refl, sym, ap, subst, ◌∙◌}
use native.Mathlib.Omega.{arith}
use borrow.Author.Tests.{lt-ltb, le-ltb, le-leb, lt-leb, eqb-true}
use lib.Dec.{ltb, leb, eqb}
use lib.ListN.{length}
use Rattle.tables.specs.Answer.{Answer}
use Rattle.tables.specs.Answer.{Accepted, Refused}
use Rattle.tables.specs.Answer.{or_else, sized}
use Rattle.tables.specs.Halving.{ceil_log}
use Rattle.tables.proofs.Answers.{left_accepted, or_else_accepts, sized_iff}
use Rattle.tables.proofs.Numbers.{le_or_lt, not_both}
use Rattle.tables.proofs.Tests.{and_iff}
use Rattle.road.specs.Corridor.{Flows}
use Rattle.road.specs.Step.{Junction}
use Rattle.road.specs.Run.{junction}
use Rattle.std.specs.Prelude.{Option, Some, None}
use Rattle.road.specs.declared.Units.{Units}
use Rattle.settings.specs.Rate.{full_flows, search}
use Rattle.settings.specs.Share.{Gives, Finds, IsFull, IsHeld, IsSetting}
use Rattle.settings.proofs.Rates.{rate_finds, search_found}
use Rattle.settings.proofs.Tries.{promised, reached}
use Rattle.lists.specs.Words.{links_of, steps_of, road_of}
use Rattle.lengths.specs.Lengths.{record_sized, sizes}
use Rattle.list_scans.specs.Refusals.{ranges, limits}
use Rattle.convert.specs.Convert.{check_answer}
use Rattle.search.specs.Search.{search_at, found_word, rate_word, searched, place_answer, search_answer, search_left}
use Rattle.demands.specs.Demand3.{recorded, recorded_flows}
use Rattle.demands.specs.Search.{SearchCalls, SearchedAt}
use Rattle.demands.proofs.Demand3Laws.{road_limits, returned_settings, returned_full_speed}

-- ---- the refusals

-- a test among those of 1 fails, or holds
also_fails : (s w also : Bool) (rest : Answer) → also ≡ false → or_else (sized (s && (w && also))) rest ≡ Refused 1 0 0
also_fails false w also rest e = refl
also_fails true false also rest e = refl
also_fails true true also rest e = ap (λ (t : Bool). or_else (sized t) rest) e

also_holds : (s w also : Bool) (rest : Answer) → also ≡ true → or_else (sized (s && (w && also))) rest ≡ or_else (sized (s && w)) rest
also_holds false w also rest e = refl
also_holds true false also rest e = refl
also_holds true true also rest e = ap (λ (t : Bool). or_else (sized t) rest) e

-- of three tests one fails
one_fails : (a b c : Bool) → (a ≡ false) ⊎ (b ≡ false) ⊎ (c ≡ false) → (a && (b && c)) ≡ false
one_fails false b c h = refl
one_fails true false c h = refl
one_fails true true c h = ⊎_elim (λ e. absurd (not_both true refl e)) (λ g. ⊎_elim (λ e. absurd (not_both true refl e)) (λ e. e) g) h

not_equal : (x y : ℕ) → x ≢ y → (t : Bool) → eqb x y ≡ t → t ≡ false
not_equal x y h true e = absurd (h (eqb-true x y e))
not_equal x y h false e = refl

pub search_calls : (corridor demands words : List ℕ) (step node : ℕ) → SearchCalls corridor demands words step node
unfolding place_answer check_answer
search_calls corridor demands words step node =
    record {
      refuses_by_1 = λ room h. also_fails (sizes corridor demands) (record_sized (links_of corridor) (steps_of demands) (length words)) _ _ (one_fails _ _ _ (fails room h));
      else_as_checker = λ early here.
          also_holds (sizes corridor demands) (record_sized (links_of corridor) (steps_of demands) (length words)) _ _
          ((and_iff (ltb step (steps_of demands)) _).1 (lt-ltb step (steps_of demands) early, (and_iff (leb node (links_of corridor)) (eqb 3 3)).1 (le-leb node (links_of corridor) here, refl)));
    }
  where
    fails : (room : ℕ) → (steps_of demands ≤ step) ⊎ (links_of corridor < node) ⊎ (room ≢ 3)
        → (ltb step (steps_of demands) ≡ false) ⊎ (leb node (links_of corridor) ≡ false) ⊎ (eqb room 3 ≡ false)
    fails room h =
        ⊎_elim (λ e. inl (le-ltb step (steps_of demands) e)) (λ g. inr (⊎_elim (λ e. inl (lt-leb node (links_of corridor) e)) (λ e. inr (not_equal room 3 e (eqb room 3) refl)) g)) h

-- ---- an accepted record's lists are within limits

within : (corridor demands words : List ℕ) → check_answer corridor demands words ≡ Accepted → limits corridor demands ≡ Accepted
unfolding check_answer limits
within corridor demands words e =
    let (fit, rest) = (or_else_accepts (sized (sizes corridor demands && record_sized (links_of corridor) (steps_of demands) (length words))) _).0 e in
    let s = ((and_iff (sizes corridor demands) _).0 ((sized_iff _).0 fit)).0 in
    (or_else_accepts (sized (sizes corridor demands)) (ranges (road_of corridor demands))).1 ((sized_iff (sizes corridor demands)).1 s, ((or_else_accepts (ranges (road_of corridor demands)) _).0 rest).0)

not_found : (c : ℕ) → ◌≡◌ {A = Option Units} None (Some (record { 0 = c })) → ⊥
not_found c e = let z : ◌≡◌ {A = ℕ} 0 1 = ap found_word e in absurd (omega arith)

-- ---- at one node: what is found, and the setting that document 01 names

module _ (junction : Junction) (wanted : Flows) where
  pub found_finds : Finds junction wanted (search junction wanted).found
  found_finds = subst (λ (x : Option Units). Finds junction wanted x) (sym (search_found junction wanted)) (rate_finds junction wanted)

  module _ (rate limit : ℕ) (named : IsSetting junction wanted rate limit) (full_speed_lem : (limit ≡ junction.link.full_speed) ↔ ((c : ℕ) × (c ≤ junction.ramp.capacity) × Gives junction wanted c)) where
    -- by what is found
    full_by : (found : Option Units) → Finds junction wanted found → (c : ℕ) → (found ≡ Some (record { 0 = c })) ↔ ((limit ≡ junction.link.full_speed) × (rate ≡ c))
    full_by (Some x) h c = (
      λ e. let q : x.0 ≡ c = ap (λ (f : Option Units). rate_word f) e in let (p, r) = posted in (p, r ∙ q),
      λ (p, r). let q : x.0 ≡ c = sym posted.1 ∙ r in λ z. Some (record { 0 = q z }),
    )
      where
        posted : (limit ≡ junction.link.full_speed) × (rate ≡ x.0)
        posted =
            ⊎_elim
            (λ (f : IsFull junction wanted rate limit). (f.posted, omega (arith, f.smallest.least x.0 h.gives, h.least rate f.smallest.gives)))
            (λ (g : IsHeld junction wanted rate limit). absurd (g.none x.0 h.within h.gives))
            named
    full_by None h c = (λ e. absurd (not_found c e), λ (p, r). let (d, b, g) = full_speed_lem.0 p in absurd (h d b g))

    bounded : limit ≤ junction.link.full_speed
    bounded = ⊎_elim (λ (f : IsFull junction wanted rate limit). omega (arith, f.posted)) (λ (g : IsHeld junction wanted rate limit). g.within) named

    none_by : (found : Option Units) → Finds junction wanted found → (found ≡ None) ↔ (limit < junction.link.full_speed)
    none_by (Some x) h = (λ e. absurd (not_found x.0 (sym e)), λ l. absurd (let p = full_speed_lem.1 (x.0, h.within, h.gives) in omega arith))
    none_by None h = (
      λ e. ⊎_elim (λ (l : junction.link.full_speed ≤ limit). let (d, c, g) = full_speed_lem.0 (omega (arith, bounded)) in absurd (h d c g)) (λ (l : limit < junction.link.full_speed). l) (le_or_lt junction.link.full_speed limit),
      λ l. refl,
    )

pub searched_at : (corridor demands words : List ℕ) → check_answer corridor demands words ≡ Accepted → (k i : ℕ) → k < steps_of demands → i ≤ links_of corridor
    → SearchedAt corridor demands words k i
unfolding search_left searched search_at full_flows junction road_of
searched_at corridor demands words accepted k i hk hi =
    let lim = within corridor demands words accepted in
    let at : Junction = recorded corridor demands words k i in
    let wanted : Flows = recorded_flows corridor demands words k i in
    let named = returned_settings corridor demands lim words accepted k i hk hi in
    let full_speed_lem = returned_full_speed corridor demands lim words accepted k i hk hi in
    let most = ((road_limits corridor demands lim).ramp i hi).capacity in
    let all = promised at wanted in
    record {
      leaves = λ lent e.
          sym
          (left_accepted Accepted _ _ lent _
          (sym (ap (λ (n : ℕ). search_answer corridor demands words k i n) e ∙ (search_calls corridor demands words k i).else_as_checker hk hi ∙ accepted)) refl refl);
      finds = found_finds at wanted;
      full_where_found = full_by at wanted _ _ named full_speed_lem _ (found_finds at wanted);
      held_where_none = none_by at wanted _ _ named full_speed_lem _ (found_finds at wanted);
      tries_at_most_18 = all.most most;
      tries_at_most_log = all.log;
      eighteen_only_at_the_greatest = λ e.
          ⊎_elim (λ (l : 65536 ≤ at.ramp.capacity). omega arith) (λ (l : at.ramp.capacity < 65536). absurd (let f = all.fewer l in omega arith)) (le_or_lt 65536 at.ramp.capacity);
      one_without_a_choice = all.one;
      log_reached = λ g. subst (λ (x : Flows). (search at x).tries ≡ 1 + ceil_log (at.ramp.capacity + 1)) g (reached at).log;
    }
