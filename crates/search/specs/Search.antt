-- Request 02 at one node and step of a record: what the search for its rate comes to, in three words, and what the call refuses.
use Rattle.std.specs.Prelude.{ℕ, Bool, ◌&&◌, List, [], ◌∷◌, length, ltb, leb, eqb, Option, Some, None}
use Rattle.tables.specs.Answer.{Answer}
use Rattle.tables.specs.Answer.{left}
use Rattle.road.specs.declared.Units.{Units}
use Rattle.road.specs.Corridor.{Road, Trace}
use Rattle.road.specs.Run.{junction}
use Rattle.settings.specs.declared.Search.{Search}
use Rattle.settings.specs.Rate.{search}
use Rattle.lists.specs.Words.{links_of, steps_of, road_of, trace_of, width_of}
use Rattle.convert.specs.Convert.{record_answer}

-- the search for a rate of node i that gives the record's flows in step k from the record's state
unfoldable pub search_at : Road → Trace → ℕ → ℕ → Search
search_at road trace k i = search (junction road k (trace.state k) i) (trace.flows k i)

-- 1 if a rate was found, else 0
abbrev pub found_word : Option Units → ℕ
found_word (Some rate) = 1
found_word None = 0

-- the rate, or 0
abbrev pub rate_word : Option Units → ℕ
rate_word (Some rate) = rate.0
rate_word None = 0

unfoldable pub search_words : Search → List ℕ
search_words done = done.tries ∷ found_word done.found ∷ rate_word done.found ∷ []

-- the search's words of a record, whose length tells its kind
unfoldable pub searched : List ℕ → List ℕ → List ℕ → ℕ → ℕ → List ℕ
searched corridor demands words step node =
    search_words (search_at (road_of corridor demands) (trace_of (width_of corridor demands (length words)) (road_of corridor demands) words) step node)

-- "A step not below K, a node above N or a wrong length of out is refusal 1 with the other refusals 1; otherwise it refuses as the checker does."
-- `fits` says whether the lent list has the length that the call asks
unfoldable pub place_answer : List ℕ → List ℕ → List ℕ → ℕ → ℕ → Bool → Answer
place_answer corridor demands words step node fits = record_answer (ltb step (steps_of demands) && (leb node (links_of corridor) && fits)) corridor demands words

-- `room` is the length of the lent list
abbrev pub search_answer : List ℕ → List ℕ → List ℕ → ℕ → ℕ → ℕ → Answer
search_answer corridor demands words step node room = place_answer corridor demands words step node (eqb room 3)

-- the lent list at exit
unfoldable pub search_left : List ℕ → List ℕ → List ℕ → ℕ → ℕ → List ℕ → List ℕ
search_left corridor demands words step node lent =
    left (search_answer corridor demands words step node (length lent)) (searched corridor demands words step node) lent
