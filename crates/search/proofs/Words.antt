-- Laws of the three words of a search.
use Prim.Native.Nat.{ℕ}
use mathlib.Core.List.{List}
use mathlib.Core.Path.{◌≡◌, ap, ap₂, ◌∙◌}
use lib.ListN.{length}
use Rattle.road.specs.Values.{junction_of, flows_of}
use Rattle.settings.specs.declared.Search.{Search}
use Rattle.settings.specs.Rate.{search}
use Rattle.lists.specs.Words.{width_of}
use Rattle.search.specs.declared.inner.Place.{Place}
use Rattle.search.specs.Places.{PlaceAt}
use Rattle.search.specs.Search.{search_at, search_words, searched}

-- p is the place as a call gave it, and done what the search there came to
pub search_told : (corridor demands words : List ℕ) (step node : ℕ) (p : Place) (done : Search) → PlaceAt (width_of corridor demands (length words)) corridor demands words step node p
    → done ≡ search (junction_of p.junction) (flows_of p.flows) → search_words done ≡ searched corridor demands words step node
unfolding searched search_at
search_told corridor demands words step node p done here e = ap search_words (e ∙ ap₂ search here.junction here.flows)
