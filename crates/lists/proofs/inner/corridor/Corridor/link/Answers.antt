-- By the words that are read.
use native.Mathlib.Omega.{arith}
use Rattle.lists.specs.Words.{node_at}
use Rattle.lists.proofs.Corridors.{nine_words, word_among, place_read}
use Rattle.lists.proofs.inner.corridor.Corridor.link.Goals as goal

pub word-requires : goal.word-requires
word-requires c = (c.requires, nine_words _ _ _ (omega arith))

pub word-requires-2 : goal.word-requires-2
word-requires-2 c = (c.requires, nine_words _ _ _ (omega arith))

pub word-requires-3 : goal.word-requires-3
word-requires-3 c = (c.requires, nine_words _ _ _ (omega arith))

pub word-requires-4 : goal.word-requires-4
word-requires-4 c = (c.requires, nine_words _ _ _ (omega arith))

pub word-requires-5 : goal.word-requires-5
word-requires-5 c = (c.requires, word_among _ _ _ _ _ c.by_kind.ensures (omega arith) (omega arith))

pub word-requires-6 : goal.word-requires-6
word-requires-6 c = (c.requires, word_among _ _ _ _ _ c.by_kind-2.ensures (omega arith) (omega arith))

pub returns : goal.returns
unfolding node_at
returns c = let read = place_read c.args.self.words.now c.args.self.links c.args.i in
    λ z. record {
      capacity = c.word.ensures z;
      full_speed = c.word-2.ensures z;
      wave_speed = c.word-3.ensures z;
      jam = c.word-4.ensures z;
      dropped_capacity = read _ 9 1 _ c.args.self.fits c.by_kind.ensures c.word-5.ensures z;
      drop_density = read _ 10 4 _ c.args.self.fits c.by_kind-2.ensures c.word-6.ensures z;
    }
