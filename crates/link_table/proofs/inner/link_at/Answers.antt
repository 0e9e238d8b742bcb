-- By the words that are read.
use Rattle.link_table.specs.Table.{link_in}
use Rattle.link_table.proofs.inner.link_at.Goals as goal

pub returns : goal.returns
unfolding link_in
returns c = λ z. record {
  capacity = c.word.ensures z;
  full_speed = c.word-2.ensures z;
  wave_speed = c.word-3.ensures z;
  jam = c.word-4.ensures z;
  dropped_capacity = c.word-5.ensures z;
  drop_density = c.word-6.ensures z;
}
