-- Its four bytes, stored.
use native.Mathlib.Omega.{arith}
use Rattle.payload.proofs.Words.{word_copied}
use Rattle.payload.proofs.inner.words.put_word.Goals as goal

pub returns : goal.returns
returns c = word_copied _ _ _ _ _ _ c.copy_from_slice.ensures.after c.to_le_bytes.ensures (omega arith) c.requires
