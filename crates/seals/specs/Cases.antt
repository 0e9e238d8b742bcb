-- Worked cases of document 01 that block files meet.
use Rattle.std.specs.Prelude.{[], ◌≡◌}
use Rattle.payload.specs.Block.{check_word, body_word}
use Rattle.payload.specs.File.{payload_in}

pub record Cases : Type 0 where
  -- an otherwise zero block of kind 1, number 1
  pub case_10 : check_word (body_word 1 1 (payload_in [] 1)) ≡ 4
