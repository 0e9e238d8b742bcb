-- What the scans ask of the files that they are lent, once the corridor's words are unpacked.
use Rattle.std.specs.Prelude.{List, ℕ}
use Rattle.lists.specs.Words.{record_length}
use Rattle.convert.specs.Rows.{Ready}
use Rattle.file_rows.specs.Words.{demands_count, demands_in, record_in}
use Rattle.file_rows.specs.Rows.{Holds}

-- 1 to 5 are not due, and both files have their blocks, the record's with `width` words for each node
pub record FilesReady (width links steps : ℕ) (corridor demands recorded : List ℕ) : Type 0 where
  pub ready : Ready width corridor (demands_in links steps demands) (record_in width links steps recorded) links steps
  pub demands_hold : Holds (demands_count links steps demands) demands
  pub record_holds : Holds (record_length width links steps) recorded
