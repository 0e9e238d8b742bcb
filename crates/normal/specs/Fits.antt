-- What the program's functions answer of standard input and output: what was received, and what was given to be written.
use Rattle.std.specs.Prelude.{ℕ, ◌≤◌, min, Bool, true, List, ◌≡◌, ℤ, pos, negsuc, length, Option, Some, None}
use Rattle.normal.specs.declared.inner.print.Given.{Given}

-- what the C library's answer to a read of at most so many bytes says: a number below zero is a failure
abbrev pub received : ℤ → ℕ → Option ℕ
received (pos n) most = Some (min n most)
received (negsuc n) most = None

-- the bytes that were received are within the room
abbrev pub Within : Option ℕ → List ℕ → Type 0
Within (Some n) room = n ≤ length room
Within None room = Unit {0}

-- all bytes of `text` were gone through, and a failed write that was told before is told still
pub record Gives (text : List ℕ) (failed : Bool) (given : Given) : Type 0 where
  pub bytes : given.bytes ≡ length text
  pub told : failed ≡ true → given.failed ≡ true
