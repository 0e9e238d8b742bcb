-- "0 is accepted": the one number that the C host gets tells the answer whole, whichever call gave it and whatever it was lent.
use Rattle.std.specs.Prelude.{List, ℕ}
use Rattle.tables.specs.Answer.{TakenApart}
use Rattle.simulate.specs.Simulate.{simulate_answer}
use Rattle.convert.specs.Convert.{check_answer, convert_answer, normal_answer}
use Rattle.search.specs.Search.{search_answer}
use Rattle.block.specs.declared.Kind.{Kind}
use Rattle.block.specs.Calls.{read_answer, write_answer}
use Rattle.files.specs.Files.{check_files, convert_files}

-- the calls on nodes have the answers of those on words
pub record Numbers : Type 0 where
  pub simulates : (corridor demands plan : List ℕ) (room : ℕ) → TakenApart (simulate_answer corridor demands plan room)
  pub checks : (corridor demands words : List ℕ) → TakenApart (check_answer corridor demands words)
  pub converts : (corridor demands words : List ℕ) (room : ℕ) → TakenApart (convert_answer corridor demands words room)
  pub normals : (corridor demands plan : List ℕ) (work room : ℕ) → TakenApart (normal_answer corridor demands plan work room)
  pub searches : (corridor demands words : List ℕ) (step node room : ℕ) → TakenApart (search_answer corridor demands words step node room)
  pub checks_files : (n k : ℕ) (corridor demands recorded : List ℕ) → TakenApart (check_files n k corridor demands recorded)
  pub converts_files : (n k : ℕ) (corridor demands recorded : List ℕ) (room : ℕ) → TakenApart (convert_files n k corridor demands recorded room)
  pub reads : (kind : Kind) (n k : ℕ) (file : List ℕ) (room : ℕ) → TakenApart (read_answer kind n k file room)
  pub writes : (kind : Kind) (n k : ℕ) (words : List ℕ) (room : ℕ) → TakenApart (write_answer kind n k words room)
