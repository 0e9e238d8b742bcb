-- Every answer of a call is small, so its number is taken apart again.
use lib.Dec.{eqb}
use Rattle.tables.proofs.Answers.{taken_apart}
use Rattle.host.specs.Numbers.{Numbers}
use Rattle.host.proofs.Answers.{simulate_small, check_small, convert_small, normal_small, place_small, read_small, write_small, check_files_small, convert_files_small}

pub every_number : Numbers
every_number =
    record {
      simulates = λ corridor demands plan room. taken_apart _ (simulate_small corridor demands plan room);
      checks = λ corridor demands words. taken_apart _ (check_small corridor demands words);
      converts = λ corridor demands words room. taken_apart _ (convert_small corridor demands words room);
      normals = λ corridor demands plan work room. taken_apart _ (normal_small corridor demands plan work room);
      searches = λ corridor demands words step node room. taken_apart _ (place_small corridor demands words step node (eqb room 3));
      checks_files = λ n k corridor demands recorded. taken_apart _ (check_files_small n k corridor demands recorded);
      converts_files = λ n k corridor demands recorded room. taken_apart _ (convert_files_small n k corridor demands recorded room);
      reads = λ kind n k file room. taken_apart _ (read_small kind n k file room);
      writes = λ kind n k words room. taken_apart _ (write_small kind n k words room);
    }
