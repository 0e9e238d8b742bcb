-- The words that are unpacked are the corridor's, and fit.
use native.Mathlib.Omega.{arith}
use lib.ListN.{length-take}
use Rattle.files.proofs.Contents.{corridor_kept}
use Rattle.files.proofs.inner.answers.ReadFiles.corridor.Goals as goal

pub invariant_of-result : goal.invariant_of-result
invariant_of-result c =
    record {
      fits = corridor_kept _ _ _ _ _ c.args.self.fit _ _ c.unpack.ensures (simp length-take (omega (arith, c.corridor_count-count.ensures, c.requires)));
    }
