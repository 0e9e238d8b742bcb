-- The views fit, as the files do.
use mathlib.Core.Path.{sym, ◌∙◌}
use Rattle.files.proofs.Contents.{files_opened}
use Rattle.files.proofs.inner.answers.ReadFiles.proposal.Goals as goal

pub invariant_of-result : goal.invariant_of-result
invariant_of-result c =
    let corridor = c.corridor.ensures in
    let demands = c.demands.ensures in
    let recorded = c.record.ensures in
    record {
      ready =
          files_opened _ _ _ _ _ c.args.self.fit _ _ _ _ _ _ _ corridor.links demands.told.1 recorded.width demands.told.0 corridor.words demands.bytes
          recorded.bytes c.requires.ranged;
      same = (demands.told.0 ∙ sym corridor.links, recorded.told.0 ∙ sym corridor.links, recorded.told.1 ∙ sym demands.told.1);
    }
