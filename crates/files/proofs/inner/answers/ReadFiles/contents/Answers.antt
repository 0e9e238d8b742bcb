-- The views fit, as the files do.
use mathlib.Core.Path.{sym, ◌∙◌}
use Rattle.files.proofs.Contents.{demands_kept, files_viewed}
use Rattle.files.proofs.inner.answers.ReadFiles.contents.Goals as goal

pub ranges-requires-clause-demands_fit : goal.ranges-requires-clause-demands_fit
ranges-requires-clause-demands_fit c =
    let demands = c.demands-demands.ensures in
    demands_kept _ _ _ _ _ c.args.self.fit _ _ _ demands.bytes demands.told.0 demands.told.1

pub invariant_of-proposal : goal.invariant_of-proposal
invariant_of-proposal c =
    let corridor = c.corridor-corridor.ensures in
    let demands = c.demands-demands.ensures in
    let recorded = c.record.ensures in
    record {
      ready =
          files_viewed _ _ _ _ _ c.args.self.fit _ _ _ _ _ _ _ corridor.links demands.told.1 recorded.width demands.told.0 corridor.words demands.bytes
          recorded.bytes c.in_ok-ranges.ensures;
      same = (demands.told.0 ∙ sym corridor.links, recorded.told.0 ∙ sym corridor.links, recorded.told.1 ∙ sym demands.told.1);
    }
