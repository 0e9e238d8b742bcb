-- The run starts at the corridor's start.
use mathlib.Core.Path.{ap, ◌∙◌}
use native.Mathlib.Omega.{arith}
use lib.ListN.{length-take}
use Rattle.link_table.specs.Table.{table_of}
use Rattle.simulate.proofs.Runs.{started}
use Rattle.simulate.proofs.inner.run.Run.run_all.Goals as goal

pub run_steps-requires-clause-run_at : goal.run_steps-requires-clause-run_at
run_steps-requires-clause-run_at c =
    record {
      tabled = c.fill.ensures ∙ ap (table_of _) c.args.self.corridor.fits.first;
      reached = started _ _ _ _ _ c.args.self.corridor.fits.first c.start.ensures;
      room = simp length-take (omega (arith, c.args.self.corridor.fits, c.nodes-nodes.ensures));
    }
