use native.Mathlib.Omega.{arith}
use Rattle.simulate.proofs.Runs.{ran_begun, ran_more, ran_cost_lem, row_lent, step_row_fits}
use Rattle.simulate.proofs.inner.run.Run.run_state.Goals as goal

pub loop-k-init : goal.loop-k-init
loop-k-init c = (ran_begun _ _ _ _ _ _ c.requires.run_at, c.requires.row_fits)

pub loop-k-preserved : goal.loop-k-preserved
loop-k-preserved c = let e = c.step-total.ensures in (
  ran_more _ _ _ _ _ _ _ _ _ _ _ _ _ c.loop-k.invariant.0 (omega (arith, c.args.self.demands.fits.first)) e,
  row_lent _ _ _ _ c.args.self.corridor.fits.first (step_row_fits _ _ _ _ _ _ e.written),
)

pub returns-clause-adds : goal.returns-clause-adds
returns-clause-adds c = ran_cost_lem _ _ _ _ _ _ _ _ c.loop-k.invariant.0 (omega (arith, c.args.self.demands.fits.first))
