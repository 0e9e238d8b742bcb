-- A step on row k of the demands and row k of the plan is step k of the run.
use native.Mathlib.Omega.{arith}
use Rattle.simulate.proofs.Runs.{rows_fit, step_ran}
use Rattle.simulate.proofs.inner.run.Run.step.Goals as goal

pub step-requires-2-clause-rows_fit : goal.step-requires-2-clause-rows_fit
step-requires-2-clause-rows_fit c =
    rows_fit _ _ _ _ _ c.args.self.sound c.args.self.corridor.fits.first (omega (arith, c.args.self.demands.fits.first)) _ _
    (rw c.args.self.same_links at c.step.ensures.row) c.plan_row.ensures _ _ _ c.requires.run_at

pub returns : goal.returns
returns c =
    step_ran _ _ _ _ _ c.args.self.sound c.args.self.corridor.fits.first (omega (arith, c.args.self.demands.fits.first)) _ _
    (rw c.args.self.same_links at c.step.ensures.row) c.plan_row.ensures _ _ _ c.requires.run_at _ _ _ c.args.self.demands.fits.first
    (rw c.args.self.same_links at c.step.ensures.downstream) _ _ _ _ c.step-2.ensures
