use Prim.Native.Nat.{◌≤◌, ◌<◌}
use mathlib.Core.Path.{◌∙◌}
use native.Mathlib.Numerals.{add-one}
use native.Mathlib.Omega.{arith}
use Rattle.tables.proofs.Grid.{rowed_begun}
use Rattle.tables.proofs.Part.{part_length}
use Rattle.lists.specs.Words.{steps_of}
use Rattle.simulate.proofs.Runs.{ran_begun, ran_more, ran_cost_lem, ran_last, state_lent, row_wide, run_row, run_last_row, run_words_lem}
use Rattle.simulate.proofs.inner.run.Run.run_steps.Goals as goal

pub loop-k-init : goal.loop-k-init
loop-k-init c = (ran_begun _ _ _ _ _ _ c.requires.run_at, rowed_begun _ _ _ _ (rw (c.state_words-wide.ensures.0, add-one) c.requires.states_len))

pub loop-k-preserved : goal.loop-k-preserved
loop-k-preserved c =
    let e = c.step-total.ensures in
    let h : c.loop-k.k < steps_of c.args.self.demands.words.now = omega (arith, c.args.self.demands.fits.first) in (
      ran_more _ _ _ _ _ _ _ _ _ _ _ _ _ c.loop-k.invariant.0 h e,
      run_row _ _ _ _ _ _ _ _ _ _ _ c.loop-k.invariant.1 h (omega arith) (row_wide _ _ _ _ c.args.self.corridor.fits.first c.state_words-wide.ensures.0)
          c.row_at-at.ensures.0 e.written,
    )

pub rest_row-requires : goal.rest_row-requires
rest_row-requires c = (
  state_lent _ _ _ _ _ _ _ _ c.loop-k.invariant.0.keeps c.args.self.corridor.fits.first,
  part_length _ _ _ _ c.row_at-last.ensures.1 c.loop-k.invariant.1.room ∙ c.state_words-wide.ensures.0,
  c.args.self.wide,
  c.args.self.corridor.fits.few,
)

pub returns : goal.returns
returns c =
    let steps = c.args.self.demands.fits.first in
    let wide = row_wide _ _ _ _ c.args.self.corridor.fits.first c.state_words-wide.ensures.0 in
    let all : steps_of c.args.self.demands.words.now ≤ c.loop-k.k = omega (arith, steps) in
    let last = run_last_row _ _ _ _ _ _ _ _ _ _ _ _ c.loop-k.invariant.1 (omega (arith, c.loop-k.invariant.0.bound, steps)) steps (omega arith) wide
    c.row_at-last.ensures.0 (ran_last _ _ _ _ _ _ _ _ c.loop-k.invariant.0 all _ _ _ c.args.self.corridor.fits.first c.rest_row.ensures) in
    record {
      written = run_words_lem _ _ _ _ _ _ _ _ _ last (omega arith) (omega (arith, steps)) wide;
      adds = ran_cost_lem _ _ _ _ _ _ _ _ c.loop-k.invariant.0 all;
      low = omega (arith, c.loop-k.invariant.0.low, c.loop-k.invariant.0.bound, c.args.self.sound.steps);
    }
