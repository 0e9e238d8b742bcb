-- Every word of a plan's record has 32 bits, whatever the plan.
use Prim.Native.Nat.{ℕ, zero, suc, ◌≤◌, ◌<◌}
use native.Mathlib.Omega.{arith}
use lib.ListN.{get_or}
use Rattle.road.specs.Corridor.{Road, Plan}
use Rattle.road.specs.Run.{run}
use Rattle.road.specs.Limits.{Limits}
use Rattle.road.proofs.Sizes.{run_flows_fit, run_state_fits, run_cost_lem}
use Rattle.road.proofs.Zeros.{run_exit_le}
use Rattle.lists.specs.Words.{node_word, trace_word, record_words}
use Rattle.lists.proofs.Words.{record_each}

module _ (width : ℕ) (road : Road) (limits : Limits road) (plan : Plan) where
  -- n, l, f, r and the exit, which is no more than f
  trace_word_fits : (k i q : ℕ) → k ≤ road.steps → i ≤ road.links → trace_word road (run road plan) k i q < 4294967296
  unfolding node_word run
  trace_word_fits k i zero hk hi = omega (arith, (run_state_fits road limits plan k i hk hi).vehicles)
  trace_word_fits k i (suc zero) hk hi = omega (arith, (run_state_fits road limits plan k i hk hi).queue)
  trace_word_fits k i (suc (suc zero)) hk hi = omega (arith, (run_flows_fit road limits plan k i hk hi).main)
  trace_word_fits k i (suc (suc (suc zero))) hk hi = omega (arith, (run_flows_fit road limits plan k i hk hi).ramp)
  trace_word_fits k i (suc (suc (suc (suc q)))) hk hi = omega (arith, run_exit_le road limits plan k i hk hi, (run_flows_fit road limits plan k i hk hi).main)

  pub record_fits_lem : (j : ℕ) → get_or (record_words width road (run road plan)) j 0 < 4294967296
  record_fits_lem =
      record_each width road (run road plan) (λ word. word < 4294967296) (λ k i q hk hi hq. trace_word_fits k i q hk hi)
      (omega arith) (omega (arith, run_cost_lem road limits plan)) (omega arith)
