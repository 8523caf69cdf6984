use Rattle.store_machine.specs.Calls.{IsReady}
use Rattle.store_core.specs.Stores.{state_of}
use Rattle.store_cases.proofs.steps.take_all.Given as goal

abbrev pub invariant-loop-step : goal.invariant-loop-step
invariant-loop-step g l = IsReady (state_of g.D.Device.seen l.store)
