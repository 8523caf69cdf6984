use Rattle.build_job.specs.Steps.{steps_left}
use Rattle.store_machine.specs.Calls.{IsReady}
use Rattle.store_state.specs.OwnJob.{IsJobOf}
use Rattle.store_core.specs.Stores.{state_of}
use Rattle.store_cases.proofs.steps.write_pages.Given as goal

abbrev pub invariant-loop-store : goal.invariant-loop-store
invariant-loop-store g l = IsReady (state_of g.D.Device.seen l.store) × IsJobOf l.store.state.0 7 l.job

abbrev pub decreases-loop-store : goal.decreases-loop-store
decreases-loop-store g l = steps_left l.job
