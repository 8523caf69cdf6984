use Rattle.std.proofs.Common.{◌≡◌, Ok}
use Rattle.build_job.specs.Steps.{steps_left}
use Rattle.store_state.specs.OwnJob.{IsJobOf}
use Rattle.store_core.specs.Stores.{state_of}
use Rattle.store_machine.specs.Calls.{IsReady, IsStanding}
use Rattle.store_commands.specs.Upkeep.{KeepsUp}
use Rattle.store_commands.proofs.upkeep.write_pages.Given as goal

abbrev pub invariant-loop-store : goal.invariant-loop-store
invariant-loop-store g l = record {
  ready : IsReady (state_of g.D.Device.seen l.store);
  standing : IsStanding (state_of g.D.Device.seen l.store);
  begun : IsJobOf l.store.state.0 l.owner l.job;
  log : l.store.log ≡ l.fn.store.log;
  upkeep : KeepsUp (state_of g.D.Device.seen l.fn.store) (state_of g.D.Device.seen l.store) l.owner (Ok tt);
}

abbrev pub decreases-loop-store : goal.decreases-loop-store
decreases-loop-store g l = steps_left l.job
