use Rattle.store_core.specs.Stores.{state_of}
use Rattle.store_commands.proofs.Serving.{standing-after}
use Rattle.store_commands.proofs.Flushing.{page-log, page-next, page-refused, page-failed}
use Rattle.store_machine.specs.declared.events.Action.TheVariants as action
use Rattle.std.proofs.Common.{◌∙◌}
use Rattle.store_commands.proofs.upkeep.write_pages.Goals as goal

pub returns-in-Err-clause-upkeep : goal.returns-in-Err-clause-upkeep
returns-in-Err-clause-upkeep g c =
    page-refused (state_of g.D.Device.seen c.args.store.now) (state_of g.D.Device.seen c.loop-store.store) (state_of g.D.Device.seen c.job_write.new.self) c.args.owner (record { owner = c.args.owner; job = c.loop-store.job }) c.in-Err.refusal
    c.loop-store.invariant.upkeep c.loop-store.invariant.standing c.in-Err.ensures.event

pub returns-in-Err-clause-written : goal.returns-in-Err-clause-written
returns-in-Err-clause-written g c =
    page-failed (state_of g.D.Device.seen c.args.store.now) (state_of g.D.Device.seen c.loop-store.store) (state_of g.D.Device.seen c.job_write.new.self) c.args.owner (record { owner = c.args.owner; job = c.loop-store.job }) c.job_write.new.job c.in-Err.refusal
    c.loop-store.invariant.log c.loop-store.invariant.standing c.in-Err.ensures.event

pub loop-store-preserved : goal.loop-store-preserved
loop-store-preserved g c = record {
  ready = c.job_write.ensures.ready;
  standing = standing-after (state_of g.D.Device.seen c.loop-store.store) (state_of g.D.Device.seen c.job_write.new.self) c.args.owner (action.JobWrite (record { owner = c.args.owner; job = c.loop-store.job }) c.job_write.result) c.loop-store.invariant.standing c.job_write.ensures.event;
  begun = c.job_write.ensures.begun;
  log = page-log (state_of g.D.Device.seen c.loop-store.store) (state_of g.D.Device.seen c.job_write.new.self) c.args.owner (record { owner = c.args.owner; job = c.loop-store.job }) c.job_write.result c.loop-store.invariant.standing c.job_write.ensures.event ∙ c.loop-store.invariant.log;
  upkeep = page-next (state_of g.D.Device.seen c.args.store.now) (state_of g.D.Device.seen c.loop-store.store) (state_of g.D.Device.seen c.job_write.new.self) c.args.owner (record { owner = c.args.owner; job = c.loop-store.job }) c.loop-store.invariant.upkeep c.in_default-job_write.ensures.event;
}
