use Rattle.std.proofs.Common.{Err, ap, refl, sym, subst}
use Rattle.store_machine.specs.Calls.{Makes}
use Rattle.store_machine.specs.Standing.{StoreState}
use Rattle.dev_model.specs.Story.{DeviceState}
use Rattle.store_machine.specs.declared.events.Action.TheVariants.{JobWrite}
use Rattle.store_machine.specs.declared.events.Refusal.{Refusal}
use Rattle.store_core.specs.Stores.{state_of}
use Rattle.store_core.proofs.WorkEvents.{after-stop, page-failed, write-stopped, wrote-page}
use Rattle.store_core.proofs.store.Store.job_write.Goals as goal

pub returns-in-Some-clause-event : goal.returns-in-Some-clause-event
returns-in-Some-clause-event g c =
    let old : StoreState = state_of g.D.Device.seen c.args.self.now in
    write-stopped old c.args.owner c.in-Some.faults c.args.job.now c.requires.begun c.requires.left c.in-Some.is

pub returns-in-Ok-clause-event : goal.returns-in-Ok-clause-event
returns-in-Ok-clause-event g c =
    wrote-page (state_of g.D.Device.seen c.args.self.now) (g.D.Device.seen c.write_job_page.new.device) c.write_job_page.new.state.0 c.args.owner c.args.job.now c.in-Ok.ensures.made.0 tt
    (record { going = c.in_default.is; made = c.in-Ok.ensures.made.3; table = c.in-Ok.ensures.table c.args.self.now.log; clock_told = λ s is. g.met.D.Device.clock_told _ s is })
    c.requires.begun c.requires.left c.in-Ok.ensures.made.1 c.in-Ok.ensures.lists

pub returns-in-Err-clause-event : goal.returns-in-Err-clause-event
returns-in-Err-clause-event g c =
    let old : StoreState = state_of g.D.Device.seen c.args.self.now in
    let now : DeviceState = g.D.Device.seen c.write_job_page.new.device in
    let new : StoreState = state_of g.D.Device.seen c.stop.new.self in
    subst (λ (r : Refusal). Makes old new c.args.owner (JobWrite (record { owner = c.args.owner; job = c.args.job.now }) (Err r))) (sym c.stop.ensures.fault)
    (page-failed old new now c.write_job_page.new.state.0 c.args.owner c.args.job.now _ c.in-Err.ensures.made.0 _
    (after-stop old new now c.args.self.now.log c.write_job_page.new.state.0 refl (ap (λ s. s.0) c.in-Err.ensures.unchanged.0)
    (ap (state_of g.D.Device.seen) c.stop.ensures.stopped))
    (record { going = c.in_default.is; made = c.in-Err.ensures.made.3; table = c.in-Err.ensures.table c.args.self.now.log; clock_told = λ s is. g.met.D.Device.clock_told _ s is })
    c.requires.begun c.requires.left)
