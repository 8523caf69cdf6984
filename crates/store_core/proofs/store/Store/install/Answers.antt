use Rattle.std.proofs.Common.{Err, ◌∙◌, ap, refl, sym, subst, arith}
use Rattle.store_state.specs.Lists.{Lists}
use Rattle.store_machine.specs.Calls.{Makes}
use Rattle.store_machine.specs.Standing.{StoreState}
use Rattle.dev_model.specs.Story.{DeviceState}
use Rattle.store_machine.specs.declared.events.Action.TheVariants.{Install}
use Rattle.store_machine.specs.declared.events.Refusal.{Refusal}
use Rattle.store_core.specs.Stores.{state_of}
use Rattle.store_core.proofs.WorkEvents.{after-stop, install-failed, install-stopped, was-installed}
use Rattle.store_core.proofs.store.Store.install.Goals as goal

pub returns-in-Some-clause-event : goal.returns-in-Some-clause-event
returns-in-Some-clause-event g c =
    let old : StoreState = state_of g.D.Device.seen c.args.self.now in
    install-stopped old c.args.owner c.in-Some.faults c.args.job.now c.requires.begun c.requires.ready.lists c.requires.written c.in-Some.is

pub returns-in-Ok-clause-event : goal.returns-in-Ok-clause-event
returns-in-Ok-clause-event g c =
    was-installed (state_of g.D.Device.seen c.args.self.now) (g.D.Device.seen c.install_job.new.device) c.install_job.new.state.0 c.args.owner c.args.job.now tt
    (record { going = c.in_default.is; made = c.in-Ok.ensures.made; table = c.in-Ok.ensures.table c.args.self.now.log c.requires.ready.numbered; clock_told = λ s is. g.met.D.Device.clock_told _ s is })
    c.requires.begun c.requires.ready.lists c.requires.written (c.in-Ok.ensures.lists c.requires.begun.row c.requires.begun.is)

pub returns-in-Err-clause-event : goal.returns-in-Err-clause-event
returns-in-Err-clause-event g c =
    let old : StoreState = state_of g.D.Device.seen c.args.self.now in
    let now : DeviceState = g.D.Device.seen c.install_job.new.device in
    let new : StoreState = state_of g.D.Device.seen c.stop.new.self in
    subst (λ (r : Refusal). Makes old new c.args.owner (Install (record { owner = c.args.owner; job = c.args.job.now }) (Err r))) (sym c.stop.ensures.fault)
    (install-failed old new now c.install_job.new.state.0 c.args.owner c.args.job.now _
    (after-stop old new now c.args.self.now.log c.install_job.new.state.0 refl (ap (λ s. s.0) c.in-Err.ensures.unchanged)
    (ap (state_of g.D.Device.seen) c.stop.ensures.stopped))
    (record { going = c.in_default.is; made = c.in-Err.ensures.made; table = c.in-Err.ensures.table c.args.self.now.log c.requires.ready.numbered; clock_told = λ s is. g.met.D.Device.clock_told _ s is })
    c.requires.begun c.requires.ready.lists c.requires.written)

pub returns-in-Ok-clause-ready : goal.returns-in-Ok-clause-ready
returns-in-Ok-clause-ready g c =
    let ready = c.requires.ready in
    let in_order = c.in-Ok.ensures.in_order c.args.self.now.log (record { lists = ready.lists; numbered = ready.numbered; counted = ready.counted }) in
    let installed = c.in-Ok.ensures.lists c.requires.begun.row c.requires.begun.is in
    record {
      pages = omega (arith, ready.pages, c.in-Ok.ensures.made.same_pages);
      space = ap (λ (l : Lists). l.space.pages) installed ∙ ready.space ∙ sym c.in-Ok.ensures.made.same_pages;
      lists = in_order.lists;
      numbered = in_order.numbered;
      counted = in_order.counted;
    }
