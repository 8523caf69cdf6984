use Rattle.std.proofs.Common.{Err, sym, subst}
use Rattle.store_machine.specs.Calls.{Makes}
use Rattle.store_machine.specs.Standing.{StoreState}
use Rattle.store_machine.specs.declared.events.Action.TheVariants.{Begin}
use Rattle.store_machine.specs.declared.events.Refusal.{Refusal}
use Rattle.store_core.specs.Stores.{state_of}
use Rattle.store_core.proofs.WorkEvents.{began, begin-refused, begin-stopped}
use Rattle.store_core.proofs.store.Store.begin_job.Goals as goal

pub returns-in-Some-clause-event : goal.returns-in-Some-clause-event
returns-in-Some-clause-event g c =
    begin-stopped (state_of g.D.Device.seen c.args.self.now) c.args.owner c.in-Some.faults c.in-Some.is

pub returns-in-Ok-clause-event : goal.returns-in-Ok-clause-event
returns-in-Ok-clause-event g c =
    let old : StoreState = state_of g.D.Device.seen c.args.self.now in
    began old c.begin.new.self.0 c.args.owner c.in-Ok.job c.in_default.is c.in-Ok.ensures.begins

pub returns-in-Err-clause-event : goal.returns-in-Err-clause-event
returns-in-Err-clause-event g c =
    let old : StoreState = state_of g.D.Device.seen c.args.self.now in
    let new : StoreState = record old { lists = c.begin.new.self.0 } in
    subst (λ (r : Refusal). Makes old new c.args.owner (Begin (Err r))) (sym c.refused_begin.ensures)
    (begin-refused old c.begin.new.self.0 c.args.owner old.log.records c.in-Err.fault c.in_default.is c.in-Err.ensures.begins (λ i. old.log.records))
