use Rattle.std.proofs.Common.{ap, sym, subst, Ok, Err}
use Rattle.store_machine.specs.Calls.{Makes}
use Rattle.store_machine.specs.Standing.{StoreState}
use Rattle.dev_model.specs.Story.{DeviceState}
use Rattle.store_machine.specs.declared.events.Got.{Got}
use Rattle.store_machine.specs.declared.events.Refusal.{Refusal}
use Rattle.store_machine.specs.declared.events.Action.TheVariants.{Get}
use Rattle.store_core.specs.Stores.{state_of}
use Rattle.store_core.proofs.Answering.{got-as, got-refused, reads-row}
use Rattle.store_core.proofs.Tested.{damaged, tested}
use Rattle.store_core.specs.Tested.{TestsPages}
use Rattle.store_core.proofs.store.Store.get.Goals as goal

pub returns-in-Ok-clause-event : goal.returns-in-Ok-clause-event
returns-in-Ok-clause-event g c =
    let old : StoreState = state_of g.D.Device.seen c.args.self.now in
    let now : DeviceState = g.D.Device.seen c.read_row.new.device in
    got-as old _ now c.args.owner c.args.key c.draw-seq.result c.in-Ok.row c.in-Ok.ensures.asked.0 c.draw-seq.ensures.seq
    (ap (state_of g.D.Device.seen) c.draw-seq.ensures.rest)
    (reads-row old now c.args.key _ c.in-Ok.ensures.asked.0 c.in-Ok.ensures.asked.1 c.in-Ok.ensures.asked.2 c.in-Ok.ensures.stays c.in-Ok.ensures.same_pages c.in-Ok.ensures.later (λ s is. g.met.D.Device.clock_told _ s is) c.in-Ok.ensures.row)

pub returns-in-Err-clause-event : goal.returns-in-Err-clause-event
returns-in-Err-clause-event g c =
    let old : StoreState = state_of g.D.Device.seen c.args.self.now in
    let now : DeviceState = g.D.Device.seen c.read_row.new.device in
    subst (λ (r : Refusal). Makes old (record old { device = now }) c.args.owner (Get c.args.key (Err r))) (sym c.refused.ensures)
    (got-refused old now c.args.owner c.args.key c.in-Err.fault c.in-Err.ensures.asked.0
    (reads-row old now c.args.key _ c.in-Err.ensures.asked.0 c.in-Err.ensures.asked.1 c.in-Err.ensures.asked.2 c.in-Err.ensures.stays c.in-Err.ensures.same_pages c.in-Err.ensures.later (λ s is. g.met.D.Device.clock_told _ s is) c.in-Err.ensures.row)
    c.in-Err.ensures.failed c.in-Err.ensures.needs_no_memory)

pub returns-in-Ok-clause-pages : goal.returns-in-Ok-clause-pages
returns-in-Ok-clause-pages g c =
    let y : Got = record { seq = c.draw-seq.result; row = c.in-Ok.row } in
    let old : StoreState = state_of g.D.Device.seen c.args.self.now in
    let now : DeviceState = g.D.Device.seen c.read_row.new.device in
    subst (λ (d : DeviceState). TestsPages {X = Got} old d (Ok y)) (sym (ap (λ (s : StoreState). s.device) (ap (state_of g.D.Device.seen) c.draw-seq.ensures.rest)))
    (tested old now c.in-Ok.row y c.in-Ok.ensures.asked.0 c.in-Ok.ensures.asked.1)

pub returns-in-Err-clause-pages : goal.returns-in-Err-clause-pages
returns-in-Err-clause-pages g c =
    let old : StoreState = state_of g.D.Device.seen c.args.self.now in
    let now : DeviceState = g.D.Device.seen c.read_row.new.device in
    subst (λ (r : Refusal). TestsPages {X = Got} old now (Err r)) (sym c.refused.ensures)
    (damaged old now Got c.in-Err.fault c.in-Err.ensures.asked.0 c.in-Err.ensures.asked.1)
