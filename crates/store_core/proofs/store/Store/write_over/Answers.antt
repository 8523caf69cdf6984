use Rattle.std.proofs.Common.{refl, ap, ◌∙◌}
use Rattle.store_machine.specs.Standing.{StoreState}
use Rattle.store_core.specs.Stores.{state_of}
use Rattle.store_core.proofs.WriteEvents.{wrote-logged, not-logged}
use Rattle.store_core.proofs.store.Store.write_over.Goals as goal

pub returns-in-Ok-clause-event : goal.returns-in-Ok-clause-event
returns-in-Ok-clause-event g c before owner was =
    let mid : StoreState = state_of g.D.Device.seen c.args.self.now in
    let logged : StoreState = state_of g.D.Device.seen c.log_op.new.self in
    wrote-logged before mid logged _ owner c.args.op.now c.args.row.now _ c.in-Ok.ack was c.requires.can c.requires.logs c.in-Ok.ensures.logged
    (ap (state_of g.D.Device.seen) c.draw-seq.ensures.rest)
    c.draw-seq.ensures.seq c.matter_of-old.ensures
    (ap (λ (s : StoreState). s.log.records) (ap (state_of g.D.Device.seen) c.draw-seq.ensures.rest))
    refl

pub returns-in-Err-clause-event : goal.returns-in-Err-clause-event
returns-in-Err-clause-event g c before owner was =
    let mid : StoreState = state_of g.D.Device.seen c.args.self.now in
    not-logged before mid _ owner c.args.op.now c.args.row.now was c.requires.can c.in-Err.ensures.fails

pub returns-in-Ok-clause-logged : goal.returns-in-Ok-clause-logged
returns-in-Ok-clause-logged g c = record {
  width = c.in-Ok.ensures.logged.width;
  did = ap (λ (s : StoreState). s.device.story) (ap (state_of g.D.Device.seen) c.draw-seq.ensures.rest) ∙ c.in-Ok.ensures.logged.all.did;
}
