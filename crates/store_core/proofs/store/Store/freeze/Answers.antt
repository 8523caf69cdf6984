use Rattle.std.proofs.Common.{inl, inr, ◌∙◌, Err, ap, sym, subst, arith}
use Rattle.store_machine.specs.Calls.{Makes}
use Rattle.store_machine.specs.Standing.{StoreState}
use Rattle.dev_model.specs.Story.{DeviceState}
use Rattle.store_machine.specs.declared.events.Action.TheVariants.{Freeze}
use Rattle.store_machine.specs.declared.events.Refusal.{Refusal}
use Rattle.store_core.specs.Stores.{state_of}
use Rattle.store_core.proofs.WorkEvents.{after-stop, freeze-failed, freeze-stopped, froze, none-there, not-frozen, some-there}
use Rattle.store_core.proofs.store.Store.freeze.Goals as goal

pub returns-in-Some-clause-event : goal.returns-in-Some-clause-event
returns-in-Some-clause-event g c =
    freeze-stopped (state_of g.D.Device.seen c.args.self.now) c.args.owner c.args.least c.in-Some.faults c.in-Some.is

pub returns-then-self-from-clause-event : goal.returns-then-self-from-clause-event
returns-then-self-from-clause-event g c =
    not-frozen (state_of g.D.Device.seen c.args.self.now) c.args.owner c.args.least c.in_default.is
    (inl (omega (arith, c.if-self-from.true, c.from.ensures)))

pub returns-then-is_frozen-clause-event : goal.returns-then-is_frozen-clause-event
returns-then-is_frozen-clause-event g c =
    not-frozen (state_of g.D.Device.seen c.args.self.now) c.args.owner c.args.least c.in_default.is
    (inr (some-there c.args.self.now.state.0.frozen (sym c.is_frozen.ensures ∙ c.if-is_frozen.true)))

pub returns-in-Ok-clause-event : goal.returns-in-Ok-clause-event
returns-in-Ok-clause-event g c =
    froze (state_of g.D.Device.seen c.args.self.now) (g.D.Device.seen c.freeze.new.device) c.freeze.new.log c.freeze.new.state.0 c.args.owner c.args.least tt
    (record { going = c.in_default.is; made = c.in-Ok.ensures.made; table = c.in-Ok.ensures.table; clock_told = λ s is. g.met.D.Device.clock_told _ s is })
    (record {
      going = c.in_default.is;
      enough = omega (arith, c.if-self-from.false, c.from.ensures);
      some = omega (arith, c.if-self-from.false, c.from.ensures, c.requires.least);
      none_waits = none-there c.args.self.now.state.0.frozen (sym c.is_frozen.ensures ∙ c.if-is_frozen.false);
    })
    c.in-Ok.ensures.turned c.in-Ok.ensures.lists

pub returns-in-Err-clause-event : goal.returns-in-Err-clause-event
returns-in-Err-clause-event g c =
    let old : StoreState = state_of g.D.Device.seen c.args.self.now in
    let now : DeviceState = g.D.Device.seen c.freeze.new.device in
    let new : StoreState = state_of g.D.Device.seen c.stop.new.self in
    subst (λ (r : Refusal). Makes old new c.args.owner (Freeze c.args.least (Err r))) (sym c.stop.ensures.fault)
    (freeze-failed old new now c.freeze.new.log c.freeze.new.state.0 c.args.owner c.args.least _
    (after-stop old new now c.freeze.new.log c.freeze.new.state.0 c.in-Err.ensures.unchanged.0 (ap (λ s. s.0) c.in-Err.ensures.unchanged.1)
    (ap (state_of g.D.Device.seen) c.stop.ensures.stopped))
    (record { going = c.in_default.is; made = c.in-Err.ensures.made; table = c.in-Err.ensures.table; clock_told = λ s is. g.met.D.Device.clock_told _ s is })
    (record {
      going = c.in_default.is;
      enough = omega (arith, c.if-self-from.false, c.from.ensures);
      some = omega (arith, c.if-self-from.false, c.from.ensures, c.requires.least);
      none_waits = none-there c.args.self.now.state.0.frozen (sym c.is_frozen.ensures ∙ c.if-is_frozen.false);
    }))
