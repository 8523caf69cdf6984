use Rattle.std.proofs.Common.{Ok, Err, true, false, refl, rules}
use Rattle.store_machine.specs.declared.events.Action.TheVariants as action
use Rattle.store_core.specs.Stores.{state_of}
use Rattle.store_commands.proofs.Serving.{serving-after, freeze-keeps}
use Rattle.store_commands.proofs.Keeping.{keeps-one}
use Rattle.store_commands.proofs.Flushing.{frozen-as, freeze-then, flushed-behind, freeze-none, freeze-refused, freeze-failed}
use Rattle.store_commands.proofs.upkeep.flush_active.Goals as goal

pub flush_frozen-requires : goal.flush_frozen-requires
flush_frozen-requires g c = record {
  serving = serving-after (state_of g.D.Device.seen c.args.store.now) (state_of g.D.Device.seen c.freeze.new.self) c.args.owner (action.Freeze c.args.least (Ok true)) c.requires.serving (frozen-as (state_of g.D.Device.seen c.args.store.now) (state_of g.D.Device.seen c.freeze.new.self) c.args.owner c.args.least c.in-Ok-true.field-0 true (search rules) c.in-Ok-true.ensures.event) c.in-Ok-true.ensures.ready (freeze-keeps c.args.least (Ok true));
}

pub returns-in-Ok-true-clause-upkeep : goal.returns-in-Ok-true-clause-upkeep
returns-in-Ok-true-clause-upkeep g c =
    freeze-then (state_of g.D.Device.seen c.args.store.now) (state_of g.D.Device.seen c.freeze.new.self) (state_of g.D.Device.seen c.flush_frozen.new.store) c.args.owner c.args.least c.flush_frozen.result (frozen-as (state_of g.D.Device.seen c.args.store.now) (state_of g.D.Device.seen c.freeze.new.self) c.args.owner c.args.least c.in-Ok-true.field-0 true (search rules) c.in-Ok-true.ensures.event) c.flush_frozen.ensures.upkeep

pub returns-in-Ok-true-clause-flushed : goal.returns-in-Ok-true-clause-flushed
returns-in-Ok-true-clause-flushed g c =
    flushed-behind (state_of g.D.Device.seen c.args.store.now) (state_of g.D.Device.seen c.freeze.new.self) (state_of g.D.Device.seen c.flush_frozen.new.store) c.args.owner c.args.least c.flush_frozen.result c.requires.least c.requires.serving.standing (frozen-as (state_of g.D.Device.seen c.args.store.now) (state_of g.D.Device.seen c.freeze.new.self) c.args.owner c.args.least c.in-Ok-true.field-0 true (search rules) c.in-Ok-true.ensures.event) c.flush_frozen.ensures.flushed

pub returns-in-Ok-false-clause-serving : goal.returns-in-Ok-false-clause-serving
returns-in-Ok-false-clause-serving g c =
    serving-after (state_of g.D.Device.seen c.args.store.now) (state_of g.D.Device.seen c.freeze.new.self) c.args.owner (action.Freeze c.args.least (Ok false)) c.requires.serving (frozen-as (state_of g.D.Device.seen c.args.store.now) (state_of g.D.Device.seen c.freeze.new.self) c.args.owner c.args.least c.in-Ok-false.field-0 false (search rules) c.in-Ok-false.ensures.event) c.in-Ok-false.ensures.ready (freeze-keeps c.args.least (Ok false))

pub returns-in-Ok-false-clause-upkeep : goal.returns-in-Ok-false-clause-upkeep
returns-in-Ok-false-clause-upkeep g c = keeps-one (state_of g.D.Device.seen c.args.store.now) (state_of g.D.Device.seen c.freeze.new.self) c.args.owner (action.Freeze c.args.least (Ok false)) (frozen-as (state_of g.D.Device.seen c.args.store.now) (state_of g.D.Device.seen c.freeze.new.self) c.args.owner c.args.least c.in-Ok-false.field-0 false (search rules) c.in-Ok-false.ensures.event) refl refl

pub returns-in-Ok-false-clause-flushed : goal.returns-in-Ok-false-clause-flushed
returns-in-Ok-false-clause-flushed g c = freeze-none (state_of g.D.Device.seen c.args.store.now) (state_of g.D.Device.seen c.freeze.new.self) c.args.owner c.args.least c.requires.serving.standing c.requires.none_waits (frozen-as (state_of g.D.Device.seen c.args.store.now) (state_of g.D.Device.seen c.freeze.new.self) c.args.owner c.args.least c.in-Ok-false.field-0 false (search rules) c.in-Ok-false.ensures.event)

pub returns-in-Err-clause-serving : goal.returns-in-Err-clause-serving
returns-in-Err-clause-serving g c =
    serving-after (state_of g.D.Device.seen c.args.store.now) (state_of g.D.Device.seen c.freeze.new.self) c.args.owner (action.Freeze c.args.least (Err c.in-Err.refusal)) c.requires.serving c.in-Err.ensures.event c.in-Err.ensures.ready (freeze-keeps c.args.least (Err c.in-Err.refusal))

pub returns-in-Err-clause-upkeep : goal.returns-in-Err-clause-upkeep
returns-in-Err-clause-upkeep g c = freeze-refused (state_of g.D.Device.seen c.args.store.now) (state_of g.D.Device.seen c.freeze.new.self) c.args.owner c.args.least c.in-Err.refusal c.requires.serving.standing c.in-Err.ensures.event

pub returns-in-Err-clause-flushed : goal.returns-in-Err-clause-flushed
returns-in-Err-clause-flushed g c = freeze-failed (state_of g.D.Device.seen c.args.store.now) (state_of g.D.Device.seen c.freeze.new.self) c.args.owner c.args.least c.in-Err.refusal c.requires.serving.standing c.in-Err.ensures.event
