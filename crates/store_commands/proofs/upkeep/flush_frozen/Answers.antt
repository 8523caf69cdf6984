use Rattle.std.proofs.Common.{Ok, Err, Some, None, refl, rules}
use Rattle.store_machine.specs.declared.events.Action.TheVariants as action
use Rattle.store_core.specs.Begun.{begin_of}
use Rattle.store_core.specs.Stores.{state_of}
use Rattle.store_commands.proofs.Serving.{standing-after, serving-after}
use Rattle.store_commands.proofs.Keeping.{keeps-one}
use Rattle.store_commands.proofs.Flushing.{begun, begin-then, none-behind, begin-none, begin-refused, begin-failed}
use Rattle.store_commands.proofs.upkeep.flush_frozen.Goals as goal

pub write_component-requires-clause-standing : goal.write_component-requires-clause-standing
write_component-requires-clause-standing g c =
    standing-after (state_of g.D.Device.seen c.args.store.now) (state_of g.D.Device.seen c.begin_job.new.self) c.args.owner (begin_of c.args.owner (Ok (Some c.in-Ok-Some.job))) c.requires.serving.standing (begun (state_of g.D.Device.seen c.args.store.now) (state_of g.D.Device.seen c.begin_job.new.self) c.args.owner c.in-Ok-Some.field-0 (Some c.in-Ok-Some.job) (search rules) c.in-Ok-Some.ensures.event)

pub returns-in-Ok-Some-clause-upkeep : goal.returns-in-Ok-Some-clause-upkeep
returns-in-Ok-Some-clause-upkeep g c =
    begin-then (state_of g.D.Device.seen c.args.store.now) (state_of g.D.Device.seen c.begin_job.new.self) (state_of g.D.Device.seen c.write_component.new.store) c.args.owner c.in-Ok-Some.job c.write_component.result (begun (state_of g.D.Device.seen c.args.store.now) (state_of g.D.Device.seen c.begin_job.new.self) c.args.owner c.in-Ok-Some.field-0 (Some c.in-Ok-Some.job) (search rules) c.in-Ok-Some.ensures.event) c.write_component.ensures.upkeep

pub returns-in-Ok-Some-clause-flushed : goal.returns-in-Ok-Some-clause-flushed
returns-in-Ok-Some-clause-flushed g c =
    none-behind (state_of g.D.Device.seen c.args.store.now) (state_of g.D.Device.seen c.begin_job.new.self) (state_of g.D.Device.seen c.write_component.new.store) c.args.owner c.in-Ok-Some.job c.write_component.result c.requires.serving.standing (begun (state_of g.D.Device.seen c.args.store.now) (state_of g.D.Device.seen c.begin_job.new.self) c.args.owner c.in-Ok-Some.field-0 (Some c.in-Ok-Some.job) (search rules) c.in-Ok-Some.ensures.event) c.write_component.ensures.flushed

pub returns-in-Ok-None-clause-serving : goal.returns-in-Ok-None-clause-serving
returns-in-Ok-None-clause-serving g c =
    serving-after (state_of g.D.Device.seen c.args.store.now) (state_of g.D.Device.seen c.begin_job.new.self) c.args.owner (action.Begin (Ok None)) c.requires.serving (begun (state_of g.D.Device.seen c.args.store.now) (state_of g.D.Device.seen c.begin_job.new.self) c.args.owner c.in-Ok-None.field-0 None (search rules) c.in-Ok-None.ensures.event) c.in-Ok-None.ensures.ready (λ m. refl)

pub returns-in-Ok-None-clause-upkeep : goal.returns-in-Ok-None-clause-upkeep
returns-in-Ok-None-clause-upkeep g c = keeps-one (state_of g.D.Device.seen c.args.store.now) (state_of g.D.Device.seen c.begin_job.new.self) c.args.owner (action.Begin (Ok None)) (begun (state_of g.D.Device.seen c.args.store.now) (state_of g.D.Device.seen c.begin_job.new.self) c.args.owner c.in-Ok-None.field-0 None (search rules) c.in-Ok-None.ensures.event) refl refl

pub returns-in-Ok-None-clause-flushed : goal.returns-in-Ok-None-clause-flushed
returns-in-Ok-None-clause-flushed g c = begin-none (state_of g.D.Device.seen c.args.store.now) (state_of g.D.Device.seen c.begin_job.new.self) c.args.owner c.requires.serving.standing (begun (state_of g.D.Device.seen c.args.store.now) (state_of g.D.Device.seen c.begin_job.new.self) c.args.owner c.in-Ok-None.field-0 None (search rules) c.in-Ok-None.ensures.event)

pub returns-in-Err-clause-serving : goal.returns-in-Err-clause-serving
returns-in-Err-clause-serving g c =
    serving-after (state_of g.D.Device.seen c.args.store.now) (state_of g.D.Device.seen c.begin_job.new.self) c.args.owner (action.Begin (Err c.in-Err.refusal)) c.requires.serving c.in-Err.ensures.event c.in-Err.ensures.ready (λ m. refl)

pub returns-in-Err-clause-upkeep : goal.returns-in-Err-clause-upkeep
returns-in-Err-clause-upkeep g c = begin-refused (state_of g.D.Device.seen c.args.store.now) (state_of g.D.Device.seen c.begin_job.new.self) c.args.owner c.in-Err.refusal c.requires.serving c.in-Err.ensures.event

pub returns-in-Err-clause-flushed : goal.returns-in-Err-clause-flushed
returns-in-Err-clause-flushed g c = begin-failed (state_of g.D.Device.seen c.args.store.now) (state_of g.D.Device.seen c.begin_job.new.self) c.args.owner c.in-Err.refusal c.requires.serving.standing c.in-Err.ensures.event
