use Rattle.std.proofs.Common.{Ok, Err, refl, rules}
use Rattle.store_machine.specs.declared.events.Action.TheVariants as action
use Rattle.store_machine.specs.declared.events.Refusal.TheVariants.{Again}
use Rattle.store_core.specs.Stores.{state_of}
use Rattle.store_commands.proofs.Serving.{serving-after, write-keeps, again-as}
use Rattle.store_commands.proofs.Keeping.{tried-once, tried-again}
use Rattle.store_commands.proofs.writes.write_with_room.Goals as goal

pub write_again-requires : goal.write_again-requires
write_again-requires g c = record {
  serving = serving-after (state_of g.D.Device.seen c.args.store.now) (state_of g.D.Device.seen c.write.new.self) c.args.owner (action.Write c.args.op.now (Err c.in-Err-Again.field-0)) c.requires.serving c.in-Err-Again.ensures.event c.in-Err-Again.ensures.ready (write-keeps c.args.op.now (Err c.in-Err-Again.field-0));
}

pub returns-in-Ok-clause-tried : goal.returns-in-Ok-clause-tried
returns-in-Ok-clause-tried g c =
    tried-once (state_of g.D.Device.seen c.args.store.now) (state_of g.D.Device.seen c.write.new.self) c.args.owner c.args.op.now (action.Write c.args.op.now (Ok c.in-Ok.wrote)) (Ok c.in-Ok.wrote)
    c.in-Ok.ensures.event (refl, (Ok c.in-Ok.wrote, refl, refl))

pub returns-in-Ok-clause-serving : goal.returns-in-Ok-clause-serving
returns-in-Ok-clause-serving g c =
    serving-after (state_of g.D.Device.seen c.args.store.now) (state_of g.D.Device.seen c.write.new.self) c.args.owner (action.Write c.args.op.now (Ok c.in-Ok.wrote)) c.requires.serving c.in-Ok.ensures.event c.in-Ok.ensures.ready (write-keeps c.args.op.now (Ok c.in-Ok.wrote))

pub returns-in-Err-Again-clause-tried : goal.returns-in-Err-Again-clause-tried
returns-in-Err-Again-clause-tried g c =
    tried-again (state_of g.D.Device.seen c.args.store.now) (state_of g.D.Device.seen c.write.new.self) (state_of g.D.Device.seen c.write_again.new.store) c.args.owner c.args.op.now c.in-Err-Again.field-0-0 c.write_again.result
    (again-as (state_of g.D.Device.seen c.args.store.now) (state_of g.D.Device.seen c.write.new.self) c.args.owner c.args.op.now c.in-Err-Again.field-0 (Again c.in-Err-Again.field-0-0) (search rules) c.in-Err-Again.ensures.event) c.write_again.ensures.again

pub returns-in-Err : goal.returns-in-Err
returns-in-Err g c = record {
  tried = tried-once (state_of g.D.Device.seen c.args.store.now) (state_of g.D.Device.seen c.write.new.self) c.args.owner c.args.op.now (action.Write c.args.op.now (Err c.in-Err.refusal)) (Err c.word_of.result)
      c.in-Err.ensures.event (refl, (Err c.word_of.result, (c.word_of.result, c.word_of.ensures.word, refl), refl));
  serving = serving-after (state_of g.D.Device.seen c.args.store.now) (state_of g.D.Device.seen c.write.new.self) c.args.owner (action.Write c.args.op.now (Err c.in-Err.refusal)) c.requires.serving c.in-Err.ensures.event c.in-Err.ensures.ready (write-keeps c.args.op.now (Err c.in-Err.refusal));
}
