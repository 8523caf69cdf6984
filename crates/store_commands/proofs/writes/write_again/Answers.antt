use Rattle.std.proofs.Common.{Ok, Err, refl, arith}
use Rattle.store_machine.specs.declared.events.Action.TheVariants as action
use Rattle.store_core.specs.Stores.{state_of}
use Rattle.store_commands.proofs.Serving.{serving-after, write-keeps, write-final}
use Rattle.store_commands.proofs.Keeping.{again-made}
use Rattle.store_commands.proofs.writes.write_again.Goals as goal

pub word_of-requires-in-Err-write : goal.word_of-requires-in-Err-write
word_of-requires-in-Err-write g c = record {
  last = write-final (state_of g.D.Device.seen c.keep_up.new.store) (state_of g.D.Device.seen c.write.new.self) c.args.owner c.args.op.now c.in-Err-write.refusal c.in_default.ensures.serving.standing c.in-Err-write.ensures.event (omega (arith, c.in_default.ensures.flushed.few));
}

pub returns-in-Ok-clause-again : goal.returns-in-Ok-clause-again
returns-in-Ok-clause-again g c =
    again-made (state_of g.D.Device.seen c.args.store.now) (state_of g.D.Device.seen c.keep_up.new.store) (state_of g.D.Device.seen c.write.new.self) c.args.owner c.args.op.now (action.Write c.args.op.now (Ok c.in-Ok.wrote)) (Ok c.in-Ok.wrote)
    c.in_default.ensures.upkeep c.in-Ok.ensures.event (refl, (Ok c.in-Ok.wrote, refl, refl))

pub returns-in-Ok-clause-serving : goal.returns-in-Ok-clause-serving
returns-in-Ok-clause-serving g c =
    serving-after (state_of g.D.Device.seen c.keep_up.new.store) (state_of g.D.Device.seen c.write.new.self) c.args.owner (action.Write c.args.op.now (Ok c.in-Ok.wrote)) c.in_default.ensures.serving c.in-Ok.ensures.event c.in-Ok.ensures.ready (write-keeps c.args.op.now (Ok c.in-Ok.wrote))

pub returns-in-Err-write-clause-again : goal.returns-in-Err-write-clause-again
returns-in-Err-write-clause-again g c =
    again-made (state_of g.D.Device.seen c.args.store.now) (state_of g.D.Device.seen c.keep_up.new.store) (state_of g.D.Device.seen c.write.new.self) c.args.owner c.args.op.now (action.Write c.args.op.now (Err c.in-Err-write.refusal)) (Err c.word_of-in-Err-write.result)
    c.in_default.ensures.upkeep c.in-Err-write.ensures.event
    (refl, (Err c.word_of-in-Err-write.result, (c.word_of-in-Err-write.result, c.word_of-in-Err-write.ensures.word, refl), refl))

pub returns-in-Err-write-clause-serving : goal.returns-in-Err-write-clause-serving
returns-in-Err-write-clause-serving g c =
    serving-after (state_of g.D.Device.seen c.keep_up.new.store) (state_of g.D.Device.seen c.write.new.self) c.args.owner (action.Write c.args.op.now (Err c.in-Err-write.refusal)) c.in_default.ensures.serving c.in-Err-write.ensures.event c.in-Err-write.ensures.ready (write-keeps c.args.op.now (Err c.in-Err-write.refusal))
