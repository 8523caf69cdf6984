use Rattle.std.proofs.Common.{refl, Ok, Err}
use Rattle.table_model.specs.Commands as model
use Rattle.store_machine.specs.Commands.{get_outcome}
use Rattle.store_machine.specs.declared.events.Action.TheVariants as action
use Rattle.store_core.specs.Stores.{state_of}
use Rattle.store_commands.specs.Commands.{IsOneEvent}
use Rattle.store_commands.proofs.Serving.{serving-after, get-keeps, get-final}
use Rattle.store_commands.proofs.Keeping.{one-event, done-one}
use Rattle.store_commands.proofs.answers.get.Goals as goal

pub word_of-requires : goal.word_of-requires
word_of-requires g c = record { last = get-final (state_of g.D.Device.seen c.args.store.now) (state_of g.D.Device.seen c.get.new.self) c.args.owner c.args.key c.in-Err.refusal c.requires.serving.standing c.in-Err.ensures.event }

pub returns-in-Ok : goal.returns-in-Ok
returns-in-Ok g c =
    let alone : IsOneEvent (state_of g.D.Device.seen c.args.store.now) (state_of g.D.Device.seen c.get.new.self) c.args.owner (model.get c.args.key) (get_outcome (Ok c.in-Ok.got)) =
    one-event (state_of g.D.Device.seen c.args.store.now) (state_of g.D.Device.seen c.get.new.self) c.args.owner (action.Get c.args.key (Ok c.in-Ok.got)) (model.get c.args.key) (get_outcome (Ok c.in-Ok.got)) c.in-Ok.ensures.event (refl, (Ok c.in-Ok.got, refl, refl)) in
    record {
      done = done-one (state_of g.D.Device.seen c.args.store.now) (state_of g.D.Device.seen c.get.new.self) c.args.owner (model.get c.args.key) (get_outcome (Ok c.in-Ok.got)) alone;
      alone = alone;
      serving = serving-after (state_of g.D.Device.seen c.args.store.now) (state_of g.D.Device.seen c.get.new.self) c.args.owner (action.Get c.args.key (Ok c.in-Ok.got)) c.requires.serving c.in-Ok.ensures.event c.in-Ok.ensures.ready (get-keeps c.args.key (Ok c.in-Ok.got));
    }

pub returns-in-Err : goal.returns-in-Err
returns-in-Err g c =
    let alone : IsOneEvent (state_of g.D.Device.seen c.args.store.now) (state_of g.D.Device.seen c.get.new.self) c.args.owner (model.get c.args.key) (model.refused c.word_of.result) =
    one-event (state_of g.D.Device.seen c.args.store.now) (state_of g.D.Device.seen c.get.new.self) c.args.owner (action.Get c.args.key (Err c.in-Err.refusal)) (model.get c.args.key) (model.refused c.word_of.result) c.in-Err.ensures.event (refl, (Err c.word_of.result, (c.word_of.result, c.word_of.ensures.word, refl), refl)) in
    record {
      done = done-one (state_of g.D.Device.seen c.args.store.now) (state_of g.D.Device.seen c.get.new.self) c.args.owner (model.get c.args.key) (model.refused c.word_of.result) alone;
      alone = alone;
      serving = serving-after (state_of g.D.Device.seen c.args.store.now) (state_of g.D.Device.seen c.get.new.self) c.args.owner (action.Get c.args.key (Err c.in-Err.refusal)) c.requires.serving c.in-Err.ensures.event c.in-Err.ensures.ready (get-keeps c.args.key (Err c.in-Err.refusal));
    }
