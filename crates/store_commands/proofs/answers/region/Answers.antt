use Rattle.std.proofs.Common.{refl, Ok, Err}
use Rattle.table_model.specs.Commands as model
use Rattle.store_machine.specs.Commands.{region_outcome}
use Rattle.store_machine.specs.declared.events.Action.TheVariants as action
use Rattle.store_core.specs.Stores.{state_of}
use Rattle.store_commands.specs.Commands.{IsOneEvent}
use Rattle.store_commands.proofs.Serving.{serving-after, region-keeps, region-final}
use Rattle.store_commands.proofs.Keeping.{one-event, done-one}
use Rattle.store_commands.proofs.answers.region.Goals as goal

pub word_of-requires : goal.word_of-requires
word_of-requires g c = record { last = region-final (state_of g.D.Device.seen c.args.store.now) (state_of g.D.Device.seen c.region.new.self) c.args.owner c.args.kind c.args.rect.now c.in-Err.refusal c.requires.serving.standing c.in-Err.ensures.event }

pub returns-in-Ok : goal.returns-in-Ok
returns-in-Ok g c =
    let alone : IsOneEvent (state_of g.D.Device.seen c.args.store.now) (state_of g.D.Device.seen c.region.new.self) c.args.owner (model.region c.args.kind c.args.rect.now) (region_outcome (Ok (record { seq = c.in-Ok.found.seq; rows = c.in-Ok.found.rows.items }))) =
    one-event (state_of g.D.Device.seen c.args.store.now) (state_of g.D.Device.seen c.region.new.self) c.args.owner (action.Region c.args.kind c.args.rect.now (Ok (record { seq = c.in-Ok.found.seq; rows = c.in-Ok.found.rows.items }))) (model.region c.args.kind c.args.rect.now) (region_outcome (Ok (record { seq = c.in-Ok.found.seq; rows = c.in-Ok.found.rows.items }))) c.in-Ok.ensures.event (refl, (Ok (record { seq = c.in-Ok.found.seq; rows = c.in-Ok.found.rows.items }), refl, refl)) in
    record {
      done = done-one (state_of g.D.Device.seen c.args.store.now) (state_of g.D.Device.seen c.region.new.self) c.args.owner (model.region c.args.kind c.args.rect.now) (region_outcome (Ok (record { seq = c.in-Ok.found.seq; rows = c.in-Ok.found.rows.items }))) alone;
      alone = alone;
      serving = serving-after (state_of g.D.Device.seen c.args.store.now) (state_of g.D.Device.seen c.region.new.self) c.args.owner (action.Region c.args.kind c.args.rect.now (Ok (record { seq = c.in-Ok.found.seq; rows = c.in-Ok.found.rows.items }))) c.requires.serving c.in-Ok.ensures.event c.in-Ok.ensures.ready (region-keeps c.args.kind c.args.rect.now (Ok (record { seq = c.in-Ok.found.seq; rows = c.in-Ok.found.rows.items })));
    }

pub returns-in-Err : goal.returns-in-Err
returns-in-Err g c =
    let alone : IsOneEvent (state_of g.D.Device.seen c.args.store.now) (state_of g.D.Device.seen c.region.new.self) c.args.owner (model.region c.args.kind c.args.rect.now) (model.refused c.word_of.result) =
    one-event (state_of g.D.Device.seen c.args.store.now) (state_of g.D.Device.seen c.region.new.self) c.args.owner (action.Region c.args.kind c.args.rect.now (Err c.in-Err.refusal)) (model.region c.args.kind c.args.rect.now) (model.refused c.word_of.result) c.in-Err.ensures.event (refl, (Err c.word_of.result, (c.word_of.result, c.word_of.ensures.word, refl), refl)) in
    record {
      done = done-one (state_of g.D.Device.seen c.args.store.now) (state_of g.D.Device.seen c.region.new.self) c.args.owner (model.region c.args.kind c.args.rect.now) (model.refused c.word_of.result) alone;
      alone = alone;
      serving = serving-after (state_of g.D.Device.seen c.args.store.now) (state_of g.D.Device.seen c.region.new.self) c.args.owner (action.Region c.args.kind c.args.rect.now (Err c.in-Err.refusal)) c.requires.serving c.in-Err.ensures.event c.in-Err.ensures.ready (region-keeps c.args.kind c.args.rect.now (Err c.in-Err.refusal));
    }
