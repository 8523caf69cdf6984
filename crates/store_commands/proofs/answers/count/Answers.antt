use Rattle.std.proofs.Common.{refl}
use Rattle.table_model.specs.Commands.{count, answered, counted}
use Rattle.store_machine.specs.declared.events.Action.TheVariants as action
use Rattle.store_core.specs.Stores.{state_of}
use Rattle.store_commands.specs.Commands.{IsOneEvent}
use Rattle.store_commands.proofs.Serving.{serving-after}
use Rattle.store_commands.proofs.Keeping.{one-event, done-one}
use Rattle.store_commands.proofs.answers.count.Goals as goal

pub returns : goal.returns
returns g c =
    let alone : IsOneEvent (state_of g.D.Device.seen c.args.store.now) (state_of g.D.Device.seen c.count.new.self) c.args.owner count (answered c.count.result.0 (counted c.count.result.1)) =
    one-event (state_of g.D.Device.seen c.args.store.now) (state_of g.D.Device.seen c.count.new.self) c.args.owner (action.Count c.count.result.0 c.count.result.1) count (answered c.count.result.0 (counted c.count.result.1)) c.count.ensures.event (refl, refl) in
    record {
      done = done-one (state_of g.D.Device.seen c.args.store.now) (state_of g.D.Device.seen c.count.new.self) c.args.owner count (answered c.count.result.0 (counted c.count.result.1)) alone;
      alone = alone;
      serving = serving-after (state_of g.D.Device.seen c.args.store.now) (state_of g.D.Device.seen c.count.new.self) c.args.owner (action.Count c.count.result.0 c.count.result.1) c.requires.serving c.count.ensures.event
          (c.count.ensures.ready c.requires.serving.ready) (λ m. refl);
    }
