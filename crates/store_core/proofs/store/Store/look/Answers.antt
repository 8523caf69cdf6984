use Rattle.std.proofs.Common.{refl, arith}
use Rattle.store_core.specs.Stores.{state_of}
use Rattle.store_core.proofs.Answering.{looked}
use Rattle.store_core.proofs.store.Store.look.Goals as goal

pub overflow_cast-result : goal.overflow_cast-result
overflow_cast-result g c = omega (arith, c.requires.ready.counted.few)

pub returns : goal.returns
returns g c = record {
  event = looked (state_of g.D.Device.seen c.args.self.now) c.args.owner _ refl c.is_frozen.ensures refl c.placed.ensures c.saturating_sub.ensures;
}
