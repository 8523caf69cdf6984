use Rattle.std.proofs.Common.{ap}
use Rattle.store_core.specs.Stores.{state_of}
use Rattle.store_core.proofs.Answering.{counted-as}
use Rattle.store_core.proofs.store.Store.count.Goals as goal

pub returns-clause-event : goal.returns-clause-event
returns-clause-event g c =
    counted-as (state_of g.D.Device.seen c.args.self.now)
    (state_of g.D.Device.seen c.draw.new.self) c.args.owner c.draw.result c.rows-rows.result
    c.draw.ensures.seq (ap (state_of g.D.Device.seen) c.draw.ensures.rest) c.rows-rows.ensures
