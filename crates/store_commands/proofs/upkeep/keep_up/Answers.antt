use Rattle.store_core.specs.Stores.{state_of}
use Rattle.store_commands.proofs.Keeping.{keeps-then}
use Rattle.store_commands.proofs.upkeep.keep_up.Goals as goal

pub returns-clause-upkeep : goal.returns-clause-upkeep
returns-clause-upkeep g c =
    keeps-then (state_of g.D.Device.seen c.args.store.now) (state_of g.D.Device.seen c.flush_frozen.new.store) (state_of g.D.Device.seen c.flush_active.new.store) c.args.owner c.flush_active.result c.in_default.ensures.upkeep c.flush_active.ensures.upkeep
