use Rattle.store_core.specs.Stores.{state_of}
use Rattle.store_commands.specs.declared.upkeep.TheConstants.{FLUSH_AT}
use Rattle.store_commands.proofs.Keeping.{done-behind, kept-behind, done-refused, kept-refused}
use Rattle.store_commands.proofs.writes.write.Goals as goal

pub returns-in-Ok-clause-done : goal.returns-in-Ok-clause-done
returns-in-Ok-clause-done g c = done-behind (state_of g.D.Device.seen c.args.store.now) (state_of g.D.Device.seen c.write_with_room.new.store) (state_of g.D.Device.seen c.keep_up_behind-upkeep.new.store) c.args.owner FLUSH_AT c.args.op.now c.in-Ok.wrote c.keep_up_behind-upkeep.result c.in-Ok.ensures.tried c.keep_up_behind-upkeep.ensures.kept

pub returns-in-Ok-clause-kept : goal.returns-in-Ok-clause-kept
returns-in-Ok-clause-kept g c = kept-behind (state_of g.D.Device.seen c.args.store.now) (state_of g.D.Device.seen c.write_with_room.new.store) (state_of g.D.Device.seen c.keep_up_behind-upkeep.new.store) c.args.owner FLUSH_AT c.args.op.now c.in-Ok.wrote c.keep_up_behind-upkeep.result c.in-Ok.ensures.tried c.keep_up_behind-upkeep.ensures.kept

pub returns-in-Err-clause-done : goal.returns-in-Err-clause-done
returns-in-Err-clause-done g c = done-refused (state_of g.D.Device.seen c.args.store.now) (state_of g.D.Device.seen c.write_with_room.new.store) c.args.owner c.args.op.now c.in-Err.why c.in-Err.ensures.tried

pub returns-in-Err-clause-kept : goal.returns-in-Err-clause-kept
returns-in-Err-clause-kept g c = kept-refused (state_of g.D.Device.seen c.args.store.now) (state_of g.D.Device.seen c.write_with_room.new.store) c.args.owner FLUSH_AT c.args.op.now c.in-Err.why c.in-Err.ensures.tried
