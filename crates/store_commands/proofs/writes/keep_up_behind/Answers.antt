use Rattle.store_core.specs.Stores.{state_of}
use Rattle.store_commands.specs.declared.upkeep.TheConstants.{FLUSH_AT}
use Rattle.store_commands.proofs.Keeping.{behind-none, behind-kept, behind-refused}
use Rattle.store_commands.proofs.writes.keep_up_behind.Goals as goal

pub returns-then-ops-lt-FLUSH_AT-clause-kept : goal.returns-then-ops-lt-FLUSH_AT-clause-kept
returns-then-ops-lt-FLUSH_AT-clause-kept g c = behind-none (state_of g.D.Device.seen c.args.store.now) c.args.owner FLUSH_AT c.args.ops c.if-ops-lt-FLUSH_AT.true

pub returns-in-Ok-clause-kept : goal.returns-in-Ok-clause-kept
returns-in-Ok-clause-kept g c =
    behind-kept (state_of g.D.Device.seen c.args.store.now) (state_of g.D.Device.seen c.keep_up.new.store) c.args.owner FLUSH_AT c.args.ops
    c.if-ops-lt-FLUSH_AT.false c.in-Ok.ensures.upkeep c.in-Ok.ensures.flushed

pub returns-in-Err-clause-kept : goal.returns-in-Err-clause-kept
returns-in-Err-clause-kept g c =
    behind-refused (state_of g.D.Device.seen c.args.store.now) (state_of g.D.Device.seen c.keep_up.new.store) c.args.owner FLUSH_AT c.args.ops c.in-Err.refusal c.word_of.result c.word_of.ensures.word
    c.if-ops-lt-FLUSH_AT.false c.in-Err.ensures.upkeep
