use Rattle.std.proofs.Common.{refl, arith}
use Rattle.store_core.specs.Stores.{state_of}
use Rattle.store_commands.proofs.Keeping.{flush-none, only-looks, flush-made}
use Rattle.store_commands.proofs.Flushing.{flush-reached, told-placed}
use Rattle.store_commands.proofs.upkeep.flush.Goals as goal

pub returns-then-before-clause-done : goal.returns-then-before-clause-done
returns-then-before-clause-done g c = flush-none (state_of g.D.Device.seen c.args.store.now) c.args.owner c.look-before.result c.look-before.ensures.event c.if-before.true

pub returns-then-before-clause-idle : goal.returns-then-before-clause-idle
returns-then-before-clause-idle g c all = (refl, only-looks (state_of g.D.Device.seen c.args.store.now) c.args.owner c.look-before.result c.look-before.ensures.event)

pub returns-in-Err-clause-idle : goal.returns-in-Err-clause-idle
returns-in-Err-clause-idle g c all = absurd (omega (arith, c.if-before.false, told-placed (state_of g.D.Device.seen c.args.store.now) c.args.owner c.look-before.result c.requires.serving c.look-before.ensures.event all))

pub prove-unreachable-requires : goal.prove-unreachable-requires
prove-unreachable-requires g c =
    absurd (omega (arith, c.if-prove.true, flush-reached (state_of g.D.Device.seen c.args.store.now) (state_of g.D.Device.seen c.keep_up.new.store) c.args.owner c.look-before.result c.look-behind.result c.requires.serving c.in_default.ensures.serving c.look-before.ensures.event c.look-behind.ensures.event c.in_default.ensures.flushed))

pub returns-clause-done : goal.returns-clause-done
returns-clause-done g c =
    flush-made (state_of g.D.Device.seen c.args.store.now) (state_of g.D.Device.seen c.keep_up.new.store) c.args.owner c.look-before.result c.look-behind.result c.look-before.ensures.event c.in_default.ensures.upkeep c.look-behind.ensures.event
    (flush-reached (state_of g.D.Device.seen c.args.store.now) (state_of g.D.Device.seen c.keep_up.new.store) c.args.owner c.look-before.result c.look-behind.result c.requires.serving c.in_default.ensures.serving c.look-before.ensures.event c.look-behind.ensures.event c.in_default.ensures.flushed)

pub returns-clause-idle : goal.returns-clause-idle
returns-clause-idle g c all = absurd (omega (arith, c.if-before.false, told-placed (state_of g.D.Device.seen c.args.store.now) c.args.owner c.look-before.result c.requires.serving c.look-before.ensures.event all))
