use Rattle.std.proofs.Common.{Ok, Err}
use Rattle.store_core.specs.Stores.{state_of}
use Rattle.store_commands.proofs.Flushing.{pages-serving, standing-keeps, install-then, install-serving, install-none}
use Rattle.store_commands.proofs.upkeep.write_component.Goals as goal

pub returns-in-Err-clause-serving : goal.returns-in-Err-clause-serving
returns-in-Err-clause-serving g c =
    pages-serving (state_of g.D.Device.seen c.args.store.now) (state_of g.D.Device.seen c.write_pages.new.store) c.args.owner c.write_pages.new.job c.in-Err.refusal c.in-Err.ensures.written c.in-Err.ensures.ready
    (standing-keeps (state_of g.D.Device.seen c.args.store.now) (state_of g.D.Device.seen c.write_pages.new.store) c.args.owner (Err c.in-Err.refusal) c.requires.standing c.in-Err.ensures.upkeep)

pub returns-clause-serving : goal.returns-clause-serving
returns-clause-serving g c =
    install-serving (state_of g.D.Device.seen c.write_pages.new.store) (state_of g.D.Device.seen c.install.new.self) c.args.owner (record { owner = c.args.owner; job = c.write_pages.new.job }) c.install.result
    (standing-keeps (state_of g.D.Device.seen c.args.store.now) (state_of g.D.Device.seen c.write_pages.new.store) c.args.owner (Ok tt) c.requires.standing c.in_default.ensures.upkeep) c.install.ensures.event c.install.ensures.ready

pub returns-clause-upkeep : goal.returns-clause-upkeep
returns-clause-upkeep g c =
    install-then (state_of g.D.Device.seen c.args.store.now) (state_of g.D.Device.seen c.write_pages.new.store) (state_of g.D.Device.seen c.install.new.self) c.args.owner (record { owner = c.args.owner; job = c.write_pages.new.job }) c.install.result c.in_default.ensures.upkeep
    (standing-keeps (state_of g.D.Device.seen c.args.store.now) (state_of g.D.Device.seen c.write_pages.new.store) c.args.owner (Ok tt) c.requires.standing c.in_default.ensures.upkeep) c.install.ensures.event

pub returns-clause-flushed : goal.returns-clause-flushed
returns-clause-flushed g c =
    install-none (state_of g.D.Device.seen c.args.store.now) (state_of g.D.Device.seen c.write_pages.new.store) (state_of g.D.Device.seen c.install.new.self) c.args.owner (record { owner = c.args.owner; job = c.write_pages.new.job }) c.install.result c.in_default.ensures.written.log
    (standing-keeps (state_of g.D.Device.seen c.args.store.now) (state_of g.D.Device.seen c.write_pages.new.store) c.args.owner (Ok tt) c.requires.standing c.in_default.ensures.upkeep) c.install.ensures.event
