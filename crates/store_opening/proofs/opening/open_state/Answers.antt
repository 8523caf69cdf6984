use Rattle.std.proofs.Common.{◌∙◌, ap, List}
use Rattle.wal_log.specs.declared.records.Record.{Record}
use Rattle.store_state.specs.Opened.{opened}
use Rattle.store_opening.specs.Restored.{restored}
use Rattle.store_opening.proofs.KeptAgain.{image-opens, opening-kept}
use Rattle.store_opening.proofs.opening.open_state.Goals as goal

pub returns-in-Ok-state_of-clause-opens : goal.returns-in-Ok-state_of-clause-opens
returns-in-Ok-state_of-clause-opens g c s is calm =
    image-opens (g.D.Device.seen c.args.device.now).pages c.in-Ok.image.indexes c.in-Ok.image.slots.components.items c.in-Ok.image.slots.ignored.items c.in-Ok.image.log c.in-Ok.image.records.items s (g.D.Device.seen c.read_image.new.device).story
    (c.in-Ok.ensures.read s is calm)

pub returns-in-Ok-state_of-clause-kept : goal.returns-in-Ok-state_of-clause-kept
returns-in-Ok-state_of-clause-kept g c s is calm content table recovers t told =
    opening-kept (g.D.Device.seen c.args.device.now).pages c.in-Ok.image.indexes c.in-Ok.image.slots.components.items c.in-Ok.image.slots.ignored.items c.in-Ok.image.log c.in-Ok.image.records.items
    c.in-Ok-state_of.state.0.space c.in-Ok-state_of.state.0 s t (g.D.Device.seen c.read_image.new.device).story table
    (c.in-Ok.ensures.read s is calm) (c.in-Ok.ensures.reads s is) told calm content recovers c.in-Ok.ensures.start c.in-Ok.ensures.counted c.in-Ok.ensures.lawful c.in-Ok.ensures.behind
    (c.in-Ok-state_of.ensures.lists ∙ ap (λ (rs : List Record). restored c.in-Ok.image.log rs (opened c.in-Ok.image.slots.components.items c.in-Ok.image.slots.ignored.items c.in-Ok-state_of.state.0.space)) c.deref.ensures.value)
