use Rattle.std.proofs.Common.{ap, refl, sym, subst, ◌∙◌, Ok, Err}
use Rattle.store_core.specs.Regions.{records_in}
use Rattle.table_model.specs.Table.{rows_inside}
use Rattle.store_core.specs.Stores.{state_of}
use Rattle.store_core.proofs.Regions.{found, no-index, no-memory, not-read, sound-rows, read-facts}
use Rattle.store_core.proofs.Tested.{damaged, tested}
use Rattle.store_core.specs.declared.region.RegionRows.{RegionRows}
use Rattle.store_core.specs.Tested.{TestsPages}
use Rattle.store_machine.specs.Standing.{StoreState}
use Rattle.dev_model.specs.Story.{DeviceState}
use Rattle.store_machine.specs.declared.events.Refusal.{Refusal}
use Rattle.store_core.proofs.store.Store.region.Goals as goal

pub returns-then-not-has-clause-event : goal.returns-then-not-has-clause-event
returns-then-not-has-clause-event g c =
    no-index (state_of g.D.Device.seen c.args.self.now) c.args.owner c.args.kind c.args.rect.now (sym c.has.ensures ∙ c.if-not-has.true)

pub returns-in-Err-clause-event : goal.returns-in-Err-clause-event
returns-in-Err-clause-event g c =
    not-read (state_of g.D.Device.seen c.args.self.now)
    (g.D.Device.seen c.read_rows.new.device) c.in-Err.fault c.refused.result c.in-Err.ensures.asked.0 c.args.owner c.args.kind c.args.rect.now
    (read-facts _ _ _ c.in-Err.ensures.asked.0 c.in-Err.ensures.asked.1 c.in-Err.ensures.asked.2 c.in-Err.ensures.stays c.in-Err.ensures.same_pages c.in-Err.ensures.later (g.met.D.Device.clock_told c.read_rows.new.device))
    (λ table disk s is legible. sound-rows c.in-Err.fault (c.in-Err.ensures.rows table disk s is legible))
    c.in-Err.ensures.failed (sym c.has.ensures ∙ c.if-not-has.false) c.refused.ensures

pub returns-in-Ok-inside-clause-event : goal.returns-in-Ok-inside-clause-event
returns-in-Ok-inside-clause-event g c =
    found (state_of g.D.Device.seen c.args.self.now) _
    (g.D.Device.seen c.read_rows.new.device) _ c.in-Ok.ensures.asked.0 c.args.owner c.args.kind c.args.rect.now c.in-Ok.rows.items
    (record { seq = c.draw-seq.result; rows = c.in-Ok-inside.rows.items })
    (read-facts _ _ _ c.in-Ok.ensures.asked.0 c.in-Ok.ensures.asked.1 c.in-Ok.ensures.asked.2 c.in-Ok.ensures.stays c.in-Ok.ensures.same_pages c.in-Ok.ensures.later (g.met.D.Device.clock_told c.read_rows.new.device))
    c.in-Ok.ensures.rows (sym c.has.ensures ∙ c.if-not-has.false) c.draw-seq.ensures.seq
    (c.in-Ok-inside.ensures ∙ ap (λ rows. rows_inside c.args.rect.now (records_in rows)) c.deref.ensures.value)
    (ap (state_of g.D.Device.seen) c.draw-seq.ensures.rest)

pub returns-clause-event : goal.returns-clause-event
returns-clause-event g c =
    no-memory (state_of g.D.Device.seen c.args.self.now)
    (g.D.Device.seen c.read_rows.new.device) _ c.in-Ok.ensures.asked.0 c.args.owner c.args.kind c.args.rect.now
    (read-facts _ _ _ c.in-Ok.ensures.asked.0 c.in-Ok.ensures.asked.1 c.in-Ok.ensures.asked.2 c.in-Ok.ensures.stays c.in-Ok.ensures.same_pages c.in-Ok.ensures.later (g.met.D.Device.clock_told c.read_rows.new.device))
    refl (sym c.has.ensures ∙ c.if-not-has.false)

pub returns-in-Err-clause-pages : goal.returns-in-Err-clause-pages
returns-in-Err-clause-pages g c =
    let old : StoreState = state_of g.D.Device.seen c.args.self.now in
    let now : DeviceState = g.D.Device.seen c.read_rows.new.device in
    subst (λ (r : Refusal). TestsPages {X = RegionRows} old now (Err r)) (sym c.refused.ensures)
    (damaged old now RegionRows c.in-Err.fault c.in-Err.ensures.asked.0 c.in-Err.ensures.asked.1)

pub returns-in-Ok-inside-clause-pages : goal.returns-in-Ok-inside-clause-pages
returns-in-Ok-inside-clause-pages g c =
    let y : RegionRows = record { seq = c.draw-seq.result; rows = c.in-Ok-inside.rows } in
    let old : StoreState = state_of g.D.Device.seen c.args.self.now in
    let now : DeviceState = g.D.Device.seen c.read_rows.new.device in
    subst (λ (d : DeviceState). TestsPages {X = RegionRows} old d (Ok y)) (sym (ap (λ (s : StoreState). s.device) (ap (state_of g.D.Device.seen) c.draw-seq.ensures.rest)))
    (tested old now c.in-Ok.rows y c.in-Ok.ensures.asked.0 c.in-Ok.ensures.asked.1)
