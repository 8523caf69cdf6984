use Rattle.std.proofs.Common.{◌∙◌, ◌<◌, ◌∷◌, [], ℕ, All, ap, subst, sym}
use Rattle.dev_model.specs.Story.{bytes_of, WhereTold}
use Rattle.wal_log.specs.Found.{WhereBad}
use Rattle.wal_log.specs.Rules.{Opens as LogOpens}
use Rattle.wal_log.specs.Bad.{IsBad}
use Rattle.wal_log.specs.Segments.{segments_of}
use Rattle.wal_log.specs.State.{IsStill}
use Rattle.wal_log.specs.declared.places.TheConstants.{LSN_LIMIT}
use Rattle.format_numbers.specs.declared.TheConstants.{LOG_START}
use Rattle.comp_dir.specs.Resting.{IsAtRest}
use Rattle.store_state.specs.Lists.{placed_up_to}
use Rattle.store_opening.specs.Openings.{IsRefusal}
use Rattle.store_opening.specs.Read.{HasSlots, IsDirectoryRefusal}
use Rattle.store_opening.specs.declared.opening.OpenFault.{OpenFault}
use Rattle.store_opening.proofs.OpeningRead.{image-read, log-refused, directory-refused, reads-two, reads-three, ends-below}
use Rattle.store_opening.proofs.opening.read_image.Goals as goal

pub returns-in-Err-read_slots-clause-refused : goal.returns-in-Err-read_slots-clause-refused
returns-in-Err-read_slots-clause-refused g c =
    directory-refused (g.D.Device.seen c.args.device.now).pages c.in-Err-read_slots.fault (g.D.Device.seen c.args.device.now).story (g.D.Device.seen c.read_indexes.new.device).story
    c.in-Ok.ensures.reads (λ s is calm. (c.in-Ok.ensures.formatted s is calm).0) (subst (λ (p : ℕ). WhereTold (g.D.Device.seen c.read_indexes.new.device).story (λ t. IsAtRest t → IsDirectoryRefusal p c.in-Err-read_slots.fault (bytes_of t))) c.in-Ok.ensures.same_pages c.in-Err-read_slots.ensures.refused)

pub returns-in-Err-read_slots-clause-reads : goal.returns-in-Err-read_slots-clause-reads
returns-in-Err-read_slots-clause-reads g c =
    reads-two (g.D.Device.seen c.args.device.now).story (g.D.Device.seen c.read_indexes.new.device).story (g.D.Device.seen c.read_slots.new.device).story c.in-Ok.ensures.reads c.in-Err-read_slots.ensures.reads

pub read_all-requires-clause-below : goal.read_all-requires-clause-below
read_all-requires-clause-below g c =
    subst (λ (n : ℕ). All (λ last. last < LSN_LIMIT) (n ∷ [])) (sym (c.placed_up_to-placed.ensures ∙ ap placed_up_to c.deref.ensures.value))
    (ends-below (g.D.Device.seen c.read_indexes.new.device).pages c.in-Ok-read_slots.slots.components.items c.in-Ok-read_slots.slots.ignored.items c.in-Ok-read_slots.ensures.lawful)

pub returns-in-Ok-read_all-clause-reads : goal.returns-in-Ok-read_all-clause-reads
returns-in-Ok-read_all-clause-reads g c =
    reads-three (g.D.Device.seen c.args.device.now).story (g.D.Device.seen c.read_indexes.new.device).story (g.D.Device.seen c.read_slots.new.device).story (g.D.Device.seen c.read_all.new.device).story
    c.in-Ok.ensures.reads c.in-Ok-read_slots.ensures.reads c.in-Ok-read_all.ensures.reads

pub returns-in-Err-read_all-clause-reads : goal.returns-in-Err-read_all-clause-reads
returns-in-Err-read_all-clause-reads g c =
    reads-three (g.D.Device.seen c.args.device.now).story (g.D.Device.seen c.read_indexes.new.device).story (g.D.Device.seen c.read_slots.new.device).story (g.D.Device.seen c.read_all.new.device).story
    c.in-Ok.ensures.reads c.in-Ok-read_slots.ensures.reads c.in-Err-read_all.ensures.reads

pub returns-in-Ok-read_all-clause-read : goal.returns-in-Ok-read_all-clause-read
returns-in-Ok-read_all-clause-read g c s is calm =
    image-read (g.D.Device.seen c.args.device.now).pages c.in-Ok.indexes c.in-Ok-read_slots.slots.components.items c.in-Ok-read_slots.slots.ignored.items
    (g.D.Device.seen c.args.device.now).story (g.D.Device.seen c.read_indexes.new.device).story (g.D.Device.seen c.read_slots.new.device).story
    (record { first = c.in-Ok.ensures.reads; second = c.in-Ok-read_slots.ensures.reads; formatted = c.in-Ok.ensures.formatted; slots = subst (λ (p : ℕ). WhereTold (g.D.Device.seen c.read_indexes.new.device).story (λ t. IsAtRest t → HasSlots p (bytes_of t) c.in-Ok-read_slots.slots.components.items c.in-Ok-read_slots.slots.ignored.items)) c.in-Ok.ensures.same_pages c.in-Ok-read_slots.ensures.slots }) s is calm
    (g.D.Device.seen c.read_all.new.device).story c.in-Ok-read_all.log c.in-Ok-read_all.records.items
    (subst (λ (n : ℕ). WhereTold (g.D.Device.seen c.read_slots.new.device).story (λ t. IsStill LOG_START t → LogOpens (n ∷ []) (segments_of LOG_START (bytes_of t)))) (c.placed_up_to-placed.ensures ∙ ap placed_up_to c.deref.ensures.value) c.in-Ok-read_all.ensures.opens)
    c.in-Ok-read_all.ensures.records c.in-Ok-read_all.ensures.log_of c.in-Ok-read_all.ensures.at_rest

pub returns-in-Err-read_all-clause-refused : goal.returns-in-Err-read_all-clause-refused
returns-in-Err-read_all-clause-refused g c s is calm =
    subst (λ (fault : OpenFault). IsRefusal (g.D.Device.seen c.args.device.now).pages fault (bytes_of s)) (sym c.log_fault.ensures)
    (log-refused (g.D.Device.seen c.args.device.now).pages c.in-Ok.indexes c.in-Ok-read_slots.slots.components.items c.in-Ok-read_slots.slots.ignored.items
    (g.D.Device.seen c.args.device.now).story (g.D.Device.seen c.read_indexes.new.device).story (g.D.Device.seen c.read_slots.new.device).story
    (record { first = c.in-Ok.ensures.reads; second = c.in-Ok-read_slots.ensures.reads; formatted = c.in-Ok.ensures.formatted; slots = subst (λ (p : ℕ). WhereTold (g.D.Device.seen c.read_indexes.new.device).story (λ t. IsAtRest t → HasSlots p (bytes_of t) c.in-Ok-read_slots.slots.components.items c.in-Ok-read_slots.slots.ignored.items)) c.in-Ok.ensures.same_pages c.in-Ok-read_slots.ensures.slots }) s is calm
    c.in-Err-read_all.fault
    (subst (λ (n : ℕ). WhereBad c.in-Err-read_all.fault (λ number. WhereTold (g.D.Device.seen c.read_slots.new.device).story (λ t. IsStill LOG_START t → IsBad (n ∷ []) (segments_of LOG_START (bytes_of t)) number))) (c.placed_up_to-placed.ensures ∙ ap placed_up_to c.deref.ensures.value) c.in-Err-read_all.ensures.bad))
