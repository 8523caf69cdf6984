-- What the parts of a write promise each other. No public contract needs this file.
use Rattle.std.specs.Prelude.{◌≡◌, ℕ, ◌<◌, ◌≤◌, ◌^◌, Bool, true, List, [], ◌∷◌, ◌++◌, length, Option, Some, None, Ok, is_some}
use Rattle.std.specs.Option.{option_map}
use Rattle.dev_model.specs.Counts.{Rose}
use Rattle.dev_model.specs.Story.{WhereTold}
use Rattle.dev_model.specs.Doing.{all_noted}
use Rattle.geo_base.specs.declared.points.Point.{Point}
use Rattle.geo_base.specs.declared.points.Row.{Row}
use Rattle.table_model.specs.Table.{Table}
use Rattle.wal_log.specs.Records.{record_bytes}
use Rattle.wal_log.specs.Changes.{append_calls}
use Rattle.wal_log.specs.declared.places.TheConstants.{MOST_RECORDS}
use Rattle.wal_log.specs.declared.records.LogOp.{LogOp}
use Rattle.wal_log.specs.declared.records.LogOp.TheVariants.{Put, Del}
use Rattle.primary_ix.specs.Wanted.{table_row}
use Rattle.primary_ix.specs.declared.rows.PrimRow.{PrimRow}
use Rattle.store_machine.specs.declared.events.Refusal.{Refusal}
use Rattle.store_machine.specs.declared.events.Refusal.TheVariants.{Fault, Stopped, Full, Again, NoIndex, Damaged, OutOfMemory}
use Rattle.store_state.specs.Reading.{IsLegible}
use Rattle.kept_state.specs.Writing.{next_record}
use Rattle.store_machine.specs.Laws.Logging.{between, LogsAll, LogFails, failed_state}
use Rattle.store_machine.specs.Runs.{way_to}
use Rattle.store_machine.specs.Laws.Reading.{HasOnlyRead}
use Rattle.store_machine.specs.Standing.{StoreState}
use Rattle.dev_model.specs.Story.{DeviceState}

-- nothing has stopped the store, and there is room for one write more
pub record CanWrite (store : StoreState) : Type 0 where
  pub going : store.stopped ≡ None
  pub numbers : store.log.next_lsn < 2 ^ 62
  pub room : store.log.records < MOST_RECORDS

-- why a write is refused before anything is done
abbrev pub RefusesNow : StoreState → Refusal → Type 0
RefusesNow s Fault = ⊥
RefusesNow s (Stopped faults) = s.stopped ≡ Some faults
RefusesNow s (Full need longest) = (s.stopped ≡ None) × (s.log.next_lsn ≡ 2 ^ 62) × (need ≡ 0) × (longest ≡ 0)
RefusesNow s (Again ops) = (s.stopped ≡ None) × (s.log.next_lsn < 2 ^ 62) × (s.log.records ≡ MOST_RECORDS) × (ops ≡ s.log.records)
RefusesNow s NoIndex = ⊥
RefusesNow s (Damaged page) = ⊥
RefusesNow s OutOfMemory = ⊥

-- what a row has beside its key
abbrev pub matter_of : Row → Point × List ℕ
matter_of row = (row.point, row.note)

-- the point of what stood at a key
abbrev pub old_point : Option Row → Option Point
old_point row = option_map (λ (r : Row). r.point) row

-- a write of a key where a row stood or none has something to log
abbrev pub has_to_log : LogOp → (had : Bool) → Bool
has_to_log (Put row) had = true
has_to_log (Del key) had = had

-- a write was logged, and its row laid in memory
pub record Logged (old new : StoreState) (op : LogOp) (row : Option Row) (ack : ℕ) : Type 0 where
  pub all : LogsAll old new.device op (next_record old.log op (old_point row)) (is_some (old_point row)) new.log new.lists ack
  pub width : length (record_bytes (next_record old.log op (old_point row))) ≡ 95
  pub time : old.device.clock ≤ new.device.clock
  pub later : old.device.faults ≤ new.device.faults
  pub rest : new ≡ record old { device = new.device; log = new.log; lists = new.lists; acks = old.acks ++ ack ∷ [] }

-- the record of a write was appended
pub record HasAppended (old : StoreState) (now : DeviceState) (op : LogOp) (row : Option Row) : Type 0 where
  pub width : length (record_bytes (next_record old.log op (old_point row))) ≡ 95
  pub did : now.story ≡ all_noted (append_calls old.log (next_record old.log op (old_point row))) old.device.story

-- the device failed while a write was logged
pub record IsNotLogged (old new : StoreState) (op : LogOp) (row : Option Row) : Type 0 where
  pub fails : LogFails old new.device op (next_record old.log op (old_point row))
  pub width : length (record_bytes (next_record old.log op (old_point row))) ≡ 95
  pub time : old.device.clock ≤ new.device.clock
  pub rose : Rose old.device.faults new.device.faults
  pub later : old.device.faults ≤ new.device.faults
  pub rest : new ≡ failed_state old new.device

-- Pages of the components were read, and nothing else was done; this is the row of the key, or why there is none.
pub record WasRead (before now : StoreState) (key : ℕ) (row : Option Row) : Type 0 where
  pub pages : List ℕ
  pub reads : HasOnlyRead {X = Option Row} before now.device (way_to key) (Ok row) pages
  pub row_is : (table : Table) (disk : List (List PrimRow)) → WhereTold before.device.story (λ s. IsLegible table disk before.lists s → row ≡ table_row table key)
  pub time : before.device.clock ≤ now.device.clock
  pub rest : now ≡ between before now.device
