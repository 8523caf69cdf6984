-- What an event needs where it stands, and what its answer tells. What is asked on every device speaks only of numbers and lists that
-- a store has whatever its device tells; of the table it is asked only where the device tells its bytes (`known`).
use Rattle.std.specs.Prelude.{◌≡◌, ◌≢◌, ◌⊎◌, ℕ, ◌+◌, ◌-◌, ◌<◌, ◌≤◌, ◌^◌, Bool, true, false, List, length, Some, None, Ok, Err, is_some, if◌then◌else◌}
use Rattle.std.specs.Option.{option_map}
use Rattle.std.specs.FinMap as finite
use Rattle.geo_base.specs.Corners.{Corners}
use Rattle.geo_base.specs.Indexes.{has_index}
use Rattle.geo_base.specs.declared.points.Point.{Point}
use Rattle.geo_base.specs.declared.points.IndexKind.{IndexKind}
use Rattle.table_model.specs.Table.{Place, rows_of, rows_inside}
use Rattle.wal_log.specs.Records.{key_of}
use Rattle.wal_log.specs.declared.places.TheConstants.{MOST_RECORDS}
use Rattle.wal_log.specs.declared.records.LogOp.{LogOp}
use Rattle.primary_ix.specs.Wanted.{table_row}
use Rattle.store_machine.specs.Machine.{is_logged, Machine}
use Rattle.store_machine.specs.declared.events.Wrote.{Wrote}
use Rattle.store_machine.specs.declared.events.Got.{Got}
use Rattle.store_machine.specs.declared.events.Look.{Look}
use Rattle.store_machine.specs.declared.events.Found.{Found}
use Rattle.store_machine.specs.declared.events.Refusal.{Refusal}
use Rattle.store_machine.specs.declared.events.Refusal.TheVariants.{Fault, Stopped, Full, Again, NoIndex, Damaged, OutOfMemory}
use Rattle.store_state.specs.Beginning.{IsRefused, MayBegin, fresh}
use Rattle.store_state.specs.declared.faults.BeginFault.TheVariants as begin
use Rattle.store_state.specs.Lists.{job_of, placed_up_to}
use Rattle.store_state.specs.OwnJob.{IsJobOf}
use Rattle.store_machine.specs.declared.events.OwnedJob.{OwnedJob}
use Rattle.store_machine.specs.declared.events.Action.{Action}
use Rattle.store_machine.specs.declared.events.Action.TheVariants as action

-- what a row has beside its key
abbrev pub place_in : Point × List ℕ → Place
place_in p = record { point = p.0; note = p.1 }

-- nothing has stopped the machine, and there is room for one write more
pub record IsReadyToWrite (m : Machine) : Type 0 where
  pub going : m.stopped ≡ None
  pub numbers : m.log.next_lsn < 2 ^ 62
  pub room : m.log.records < MOST_RECORDS

-- an answered write
pub record NeedsWrite (known : Bool) (m : Machine) (op : LogOp) (wrote : Wrote) : Type 0 where
  pub ready : IsReadyToWrite m
  pub seq : wrote.seq ≡ m.seq
  pub ops : wrote.ops ≡ (if is_logged op wrote then m.log.records + 1 else m.log.records)
  pub old : known ≡ true → option_map place_in wrote.old ≡ finite.get m.table (key_of op)

-- A page that was read is none for its place. It never is on a device that tells, where the store could be opened from what was on the
-- disk.
abbrev pub MayBeDamaged : Bool → Type 0
MayBeDamaged known = known ≡ false

-- A refused write. The first cause that holds is the one that is answered.
abbrev pub RefusesWrite : Bool → Machine → Refusal → Type 0
RefusesWrite known m Fault = IsReadyToWrite m
RefusesWrite known m (Stopped faults) = m.stopped ≡ Some faults
RefusesWrite known m (Full need longest) = (m.stopped ≡ None) × (m.log.next_lsn ≡ 2 ^ 62) × (need ≡ 0) × (longest ≡ 0)
RefusesWrite known m (Again ops) = (m.stopped ≡ None) × (m.log.next_lsn < 2 ^ 62) × (m.log.records ≡ MOST_RECORDS) × (ops ≡ m.log.records)
RefusesWrite known m NoIndex = ⊥
RefusesWrite known m (Damaged page) = MayBeDamaged known × IsReadyToWrite m
RefusesWrite known m OutOfMemory = IsReadyToWrite m

-- an answered get
pub record NeedsGet (known : Bool) (m : Machine) (key : ℕ) (got : Got) : Type 0 where
  pub seq : got.seq ≡ m.seq
  pub row : known ≡ true → got.row ≡ table_row m.table key

abbrev pub RefusesGet : Bool → Refusal → Type 0
RefusesGet known Fault = Unit {0}
RefusesGet known (Damaged page) = MayBeDamaged known
RefusesGet known other = ⊥

-- what a store tells about itself; there are no lanes yet
pub record NeedsLook (m : Machine) (look : Look) : Type 0 where
  pub ops : look.ops ≡ m.log.records
  pub frozen : look.frozen ≡ is_some m.lists.frozen
  pub lanes : look.lanes ≡ 0
  pub placed : look.placed ≡ placed_up_to m.lists.components
  pub lsn : look.lsn ≡ m.log.next_lsn - 1

-- an answered region, through whichever index
pub record NeedsRegion (known : Bool) (m : Machine) (kind : IndexKind) (rect : Corners) (found : Found) : Type 0 where
  pub declared : has_index m.declared kind ≡ true
  pub seq : found.seq ≡ m.seq
  pub rows : known ≡ true → found.rows ≡ rows_inside rect (rows_of m.table)

abbrev pub RefusesRegion : Bool → Machine → IndexKind → Refusal → Type 0
RefusesRegion known m kind Fault = has_index m.declared kind ≡ true
RefusesRegion known m kind NoIndex = has_index m.declared kind ≡ false
RefusesRegion known m kind (Damaged page) = MayBeDamaged known × (has_index m.declared kind ≡ true)
RefusesRegion known m kind OutOfMemory = has_index m.declared kind ≡ true
RefusesRegion known m kind other = ⊥

-- the active list may be frozen: it has so many writes, and no other one waits
pub record MayFreeze (m : Machine) (least : ℕ) : Type 0 where
  pub going : m.stopped ≡ None
  pub enough : least ≤ m.log.records
  pub some : 1 ≤ m.log.records
  pub none_waits : m.lists.frozen ≡ None

abbrev pub RefusesFreeze : Machine → ℕ → Refusal → Type 0
RefusesFreeze m least Fault = MayFreeze m least
RefusesFreeze m least (Stopped faults) = m.stopped ≡ Some faults
RefusesFreeze m least other = ⊥

-- a list waits for its component, and nobody writes it
pub record IsWaiting (m : Machine) : Type 0 where
  pub going : m.stopped ≡ None
  pub frozen : m.lists.frozen ≢ None
  pub free : m.lists.job ≡ None

-- A begin that is refused: for a job that was begun before, or as a begin of the lists is.
abbrev pub RefusesBegin : Machine → Refusal → Type 0
RefusesBegin m (Stopped faults) = m.stopped ≡ Some faults
RefusesBegin m (Again ops) = (m.stopped ≡ None) × (m.lists.frozen ≢ None) × (m.lists.job ≢ None) × (ops ≡ m.log.records)
RefusesBegin m (Full need longest) = IsWaiting m × IsRefused m.lists (begin.Full need longest)
RefusesBegin m OutOfMemory = IsWaiting m × IsRefused m.lists begin.OutOfMemory
RefusesBegin m other = ⊥

-- the owner's job at its step, with pages that aren't written
pub record IsWriting (m : Machine) (own : OwnedJob) : Type 0 where
  pub begun : IsJobOf m.lists own.owner own.job
  pub left : own.job.written < own.job.plan.extent.pages

-- the owner's job with all its pages
pub record IsWrittenOut (m : Machine) (own : OwnedJob) : Type 0 where
  pub begun : IsJobOf m.lists own.owner own.job
  pub none_left : own.job.written ≡ own.job.plan.extent.pages

-- a step of a job that is refused
abbrev pub RefusesStep : Machine → Refusal → Type 0
RefusesStep m Fault = m.stopped ≡ None
RefusesStep m (Stopped faults) = m.stopped ≡ Some faults
RefusesStep m other = ⊥

abbrev pub Needs : Bool → Machine → Action → Type 0
Needs known m (action.Write op (Ok wrote)) = NeedsWrite known m op wrote
Needs known m (action.Write op (Err refusal)) = RefusesWrite known m refusal
Needs known m (action.Get key (Ok got)) = NeedsGet known m key got
Needs known m (action.Get key (Err refusal)) = RefusesGet known refusal
Needs known m (action.Count seq rows) = (seq ≡ m.seq) × (rows ≡ m.lists.rows) × (known ≡ true → rows ≡ length (rows_of m.table))
Needs known m (action.Look look) = NeedsLook m look
Needs known m (action.Region kind rect (Ok found)) = NeedsRegion known m kind rect found
Needs known m (action.Region kind rect (Err refusal)) = RefusesRegion known m kind refusal
Needs known m (action.Freeze least (Ok true)) = MayFreeze m least
Needs known m (action.Freeze least (Ok false)) = (m.stopped ≡ None) × ((m.log.records < least) ⊎ (m.lists.frozen ≢ None))
Needs known m (action.Freeze least (Err refusal)) = RefusesFreeze m least refusal
Needs known m (action.Begin (Ok (Some own))) = (m.stopped ≡ None) × MayBegin m.lists own.job.plan × (own.job ≡ job_of m.lists (fresh own.owner own.job.plan))
Needs known m (action.Begin (Ok None)) = (m.stopped ≡ None) × (m.lists.frozen ≡ None)
Needs known m (action.Begin (Err refusal)) = RefusesBegin m refusal
Needs known m (action.JobWrite own (Ok done)) = (m.stopped ≡ None) × IsWriting m own
Needs known m (action.JobWrite own (Err refusal)) = IsWriting m own × RefusesStep m refusal
Needs known m (action.Install own (Ok done)) = (m.stopped ≡ None) × IsWrittenOut m own
Needs known m (action.Install own (Err refusal)) = IsWrittenOut m own × RefusesStep m refusal
