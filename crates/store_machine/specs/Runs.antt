-- Which events are allowed where they stand, with their device calls and the time that they take, and runs of them.
use Rattle.std.specs.Prelude.{◌≡◌, ℕ, ◌+◌, ◌*◌, ◌≤◌, Bool, true, false, IsTrue, List, [], ◌∷◌, ◌++◌, length, All, Option, Some, Result, Ok, Err, if◌then◌else◌}
use Rattle.dev_model.specs.Counts.{Rose}
use Rattle.dev_model.specs.DeviceCalls.{made_at, ok_calls}
use Rattle.dev_model.specs.declared.calls.DeviceCall.{DeviceCall}
use Rattle.dev_model.specs.declared.calls.DeviceAct.TheVariants.{WriteAt, SyncAll}
use Rattle.page_codec.specs.declared.pages.TheConstants.{PAGE_BYTES}
use Rattle.dev_model.specs.Given.{given}
use Rattle.device_pages.specs.ReadsMade.{reads_made}
use Rattle.device_pages.specs.Lent.{is_lent}
use Rattle.wal_log.specs.Places.{record_start}
use Rattle.wal_log.specs.Records.{key_of}
use Rattle.wal_log.specs.State.{newest, turn_calls}
use Rattle.wal_log.specs.declared.log.Log.{Log}
use Rattle.wal_log.specs.declared.places.TheConstants.{RECORD_BYTES}
use Rattle.comp_dir.specs.Resting.{install_calls}
use Rattle.primary_ix.specs.AllPages.{all_pages}
use Rattle.primary_ix.specs.Roots.{AreRoots}
use Rattle.primary_ix.specs.Lookups.{view_pages}
use Rattle.primary_ix.specs.declared.rows.PrimRow.{PrimRow}
use Rattle.build_job.specs.Jobs.{Job, described}
use Rattle.store_machine.specs.Machine.{is_logged, Machine, after_event}
use Rattle.store_machine.specs.declared.events.Refusal.{Refusal}
use Rattle.store_machine.specs.declared.events.Refusal.TheVariants.{Fault, NoIndex, Damaged}
use Rattle.store_state.specs.Lists.{Lists, extents_of, trees_of}
use Rattle.store_machine.specs.Needs.{Needs}
use Rattle.store_machine.specs.declared.events.Action.{Action}
use Rattle.store_machine.specs.declared.events.Action.TheVariants.{Write, Get, Region, Freeze, Begin, JobWrite, Install}
use Rattle.store_machine.specs.declared.events.Event.{Event}

-- the pages that a reader asks for, by the lists of the components and the levels of their roots
abbrev pub Way : Type 0
Way = (disk : List (List PrimRow)) → (roots : List ℕ) → List ℕ

-- to the row of a key: none where a list in memory has it, and else a descent in each component, the newest first, up to the first
-- that has it
abbrev pub way_to : (key : ℕ) → Lists → Way
way_to key l disk roots = view_pages key l.active l.frozen (trees_of l.components) disk roots

-- to all rows: all pages of each component, the newest first
abbrev pub way_to_all : Lists → Way
way_to_all l disk roots = all_pages (trees_of l.components) roots

-- which pages of a way were read: all, or the first few; where a page was damaged, up to that one; after a fault the read of the next
-- one failed
abbrev pub IsAllOf : (pages all : List ℕ) → Type 0
IsAllOf pages all = pages ≡ all

abbrev pub IsFirstOf : (pages all : List ℕ) → Type 0
IsFirstOf pages all = (left : List ℕ) × (pages ++ left ≡ all)

abbrev pub IsFrontUpTo : (page : ℕ) → (pages all : List ℕ) → Type 0
IsFrontUpTo page pages all = ((before : List ℕ) × (pages ≡ before ++ page ∷ [])) × IsFirstOf pages all

abbrev pub StopsBefore : (pages all : List ℕ) → Type 0
StopsBefore pages all = (page : ℕ) × (left : List ℕ) × (pages ++ page ∷ left ≡ all)

abbrev pub IsPartOf : {X : Type 0} → Result X Refusal → List ℕ → List ℕ → Type 0
IsPartOf (Ok x) = IsAllOf
IsPartOf (Err Fault) = StopsBefore
IsPartOf (Err (Damaged page)) = IsFrontUpTo page
IsPartOf (Err refusal) = IsFirstOf

-- These device calls read pages of the components, one after another, on their way through the lists that are there.
pub record AreReads (m : Machine) (way : Lists → Way) (IsPart : (pages all : List ℕ) → Type 0) (calls : List DeviceCall) : Type 0 where
  pub pages : List ℕ
  pub lent : All (λ page. IsTrue (is_lent (extents_of m.lists.components) page)) pages
  pub are : calls ≡ reads_made m.clock (given pages)
  pub part : (roots : List ℕ) → AreRoots (trees_of m.lists.components) roots → IsPart pages (way m.lists m.disk roots)

-- of all these device calls the first succeeded, and the next one failed
pub record IsFront (all calls : List DeviceCall) : Type 0 where
  pub failed : DeviceCall
  pub left : List DeviceCall
  pub front : all ≡ calls ++ failed ∷ left

-- the gate of the next record
abbrev pub gate_of : Log → ℕ
gate_of log = record_start log.start (newest log) log.records

-- The device calls of a logged write, from a clock on: the record behind its gate with the gate that comes after it, a sync,
-- the record's gate, a sync.
abbrev pub log_calls : Log → (clock : ℕ) → List DeviceCall
log_calls log clock =
    made_at (clock + 1) (WriteAt (gate_of log + 1) RECORD_BYTES) ∷ made_at (clock + 2) SyncAll ∷ made_at (clock + 3) (WriteAt (gate_of log) 1) ∷ made_at (clock + 4) SyncAll ∷ []

-- all pages on the way to a key are read, and right behind them come the calls of a logged write
pub record IsWriteBehindReads (m : Machine) (key : ℕ) (calls : List DeviceCall) : Type 0 where
  pub reads : List DeviceCall
  pub are_reads : AreReads m (way_to key) IsAllOf reads
  pub are : calls ≡ reads ++ log_calls m.log (m.clock + length reads)

-- or the first of these
pub record IsFrontBehindReads (m : Machine) (key : ℕ) (calls : List DeviceCall) : Type 0 where
  pub reads : List DeviceCall
  pub are_reads : AreReads m (way_to key) IsAllOf reads
  pub logged : List DeviceCall
  pub front : IsFront (log_calls m.log (m.clock + length reads)) logged
  pub are : calls ≡ reads ++ logged

-- the device calls of an answered write, which may have had nothing to log
abbrev pub MakesWrite : (logged : Bool) → Machine → (key : ℕ) → List DeviceCall → Type 0
MakesWrite true m key calls = IsWriteBehindReads m key calls
MakesWrite false m key calls = AreReads m (way_to key) IsAllOf calls

-- those of a write that failed, in its log or in its reads
abbrev pub FailsWrite : (write_failed : Bool) → Machine → (key : ℕ) → List DeviceCall → Type 0
FailsWrite true m key calls = IsFrontBehindReads m key calls
FailsWrite false m key calls = AreReads m (way_to key) StopsBefore calls

-- the write of a job's next page
abbrev pub page_write : (clock : ℕ) → Job → List DeviceCall
page_write clock job = made_at (clock + 1) (WriteAt ((job.plan.extent.first + job.written) * PAGE_BYTES) PAGE_BYTES) ∷ []

-- it was answered that the device failed
abbrev pub is_fault : Action → Bool
is_fault (Write op (Err Fault)) = true
is_fault (Get key (Err Fault)) = true
is_fault (Region kind rect (Err Fault)) = true
is_fault (Freeze least (Err Fault)) = true
is_fault (JobWrite own (Err Fault)) = true
is_fault (Install own (Err Fault)) = true
is_fault other = false

-- The device calls of an event, in which a write or a sync failed or none did: one that was answered made all of its row, one in which
-- a device call failed made the first of them, and every other event made none.
abbrev pub MakesCalls : Machine → Action → (write_failed : Bool) → List DeviceCall → Type 0
MakesCalls m (Write op (Ok wrote)) write_failed calls = MakesWrite (is_logged op wrote) m (key_of op) calls
MakesCalls m (Write op (Err Fault)) write_failed calls = FailsWrite write_failed m (key_of op) calls
MakesCalls m (Write op (Err (Damaged page))) write_failed calls = AreReads m (way_to (key_of op)) (IsFrontUpTo page) calls
MakesCalls m (Get key answer) write_failed calls = AreReads m (way_to key) (IsPartOf answer) calls
MakesCalls m (Region kind rect (Err NoIndex)) write_failed calls = calls ≡ []
MakesCalls m (Region kind rect answer) write_failed calls = AreReads m way_to_all (IsPartOf answer) calls
MakesCalls m (Freeze least (Ok true)) write_failed calls = calls ≡ ok_calls m.clock (turn_calls m.log)
MakesCalls m (Freeze least (Err Fault)) write_failed calls = IsFront (ok_calls m.clock (turn_calls m.log)) calls
MakesCalls m (JobWrite own (Ok done)) write_failed calls = calls ≡ page_write m.clock own.job
MakesCalls m (Install own (Ok done)) write_failed calls = calls ≡ ok_calls m.clock (install_calls own.job.plan.slot (described own.job))
MakesCalls m (Install own (Err Fault)) write_failed calls = IsFront (ok_calls m.clock (install_calls own.job.plan.slot (described own.job))) calls
MakesCalls m other write_failed calls = calls ≡ []

-- The clock after an event: it counts each device call that succeeded, and where one failed it may count that one too.
abbrev pub TakesTime : (fault : Bool) → (clock : ℕ) → List DeviceCall → (clock_after : ℕ) → Type 0
TakesTime false clock calls clock_after = clock_after ≡ clock + length calls
TakesTime true clock calls clock_after = (clock + length calls ≤ clock_after) × (clock_after ≤ clock + length calls + 1)

-- Whether a write or a sync failed: in a step that only writes, exactly where it was answered that the device failed; in a write of
-- the store that may also have been a read; and in no other event.
abbrev pub Stops : Action → (write_failed : Bool) → Type 0
Stops (Write op (Err Fault)) write_failed = Unit {0}
Stops (Freeze least (Err Fault)) write_failed = write_failed ≡ true
Stops (JobWrite own (Err Fault)) write_failed = write_failed ≡ true
Stops (Install own (Err Fault)) write_failed = write_failed ≡ true
Stops other write_failed = write_failed ≡ false

-- an acknowledged write has the clock behind its last sync, and one that had nothing to log has 0
abbrev pub Acknowledges : Action → (clock : ℕ) → Type 0
Acknowledges (Write op (Ok wrote)) clock = wrote.ack ≡ (if is_logged op wrote then clock else 0)
Acknowledges other clock = Unit {0}

-- a job is begun for the one who asks
abbrev pub IsOwned : Action → (owner : Option ℕ) → Type 0
IsOwned (Begin (Ok (Some own))) owner = owner ≡ Some own.owner
IsOwned (JobWrite own answer) owner = owner ≡ Some own.owner
IsOwned (Install own answer) owner = owner ≡ Some own.owner
IsOwned other owner = Unit {0}

-- an event is allowed where it stands
pub record Allows (known : Bool) (m : Machine) (e : Event) : Type 0 where
  pub needs : Needs known m e.action
  pub owned : IsOwned e.action e.owner
  pub calls : known ≡ true → MakesCalls m e.action e.write_failed e.device_calls
  pub ticks : known ≡ true → TakesTime (is_fault e.action) m.clock e.device_calls e.clock_after
  pub acks : Acknowledges e.action e.clock_after
  pub stops : Stops e.action e.write_failed
  pub later : m.faults ≤ e.faults_before
  pub faults : e.faults_before ≤ e.faults_after
  pub cause : is_fault e.action ≡ true → Rose e.faults_before e.faults_after
  pub time : m.clock ≤ e.clock_after

-- each event of the list is allowed where it stands
abbrev pub IsRun : Bool → Machine → List Event → Type 0
IsRun known m [] = Unit {0}
IsRun known m (e ∷ es) = Allows known m e × IsRun known (after_event m e) es
