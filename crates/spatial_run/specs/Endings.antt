-- How a call of the program ends: what it prints, with which status, and for which cause.
use Rattle.std.specs.Prelude.{◌≡◌, ◌⊎◌, ℕ, Bool, ◌&&◌, ◌||◌, nat_eq, if◌then◌else◌, List, [], ◌∷◌, ◌++◌, codes, decimal, Option, Some, None, IfSome, Result, Ok, Err, is_err}
use Rattle.dev_model.specs.declared.streams.Failed.{Failed}
use Rattle.dev_model.specs.Counts.{Rose, Counts}
use Rattle.dev_model.specs.Streams.{Says}
use Rattle.table_model.specs.Commands.{Command}
use Rattle.table_model.specs.Phases.{Phases}
use Rattle.table_model.specs.Record.{RunRecord, record_text}
use Rattle.script_lang.specs.declared.limits.TheConstants.{MOST_BYTES, MOST_COMMANDS}
use Rattle.script_lang.specs.Scripts.{Wrong, bad_line, too_long, script_of}
use Rattle.dev_model.specs.Story.{DeviceState}
use Rattle.store_opening.specs.declared.opening.OpenFault.{OpenFault}
use Rattle.store_opening.specs.declared.opening.OpenFault.TheVariants as opening
use Rattle.spatial_run.specs.Tasks.{Task, format, serial, fresh}
use Rattle.spatial_run.specs.declared.outcomes.Refusals.{Refusals}
use Rattle.spatial_run.specs.OnDevice.{OnlyOpened, NotOpened}

pub data Ending : Type 0 where
  bad_words : Ending
  source_fault : Ending
  bad_script : Wrong → Ending
  no_memory : Ending
  format_failed : Ending
  formatted : (pages : ℕ) → Ending
  not_opened : OpenFault → Ending
  ran : Phases Command → RunRecord → Refusals → Ending

abbrev pub ending_text : Ending → List ℕ
ending_text bad_words = codes "bad words\n"
ending_text source_fault = codes "source fault\n"
ending_text (bad_script (bad_line n)) = codes "line " ++ decimal n ++ codes ": bad\n"
ending_text (bad_script too_long) = codes "too long\n"
ending_text no_memory = codes "no memory\n"
ending_text format_failed = codes "device fault\n"
ending_text (formatted pages) = codes "formatted " ++ decimal pages ++ codes "\n"
ending_text (not_opened opening.NotFormatted) = codes "bad image: not formatted\n"
ending_text (not_opened (opening.BadSlot n)) = codes "bad image: slot " ++ decimal n ++ codes "\n"
ending_text (not_opened (opening.BadLog k)) = codes "bad image: segment " ++ decimal k ++ codes "\n"
ending_text (not_opened opening.Fault) = codes "device fault\n"
ending_text (not_opened opening.OutOfMemory) = codes "no memory\n"
ending_text (ran s r f) = record_text s r

-- the first status whose condition holds, else 0
abbrev pub first_of : List (ℕ × Bool) → ℕ
first_of [] = 0
first_of ((status, holds) ∷ others) = if holds then status else first_of others

-- The status of an ending whose text was sent: of a run a damaged page, the device, no room, no such index, memory.
abbrev pub own_status : Ending → ℕ
own_status bad_words = 1
own_status source_fault = 3
own_status (bad_script wrong) = 2
own_status no_memory = 8
own_status format_failed = 5
own_status (formatted pages) = 0
own_status (not_opened opening.Fault) = 5
own_status (not_opened opening.OutOfMemory) = 8
own_status (not_opened bad_image) = 6
own_status (ran s r f) = first_of ((6, f.damaged) ∷ (5, f.device) ∷ (7, f.full) ∷ (9, f.no_index) ∷ (8, f.memory) ∷ [])

-- where the sink failed, 4 stands in the place of 0 and of 8
abbrev pub status_of : Ending → Result (Unit {0}) Failed → ℕ
status_of e sent = if is_err sent && (nat_eq (own_status e) 0 || nat_eq (own_status e) 8) then 4 else own_status e

-- the record that is handed out: that of the run, or an empty one
abbrev pub record_of_ending : Ending → RunRecord
record_of_ending (ran s r f) = r
record_of_ending other = record { setup = []; lanes = []; after = [] }

-- what a call is given and what it leaves of its source, its sink and its device
pub record Edges : Type 0 where
  pub source_old : ℕ
  pub source_new : ℕ
  pub left : Option (List ℕ)
  pub sink_old : ℕ
  pub sink_new : ℕ
  pub before : Option (List ℕ)
  pub after : Option (List ℕ)
  pub device_old : DeviceState
  pub device_new : DeviceState

-- the same by what a source, a sink and a device tell of themselves
abbrev pub edges_of : {S K D : Type 0} → (source_faults : S → ℕ) → (left : S → Option (List ℕ)) → (sink_faults : K → ℕ) → (taken : K → Option (List ℕ)) → (seen : D → DeviceState)
    → (source source_after : S) → (sink sink_after : K) → (device device_after : D) → Edges
edges_of source_faults left sink_faults taken seen source source_after sink sink_after device device_after = record {
  source_old = source_faults source;
  source_new = source_faults source_after;
  left = left source;
  sink_old = sink_faults sink;
  sink_new = sink_faults sink_after;
  before = taken sink;
  after = taken sink_after;
  device_old = seen device;
  device_new = seen device_after;
}

-- the task is to run a script
abbrev pub RunsScript : Option Task → Type 0
RunsScript (Some serial) = Unit {0}
RunsScript (Some (fresh indexes)) = Unit {0}
RunsScript other = ⊥

-- of a source that tells its bytes, what the script of them is
abbrev pub IsScript : Option (List ℕ) → Result (Phases Command) Wrong → Type 0
IsScript left read = IfSome left (λ bytes. script_of MOST_BYTES MOST_COMMANDS bytes ≡ read)

-- the task is a format with these indexes; one on which a script is to run begins only where that is one
abbrev pub IsToFormat : Option Task → (left : Option (List ℕ)) → (indexes : ℕ) → Type 0
IsToFormat task left indexes = (task ≡ Some (format indexes)) ⊎ ((task ≡ Some (fresh indexes)) × ((s : Phases Command) × IsScript left (Ok s)))

-- Why a call ends so, and the whole of it, by what is asked of a format and of a script that ran: what they leave, or also by which
-- device calls and events.
module _ (Formats : (indexes : ℕ) → (old new : DeviceState) → Result (Unit {0}) Failed → Type 0) (Ran : (device new : DeviceState) → (acks : List ℕ) → Phases Command → RunRecord → Refusals → Type 0) where
  -- the device on which a script runs: as it was, or formatted
  abbrev pub Prepared : Option Task → (old device : DeviceState) → Type 0
  Prepared (Some serial) old device = device ≡ old
  Prepared (Some (fresh indexes)) old device = Formats indexes old device (Ok tt)
  Prepared other old device = ⊥

  -- the source gave this script, and the device was prepared for it
  pub record Begun (task : Option Task) (left : Option (List ℕ)) (s : Phases Command) (old : DeviceState) : Type 0 where
    pub script : IsScript left (Ok s)
    pub device : DeviceState
    pub prepared : Prepared task old device

  -- The task, the source's count of faults before and after, the bytes that the source told, the device before and after, and the acks.
  -- Where the words, the source or the script are bad, nothing was done on the device, and nothing was acknowledged where no command ran.
  -- Memory may be refused while the script is read, or behind it and before its first command.
  abbrev pub IsCause : Option Task → (source_old source_new : ℕ) → Option (List ℕ) → (old new : DeviceState) → (acks : List ℕ) → Ending → Type 0
  IsCause task so sn left old new acks bad_words = (task ≡ None) × (sn ≡ so) × (new ≡ old) × (acks ≡ [])
  IsCause task so sn left old new acks source_fault = RunsScript task × Rose so sn × (new ≡ old) × (acks ≡ [])
  IsCause task so sn left old new acks (bad_script wrong) = RunsScript task × (sn ≡ so) × IsScript left (Err wrong) × (new ≡ old) × (acks ≡ [])
  IsCause task so sn left old new acks no_memory =
      RunsScript task × (sn ≡ so) × (acks ≡ []) × ((new ≡ old) ⊎ ((s : Phases Command) × (begun : Begun task left s old) × OnlyOpened begun.device new))
  IsCause task so sn left old new acks format_failed =
      (sn ≡ so) × (acks ≡ []) × ((indexes : ℕ) × (failed : Failed) × IsToFormat task left indexes × Formats indexes old new (Err failed))
  IsCause task so sn left old new acks (formatted pages) =
      (sn ≡ so) × (acks ≡ []) × (pages ≡ new.pages) × ((indexes : ℕ) × (task ≡ Some (format indexes)) × Formats indexes old new (Ok tt))
  IsCause task so sn left old new acks (not_opened fault) =
      (sn ≡ so) × (acks ≡ []) × ((s : Phases Command) × (begun : Begun task left s old) × NotOpened begun.device new fault)
  IsCause task so sn left old new acks (ran s r f) = (sn ≡ so) × ((begun : Begun task left s old) × Ran begun.device new acks s r f)

  -- A call ends in one way: for its cause, with its text, or with a front of it where the sink's count of faults rose,
  -- with its status and its record.
  pub record Ends (task : Option Task) (edges : Edges) (status : ℕ) (acks : List ℕ) (r : RunRecord) : Type 0 where
    pub ending : Ending
    pub sent : Result (Unit {0}) Failed
    pub cause : IsCause task edges.source_old edges.source_new edges.left edges.device_old edges.device_new acks ending
    pub counts : Counts edges.sink_old edges.sink_new sent
    pub told : Says edges.before edges.after (ending_text ending) sent
    pub is_status : status ≡ status_of ending sent
    pub outcomes : r ≡ record_of_ending ending
