-- Worked examples: a store that is opened with no row, and events of it. No public contract but those of the examples needs
-- this file.
use Rattle.std.specs.Prelude.{ℕ, ◌+◌, Bool, true, false, List, [], ◌∷◌, ◌++◌, Option, Some, None, Ok, Err, codes}
use Rattle.std.specs.FinMap.{empty, insert}
use Rattle.dev_model.specs.DeviceCalls.{made_at}
use Rattle.dev_model.specs.Story as story
use Rattle.dev_model.specs.Story.{Read, Story, patched}
use Rattle.dev_model.specs.declared.calls.DeviceCall.{DeviceCall}
use Rattle.dev_model.specs.declared.calls.DeviceAct.TheVariants.{ReadAt, WriteAt, SyncAll}
use Rattle.geo_base.specs.declared.points.Row.{Row}
use Rattle.table_model.specs.Table.{place_of}
use Rattle.table_model.specs.Commands as command
use Rattle.wal_log.specs.declared.log.Log.{Log}
use Rattle.wal_log.specs.declared.records.LogOp.TheVariants.{Put, Del}
use Rattle.format_numbers.specs.declared.TheConstants.{LOG_START}
use Rattle.comp_dir.specs.Examples.{component}
use Rattle.comp_dir.specs.declared.slots.Slot.{Slot}
use Rattle.page_codec.specs.declared.kinds.TheConstants.{PRIMARY_LEAF}
use Rattle.primary_ix.specs.Wanted.{matter_row}
use Rattle.store_state.specs.Lists.{Lists}
use Rattle.store_machine.specs.Machine.{Opening}
use Rattle.store_machine.specs.declared.events.OwnedJob.{OwnedJob}
use Rattle.store_machine.specs.declared.events.Refusal.{Refusal}
use Rattle.store_machine.specs.declared.events.Refusal.TheVariants.{Fault, Damaged}
use Rattle.store_machine.specs.declared.events.Action.{Action}
use Rattle.store_machine.specs.declared.events.Action.TheVariants.{Write, Get, Count, Look, Freeze, Begin, JobWrite, Install}
use Rattle.store_machine.specs.declared.events.Event.{Event}

-- a log without a record, whose first segment alone has an open header
abbrev pub empty_log : Log
empty_log = record { start = LOG_START; generation = 0; next_lsn = 1; records = 0; open_headers = true ∷ false ∷ false ∷ false ∷ [] }

-- lists without a row, on a device of 1,024 pages
abbrev pub no_lists : Lists
no_lists = record {
  active = [];
  frozen = None;
  cut = 0;
  cut_rows = 0;
  components = [];
  ignored = [];
  space = record { reserved = []; pages = 1024 };
  job = None;
  rows = 0;
}

abbrev pub start : Opening
start = record { table = empty; log = empty_log; lists = no_lists; disk = []; declared = 1; faults = 0; clock = 20; story = None }

abbrev pub seven : Row
seven = record { key = 7; point = record { x = 3; y = 4 }; note = codes "a" }

abbrev pub other : Row
other = record { key = 7; point = record { x = 3; y = 5 }; note = codes "a" }

-- an event of an owner in which no call of the device fails
abbrev pub event_of : (owner : ℕ) → Action → List DeviceCall → (clock : ℕ) → Event
event_of owner action calls clock = record {
  owner = Some owner;
  action = action;
  device_calls = calls;
  write_failed = false;
  faults_before = 0;
  faults_after = 0;
  clock_after = clock;
}

-- one of owner 1
abbrev pub event : Action → List DeviceCall → (clock : ℕ) → Event
event action calls clock = event_of 1 action calls clock

-- the device calls that write so many bytes behind a gate, and then the gate
abbrev pub gated_write : (clock gate bytes : ℕ) → List DeviceCall
gated_write clock gate bytes =
    made_at (clock + 1) (WriteAt (gate + 1) bytes) ∷ made_at (clock + 2) SyncAll ∷ made_at (clock + 3) (WriteAt gate 1) ∷ made_at (clock + 4) SyncAll ∷ []

-- the device calls of a write that is logged at this gate
abbrev pub log_write : (clock gate : ℕ) → List DeviceCall
log_write clock gate = gated_write clock gate 96

-- the device call that reads a page
abbrev pub page_read : (clock at : ℕ) → List DeviceCall
page_read clock at = made_at (clock + 1) (ReadAt at 4096) ∷ []

-- a put of a new key, with this ack, these device calls and this clock at its end
abbrev pub put_with : (ack : ℕ) → List DeviceCall → (clock : ℕ) → Event
put_with ack calls clock = event (Write (Put seven) (Ok (record { seq = 0; old = None; ops = 1; ack = ack }))) calls clock

abbrev pub put_seven : Event
put_seven = put_with 24 (log_write 20 36928) 24

-- a get of key 7
abbrev pub got : (seq : ℕ) → Option Row → List DeviceCall → (clock : ℕ) → Event
got seq row calls clock = event (Get 7 (Ok (record { seq = seq; row = row }))) calls clock

abbrev pub del_seven : Event
del_seven = event (Write (Del 7) (Ok (record { seq = 2; old = Some (seven.point, seven.note); ops = 2; ack = 28 }))) (log_write 24 37024) 28

abbrev pub counted : (seq rows clock : ℕ) → Event
counted seq rows clock = event (Count seq rows) [] clock

-- a row is put, asked for and taken out, and then no row is counted
abbrev pub worked : List Event
worked = put_seven ∷ got 1 (Some seven) [] 24 ∷ del_seven ∷ counted 3 0 28 ∷ []

-- a put that the device refused, whether a write or a sync of it failed, with these device calls and this clock at its end
abbrev pub failed_with : (write_failed : Bool) → List DeviceCall → (clock : ℕ) → Event
failed_with write_failed calls clock = record {
  owner = Some 1;
  action = Write (Put seven) (Err Fault);
  device_calls = calls;
  write_failed = write_failed;
  faults_before = 0;
  faults_after = 1;
  clock_after = clock;
}

-- its first sync fails
abbrev pub failed_put : Event
failed_put = failed_with true (made_at 21 (WriteAt 36929 96) ∷ []) 22

-- a put that is refused without a call of the device, at this count of faults
abbrev pub refused_put : Refusal → (faults clock : ℕ) → Event
refused_put refusal faults clock = record {
  owner = Some 1;
  action = Write (Put seven) (Err refusal);
  device_calls = [];
  write_failed = false;
  faults_before = faults;
  faults_after = faults;
  clock_after = clock;
}

-- a put that is answered after the one that failed
abbrev pub answered_put : Event
answered_put = record {
  owner = Some 1;
  action = Write (Put seven) (Ok (record { seq = 0; old = None; ops = 1; ack = 26 }));
  device_calls = log_write 22 36928;
  write_failed = false;
  faults_before = 1;
  faults_after = 1;
  clock_after = 26;
}

-- what was not there is taken out, with a record in the log
abbrev pub logged_del : Event
logged_del = event (Write (Del 7) (Ok (record { seq = 0; old = None; ops = 1; ack = 24 }))) (log_write 20 36928) 24

-- what the store tells of itself while its last write is the first one
abbrev pub looked : (ops placed clock : ℕ) → Event
looked ops placed clock = event (Look (record { ops = ops; frozen = false; lanes = 0; placed = placed; lsn = 1 })) [] clock

-- the active list is frozen, and the log goes on at this header
abbrev pub frozen : (clock header : ℕ) → Event
frozen clock header = event (Freeze 1 (Ok true)) (gated_write clock header 64) (clock + 4)

-- the job of a list of one row, of which so many pages are written: in the first data page, for the first slot
abbrev pub job : (written : ℕ) → OwnedJob
job written = record {
  owner = 1;
  job = record {
    rows = matter_row seven ∷ [];
    plan = record { index = 0; extent = record { first = 265; pages = 1 }; slot = 0 };
    interval = record { first_lsn = 1; last_lsn = 1 };
    table_rows = 1;
    written = written;
  };
}

abbrev pub begun : (clock : ℕ) → Event
begun clock = event (Begin (Ok (Some (job 0)))) [] clock

-- an owner writes the page of the job
abbrev pub page_written : (owner : ℕ) → Event
page_written owner = event_of owner (JobWrite (job 0) (Ok tt)) (made_at 29 (WriteAt 1085440 4096) ∷ []) 29

-- the job's component is installed, with so many of its pages written
abbrev pub installed : (written : ℕ) → List DeviceCall → Event
installed written calls = event (Install (job written) (Ok tt)) calls 33

-- the gate of the slot is written before the slot is on the disk
abbrev pub early_gate : List DeviceCall
early_gate = made_at 30 (WriteAt 4097 63) ∷ made_at 31 (WriteAt 4096 1) ∷ made_at 32 SyncAll ∷ made_at 33 SyncAll ∷ []

-- a put is frozen, and a job is begun for it
abbrev pub put_and_begun : List Event
put_and_begun = put_seven ∷ frozen 24 299008 ∷ begun 28 ∷ []

-- a flush of it, from a first look on, without the look at its end
abbrev pub unplaced_flush : List Event
unplaced_flush = looked 1 0 24 ∷ frozen 24 299008 ∷ begun 28 ∷ page_written 1 ∷ installed 1 (gated_write 29 4096 63) ∷ []

-- a row is put, flushed, and read from the component
abbrev pub flushed : List Event
flushed = put_seven ∷ unplaced_flush ++ looked 0 1 33 ∷ got 1 (Some seven) (page_read 33 1085440) 34 ∷ []

-- the row of the component is given without a read of it
abbrev pub unread : List Event
unread = put_seven ∷ unplaced_flush ++ got 1 (Some seven) [] 33 ∷ []

-- the row is put again, and then read from the component too
abbrev pub put_over : Event
put_over = event (Write (Put seven) (Ok (record { seq = 2; old = Some (seven.point, seven.note); ops = 1; ack = 39 }))) (page_read 34 1085440 ++ log_write 35 299072) 39

abbrev pub read_too_much : List Event
read_too_much = flushed ++ put_over ∷ got 3 (Some seven) (page_read 39 1085440) 40 ∷ []

-- nothing is there to freeze, and no list waits
abbrev pub idle : (clock : ℕ) → List Event
idle clock = event (Freeze 1 (Ok false)) [] clock ∷ event (Begin (Ok None)) [] clock ∷ []

-- a second put, behind the freeze of the first
abbrev pub put_behind : Event
put_behind = event (Write (Put seven) (Ok (record { seq = 1; old = Some (seven.point, seven.note); ops = 1; ack = 32 }))) (log_write 28 299072) 32

-- a page that is none for its place
abbrev pub damaged_get : (page : ℕ) → List DeviceCall → (clock : ℕ) → Event
damaged_get page calls clock = event (Get 7 (Err (Damaged page))) calls clock

-- The commands of the flushed row, and what became of them.
abbrev pub put_command : command.Command
put_command = command.on_table (command.write (command.put seven))

abbrev pub get_command : command.Command
get_command = command.on_table (command.get 7)

abbrev pub script : List command.Command
script = put_command ∷ command.flush ∷ get_command ∷ []

abbrev pub outcomes : List command.Outcome
outcomes = command.answered 0 (command.wrote command.put_new) ∷ command.quiet ∷ command.answered 1 (command.got (Some (place_of seven))) ∷ []

-- a get that the device refused
abbrev pub failed_get : Event
failed_get = record {
  owner = Some 1;
  action = Get 7 (Err Fault);
  device_calls = [];
  write_failed = false;
  faults_before = 0;
  faults_after = 1;
  clock_after = 21;
}

-- A device with two components of one row each, of which the newer one, on page 266, has key 8, and the older one, on page 265, key 7.
abbrev pub eight : Row
eight = record { key = 8; point = record { x = 5; y = 6 }; note = codes "b" }

abbrev pub slot_of : (page last : ℕ) → Slot
slot_of page last = record (component page last last) { index = 0; table_rows = last }

abbrev pub two_components : Opening
two_components = record start {
  table = insert (insert empty 7 (place_of seven)) 8 (place_of eight);
  lists = record no_lists { cut = 2; components = (1, slot_of 266 2) ∷ (0, slot_of 265 1) ∷ []; rows = 2 };
  disk = (matter_row eight ∷ []) ∷ (matter_row seven ∷ []) ∷ [];
}

-- key 7 by a read of both, and by a read of the newer one alone
abbrev pub read_both : List Event
read_both = got 0 (Some seven) (page_read 20 1089536 ++ page_read 21 1085440) 22 ∷ []

abbrev pub read_newest : List Event
read_newest = got 0 (Some seven) (page_read 20 1089536) 21 ∷ []

-- The same from clock 1 on, after a write that made page 266 a leaf without a row; page 265 isn't one. Both are read.
abbrev pub two_at_first : Opening
two_at_first = record two_components { clock = 1 }

abbrev pub one_leaf : Story
one_leaf = record { start = []; past = Read 1085440 4096 ∷ Read 1089536 4096 ∷ story.Write 1089536 (PRIMARY_LEAF ∷ []) ∷ [] }

-- a get of key 7 that answers at this clock that a page is damaged
abbrev pub damaged_read : (page clock : ℕ) → List Event
damaged_read page clock = damaged_get page (page_read 1 1089536 ++ page_read 2 1085440) clock ∷ []
