-- The machine of a store that flushes: its state, and what an event does to it.
use Rattle.std.specs.Prelude.{ℕ, ◌+◌, ◌-◌, Bool, true, List, [], ◌∷◌, ◌++◌, Option, Some, None, is_some, Ok, if◌then◌else◌, set}
use Rattle.dev_model.specs.Counts.{next_count}
use Rattle.dev_model.specs.Story.{Story}
use Rattle.dev_model.specs.declared.calls.DeviceCall.{DeviceCall}
use Rattle.table_model.specs.Table.{Table}
use Rattle.table_model.specs.Answers.{after_write}
use Rattle.wal_log.specs.State.{following}
use Rattle.wal_log.specs.declared.log.Log.{Log}
use Rattle.wal_log.specs.declared.records.LogOp.{LogOp}
use Rattle.wal_log.specs.declared.records.LogOp.TheVariants.{Put, Del}
use Rattle.component_image.specs.Replayed.{write_of}
use Rattle.primary_ix.specs.Wanted.{written_row}
use Rattle.primary_ix.specs.declared.rows.PrimRow.{PrimRow}
use Rattle.store_state.specs.Beginning.{fresh}
use Rattle.store_state.specs.Lists.{Lists}
use Rattle.store_state.specs.Steps.{added, frozen_at, begun, one_written, installed}
use Rattle.store_machine.specs.Outcomes.{Group}
use Rattle.store_state.specs.declared.jobs.JobRow.{JobRow}
use Rattle.store_machine.specs.declared.events.OwnedJob.{OwnedJob}
use Rattle.store_machine.specs.declared.events.Wrote.{Wrote}
use Rattle.store_machine.specs.declared.events.Action.{Action}
use Rattle.store_machine.specs.declared.events.Action.TheVariants.{Write, Get, Count, Region, Freeze, Begin, JobWrite, Install}
use Rattle.store_machine.specs.declared.events.Event.{Event}

pub record Machine : Type 0 where
  pub table : Table
  -- what was logged since the opening, and for each group the clock from which on each crash leaves it
  pub logged : List Group
  pub acks : List ℕ
  -- the device's count of faults when a write or a sync of it failed, and the group that was being logged then
  pub stopped : Option ℕ
  pub unfinished : Option Group
  -- the end of the log, and what is in memory of the rows
  pub log : Log
  pub lists : Lists
  -- the lists that the components' pages show, the newest first, where the device tells them
  pub disk : List (List PrimRow)
  -- the number of the next answer
  pub seq : ℕ
  -- the declared indexes, as bits
  pub declared : ℕ
  pub faults : ℕ
  pub clock : ℕ
  -- those that succeeded since the opening
  pub device_calls : List DeviceCall

-- what is there when a store was opened
pub record Opening : Type 0 where
  pub table : Table
  pub log : Log
  pub lists : Lists
  -- the lists that the components' pages show, where the device tells them
  pub disk : List (List PrimRow)
  pub declared : ℕ
  pub faults : ℕ
  pub clock : ℕ
  -- where the device tells it
  pub story : Option Story

-- the machine when nothing has happened yet
abbrev pub at_opening : Opening → Machine
at_opening o = record {
  table = o.table;
  logged = [];
  acks = [];
  stopped = None;
  unfinished = None;
  log = o.log;
  lists = o.lists;
  disk = o.disk;
  seq = 0;
  declared = o.declared;
  faults = o.faults;
  clock = o.clock;
  device_calls = [];
}

-- Whether a write is logged: a put always, and a delete where there was a row. Its answer says it.
abbrev pub is_logged : LogOp → Wrote → Bool
is_logged (Put row) wrote = true
is_logged (Del key) wrote = is_some wrote.old

-- the log after one record more, and after a change of segments
abbrev pub log_with_record : Log → Log
log_with_record log = record log { records = log.records + 1; next_lsn = log.next_lsn + 1 }

abbrev pub log_turned : Log → Log
log_turned log = record log { generation = log.generation + 1; records = 0; open_headers = set log.open_headers (following log) true }

-- one group more, of a write that found a row of its key or none
abbrev pub after_logged : LogOp → (had : Bool) → (ack : ℕ) → Machine → Machine
after_logged op had ack m = record m {
  logged = m.logged ++ (write_of op ∷ []) ∷ [];
  acks = m.acks ++ ack ∷ [];
  log = log_with_record m.log;
  lists = added (written_row (write_of op)) had m.lists;
}

-- one answer more
abbrev pub after_answer : Machine → Machine
after_answer m = record m { seq = next_count m.seq }

-- what the lists keep of a job
abbrev pub row_of : OwnedJob → JobRow
row_of own = record { owner = own.owner; plan = own.job.plan; written = own.job.written }

-- what an event does beside its device calls, its faults and its time
abbrev pub does : Action → Machine → Machine
does (Write op (Ok wrote)) m =
    let n : Machine = if is_logged op wrote then after_logged op (is_some wrote.old) wrote.ack m else m in
    after_answer (record n { table = after_write m.table (write_of op) })
does (Get key (Ok got)) m = after_answer m
does (Count seq rows) m = after_answer m
does (Region kind rect (Ok found)) m = after_answer m
does (Freeze least (Ok true)) m = record m { log = log_turned m.log; lists = frozen_at (m.log.next_lsn - 1) m.lists }
does (Begin (Ok (Some own))) m = record m { lists = begun (fresh own.owner own.job.plan) m.lists }
does (JobWrite own (Ok done)) m = record m { lists = one_written m.lists }
does (Install own (Ok done)) m = record m { lists = installed (row_of own) m.lists; disk = own.job.rows ∷ m.disk }
does other m = m

-- the group that an event logs
abbrev pub group_of : Action → Option Group
group_of (Write op answer) = Some (write_of op ∷ [])
group_of other = None

-- the machine after an event
abbrev pub after_event : Machine → Event → Machine
after_event m e =
    let n : Machine = does e.action m in
    record n {
      stopped = if e.write_failed then Some e.faults_after else n.stopped;
      unfinished = if e.write_failed then group_of e.action else n.unfinished;
      faults = e.faults_after;
      clock = e.clock_after;
      device_calls = m.device_calls ++ e.device_calls;
    }

-- the machine after a list of events
abbrev pub after_all : Machine → List Event → Machine
after_all m [] = m
after_all m (e ∷ es) = after_all (after_event m e) es
