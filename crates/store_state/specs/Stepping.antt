-- What a step on its device makes of a store that is kept there.
use Rattle.std.specs.Prelude.{List, Result, OnOk}
use Rattle.dev_model.specs.Story.{Bytes, DeviceState, Story, WhereTold}
use Rattle.dev_model.specs.Moments.{LeavesOnly}
use Rattle.table_model.specs.Table.{Table}
use Rattle.table_model.specs.Answers.{after_write}
use Rattle.wal_log.specs.Counted.{IsCounted}
use Rattle.wal_log.specs.declared.log.Log.{Log}
use Rattle.wal_log.specs.declared.records.Record.{Record}
use Rattle.component_image.specs.Replayed.{write_of}
use Rattle.primary_ix.specs.declared.rows.PrimRow.{PrimRow}
use Rattle.component_image.specs.Recovered.{Recovers}
use Rattle.component_image.specs.Standing.{RecoversEither}
use Rattle.component_image.specs.Told.{SaysOld}
use Rattle.store_state.specs.Lists.{Lists}
use Rattle.store_state.specs.EveryList.{IsLists}
use Rattle.store_state.specs.Keeping.{IsKept}
use Rattle.store_state.specs.Numbered.{IsNumbered}
use Rattle.store_state.specs.Reading.{IsLegible}

-- log and lists keep their rules, and go together
pub record AreInOrder (log : Log) (l : Lists) : Type 0 where
  pub lists : IsLists l
  pub numbered : IsNumbered log l
  pub counted : IsCounted log

-- where P holds before a call, each image of each moment of it has Q
abbrev pub Throughout : (P : Story → Type 0) (Q : Bytes → Type 0) (old now : DeviceState) → Type 0
Throughout P Q old now = WhereTold old.story (λ s. P s → LeavesOnly s now.story Q)

-- where P holds before a call, Q holds behind it
abbrev pub Becomes : (P Q : Story → Type 0) (old now : DeviceState) → Type 0
Becomes P Q old now = WhereTold old.story (λ s. P s → WhereTold now.story Q)

-- A step leaves the table: each crash at each moment has it, and after `Ok` the store has it still, with the log and the lists of then.
-- By the lists of before readers find it in any case, and after `Ok` by those of then, with the components' lists grown so.
pub record KeepsTable {X E : Type 0} (grown : List (List PrimRow) → List (List PrimRow)) (old now : DeviceState) (log next : Log) (l m : Lists) (result : Result X E) : Type 0 where
  pub any_moment : (table : Table) → Throughout (IsKept old.pages log table l) (Recovers old.pages table) old now
  pub kept : (table : Table) → OnOk result (Becomes (IsKept old.pages log table l) (IsKept old.pages next table m) old now)
  pub legible : (table : Table) (disk : List (List PrimRow)) → Becomes (IsLegible table disk l) (IsLegible table disk l) old now
  pub grows : (table : Table) (disk : List (List PrimRow)) → OnOk result (Becomes (λ s. IsKept old.pages log table l s × IsLegible table disk l s) (IsLegible table (grown disk) m) old now)

-- A write is logged by a record that says truly at which point its key stood: each crash at each moment has the table before the write
-- or the one behind it, and after `Ok` the store has that one. By the lists of before readers find the table of before in any case.
pub record LogsWrite {X E : Type 0} (r : Record) (old now : DeviceState) (log next : Log) (l m : Lists) (result : Result X E) : Type 0 where
  pub any_moment : (table : Table) → SaysOld table r → Throughout (IsKept old.pages log table l) (RecoversEither old.pages table (after_write table (write_of r.op))) old now
  pub kept : (table : Table) → SaysOld table r → OnOk result (Becomes (IsKept old.pages log table l) (IsKept old.pages next (after_write table (write_of r.op)) m) old now)
  pub legible : (table : Table) (disk : List (List PrimRow)) → Becomes (IsLegible table disk l) (IsLegible table disk l) old now
