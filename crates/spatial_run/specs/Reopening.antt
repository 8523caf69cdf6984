-- What a crash leaves, for a device that begins with it. No public contract of the program needs this file.
use Rattle.std.specs.Prelude.{◌≡◌, ◌⊎◌, ℕ, ◌≤◌, List, [], take, Option, Some, None, IfSome}
use Rattle.std.specs.FinMap.{empty}
use Rattle.dev_model.specs.Story.{Bytes, Story}
use Rattle.dev_model.specs.Moments.{LeavesOnly}
use Rattle.table_model.specs.Table.{Table}
use Rattle.device_format.specs.Formatting.{IsUnformatted}
use Rattle.store_machine.specs.Crash.{acked_by, attempted}
use Rattle.component_image.specs.Recovered.{Recovers}
use Rattle.store_machine.specs.Outcomes.{Group, after_groups, logged_groups}
use Rattle.spatial_run.specs.Tasks.{Task, serial, fresh}
use Rattle.spatial_run.specs.Endings.{Ending, bad_words, source_fault, bad_script, no_memory, format_failed, formatted, ran}
use Rattle.spatial_run.specs.OnDevice.{LeavesOver, HasFailedWrite}

-- a device that begins with these bytes
abbrev pub begun_with : List ℕ → Story
begun_with bytes = record { start = bytes; past = [] }

-- The image recovers to the table after the first of these groups, with all that were acknowledged at the moment.
abbrev pub HoldsFirst : (pages : ℕ) → Table → List Group → (acks : List ℕ) → (moment : ℕ) → Bytes → Type 0
HoldsFirst pages table groups acks moment image = (count : ℕ) × (acked_by moment acks ≤ count) × Recovers pages (after_groups table (take count groups)) image

-- The image recovers to the table or to the empty one, or an opening finds no store there.
abbrev pub HoldsOrEmpty : (pages : ℕ) → Table → Bytes → Type 0
HoldsOrEmpty pages table image = Recovers pages table image ⊎ (IsUnformatted image ⊎ Recovers pages empty image)

-- what an ending says was logged
abbrev pub logged_in : Ending → List Group
logged_in (ran s r f) = logged_groups s.setup r.setup
logged_in other = []

-- only a run may have a write that was not finished, and that is one that it says failed
abbrev pub MayBeUnfinished : Ending → Option Group → Type 0
MayBeUnfinished (ran s r f) unfinished = IfSome unfinished (HasFailedWrite s.setup r.setup)
MayBeUnfinished other unfinished = unfinished ≡ None

-- Each crash since then leaves the table after the first of the writes that the ending says were logged, or one more that was not
-- finished, with each that was acknowledged by then.
pub record LeavesWritten (ending : Ending) (pages : ℕ) (table : Table) (before : Story) (now : Option Story) (acks : List ℕ) : Type 0 where
  pub unfinished : Option Group
  pub may : MayBeUnfinished ending unfinished
  pub leaves : LeavesOver before now (HoldsFirst pages table (attempted (logged_in ending) unfinished) acks)

-- The device was formatted, and from there on each crash leaves the empty table after the first of the writes.
pub record LeavesFormatted (ending : Ending) (pages : ℕ) (table : Table) (before : Story) (now : Option Story) (acks : List ℕ) : Type 0 where
  pub begins : Story
  pub on_the_way : LeavesOnly before (Some begins) (HoldsOrEmpty pages table)
  pub since : LeavesWritten ending pages empty begins now acks

-- what a call leaves whose script was to run: of the store that was there, or of one that was formatted first
abbrev pub LeavesPrepared : Option Task → Ending → (pages : ℕ) → Table → (before : Story) → (now : Option Story) → (acks : List ℕ) → Type 0
LeavesPrepared (Some serial) ending pages table before now acks = LeavesWritten ending pages table before now acks
LeavesPrepared (Some (fresh indexes)) ending pages table before now acks = LeavesFormatted ending pages table before now acks
LeavesPrepared other ending pages table before now acks = ⊥

-- What a call leaves of a table. Memory may be refused before anything was done on the device, or behind a format.
abbrev pub Leaves : Option Task → Ending → (pages : ℕ) → Table → (before : Story) → (now : Option Story) → (acks : List ℕ) → Type 0
Leaves task bad_words pages table before now acks = LeavesWritten bad_words pages table before now acks
Leaves task source_fault pages table before now acks = LeavesWritten source_fault pages table before now acks
Leaves task (bad_script wrong) pages table before now acks = LeavesWritten (bad_script wrong) pages table before now acks
Leaves task no_memory pages table before now acks = LeavesWritten no_memory pages table before now acks ⊎ LeavesPrepared task no_memory pages table before now acks
Leaves task format_failed pages table before now acks = LeavesOnly before now (HoldsOrEmpty pages table)
Leaves task (formatted size) pages table before now acks = LeavesOnly before now (HoldsOrEmpty pages table)
Leaves task other pages table before now acks = LeavesPrepared task other pages table before now acks
