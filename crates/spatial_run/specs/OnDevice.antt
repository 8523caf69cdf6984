-- What a call of the program does on its device.
use Rattle.std.specs.Prelude.{◌≡◌, ◌⊎◌, ℕ, true, false, List, [], ◌∷◌, map, Contains, Option, Some, IfSome, Result, OnOk}
use Rattle.std.specs.FinMap.{empty}
use Rattle.dev_model.specs.Counts.{Rose, HasCause}
use Rattle.dev_model.specs.Story.{Bytes, Calls, Story, after, bytes_of, clock_of, WhereTold, IsCalmAt, IsSettled}
use Rattle.dev_model.specs.Moments.{EachMoment, LeavesOnly, ReadsWithin}
use Rattle.dev_model.specs.declared.streams.Failed.{Failed}
use Rattle.table_model.specs.Answers.{replay}
use Rattle.table_model.specs.Commands.{Command, on_table, write, Outcome, refused}
use Rattle.table_model.specs.declared.Why.{Why}
use Rattle.table_model.specs.declared.Why.TheVariants.{Fault}
use Rattle.table_model.specs.Phases.{Phases}
use Rattle.table_model.specs.Record.{RunRecord, FitsScript, IsAnswered, history}
use Rattle.table_model.specs.Table.{Table}
use Rattle.component_image.specs.Recovered.{Opens, IsLookedAt, Recovers, IsOpeningRange}
use Rattle.device_format.specs.Formatting.{IsFreshStore, HasNoStore, IsBeforeOrAfter, IsNoneOrEmpty}
use Rattle.store_opening.specs.Openings.{IsRefusal, HasFaulted}
use Rattle.store_opening.specs.declared.opening.OpenFault.{OpenFault}
use Rattle.store_machine.specs.Crash.{Keeps, attempted}
use Rattle.dev_model.specs.Story.{DeviceState}
use Rattle.store_machine.specs.Devices.{HoldsTable}
use Rattle.store_machine.specs.Outcomes.{Group, logged_groups}
use Rattle.spatial_run.specs.declared.outcomes.Refusals.{Refusals}
use Rattle.spatial_run.specs.Refused.{record_words, refusals_by}

-- a crash left the store with this table, no store, or an empty one
abbrev pub IsTableOrNone : (pages indexes : ℕ) → Table → Bytes → Type 0
IsTableOrNone pages indexes table image = Recovers pages table image ⊎ IsNoneOrEmpty pages indexes image

-- A device was formatted, or that failed: what is there afterwards, and what each crash leaves on the way.
pub record Formatting (indexes : ℕ) (old new : DeviceState) (result : Result (Unit {0}) Failed) : Type 0 where
  pub formatted : OnOk result (WhereTold new.story (IsFreshStore old.pages indexes))
  pub empty_table : OnOk result (WhereTold new.story (HoldsTable old.pages empty))
  pub any_moment : WhereTold old.story (λ s. IsSettled s.past 0 → LeavesOnly s new.story (IsBeforeOrAfter old.pages indexes s))
  pub any_table : (table : Table) → WhereTold old.story (λ s. HoldsTable old.pages table s → LeavesOnly s new.story (IsTableOrNone old.pages indexes table))
  pub over_none : WhereTold old.story (λ s. HasNoStore s → LeavesOnly s new.story (IsNoneOrEmpty old.pages indexes))
  pub same_pages : new.pages ≡ old.pages
  pub cause : HasCause old.faults new.faults result

-- The story went on from s by some calls, and each image of each moment since then has P.
pub record LeavesOver (s : Story) (now : Option Story) (P : ℕ → Bytes → Type 0) : Type 0 where
  pub calls : Calls
  pub told : now ≡ Some (after s calls)
  pub each : EachMoment (clock_of s) (after s calls) P

-- nothing but the reads of an opening was done on the device
abbrev pub OnlyOpened : (device new : DeviceState) → Type 0
OnlyOpened device new = WhereTold device.story (λ s. ReadsWithin IsOpeningRange s new.story)

-- The store on the device was not opened. What the refusal says holds of the bytes, where the device told them and all that an
-- opening looks at was on the disk.
pub record NotOpened (device new : DeviceState) (fault : OpenFault) : Type 0 where
  pub holds : WhereTold device.story (λ s. IsCalmAt (IsLookedAt (bytes_of s)) s → IsRefusal device.pages fault (bytes_of s))
  pub faulted : HasFaulted device.faults new.faults fault
  pub reads : OnlyOpened device new

-- The group is that of a write that was refused with `fault`.
abbrev pub IsFailedWrite : Command → Outcome → Group → Type 0
IsFailedWrite (on_table (write w)) (refused Fault) group = group ≡ w ∷ []
IsFailedWrite c o group = ⊥

abbrev pub HasFailedWrite : List Command → List Outcome → Group → Type 0
HasFailedWrite [] os group = ⊥
HasFailedWrite (c ∷ cs) [] group = ⊥
HasFailedWrite (c ∷ cs) (o ∷ os) group = IsFailedWrite c o group ⊎ HasFailedWrite cs os group

-- A script ran on a store with this table, on a device that told. Each answer is the plain table's at its place, and no page was
-- damaged. The device went on telling, and at each moment since the call began, the reads of the opening included, each crash leaves
-- the writes that were acknowledged by then, or one more. Where no step was refused since the device failed or had failed, the device
-- holds the table after the history.
pub record RanFrom (table : Table) (before : Story) (unfinished : Option Group) (new : DeviceState) (acks : List ℕ) (s : Phases Command) (r : RunRecord) (f : Refusals) : Type 0 where
  pub answered : IsAnswered table (history s r)
  pub undamaged : f.damaged ≡ false
  pub survives : LeavesOver before new.story (Keeps new.pages table (attempted (logged_groups s.setup r.setup) unfinished) acks)
  pub left : f.device ≡ false → WhereTold new.story (HoldsTable new.pages (replay table (map (λ a. a.command) (history s r))))

-- A script ran on the store of a device, where the bytes open. Its record fits it, and it was refused for no cause but those of
-- steps; where one of these was that the device failed or had failed, the device's count of faults rose. A write that was not finished
-- was refused for that.
pub record RanOn (device new : DeviceState) (acks : List ℕ) (s : Phases Command) (r : RunRecord) (f : Refusals) : Type 0 where
  pub openable : WhereTold device.story (λ before. IsCalmAt (IsLookedAt (bytes_of before)) before → Opens device.pages (bytes_of before))
  pub same_pages : new.pages ≡ device.pages
  pub fits : FitsScript s r
  pub steps : List Why
  pub of_commands : (word : Why) → Contains (record_words r) word → Contains steps word
  pub refused_for : f ≡ refusals_by (record_words r) steps
  pub faulted : f.device ≡ true → Rose device.faults new.faults
  pub unfinished : Option Group
  pub failed : IfSome unfinished (HasFailedWrite s.setup r.setup)
  pub from : (table : Table) → WhereTold device.story (λ before. HoldsTable device.pages table before → RanFrom table before unfinished new acks s r f)
