-- What was made of a store since it was opened on a device, for the one who reads of a run.
use Rattle.std.specs.Prelude.{◌≡◌, ℕ, ◌≤◌, true, false, List, Some, None}
use Rattle.dev_model.specs.Story.{Story, Calls, after, clock_of, bytes_of, IsCalmAt, WhereTold}
use Rattle.dev_model.specs.Moments.{ReadsWithin}
use Rattle.dev_model.specs.DeviceCalls.{ok_calls}
use Rattle.table_model.specs.Table.{Table}
use Rattle.superblock.specs.Superblock.{declared}
use Rattle.component_image.specs.Recovered.{IsLookedAt, IsOpeningRange}
use Rattle.primary_ix.specs.declared.rows.PrimRow.{PrimRow}
use Rattle.store_state.specs.Held.{IsHeld}
use Rattle.store_machine.specs.Damage.{DamagesAre}
use Rattle.dev_model.specs.Story.{DeviceState}
use Rattle.store_machine.specs.Devices.{HoldsTable}
use Rattle.store_machine.specs.Machine.{Machine, Opening, at_opening, after_all}
use Rattle.store_machine.specs.Runs.{IsRun}
use Rattle.store_machine.specs.declared.events.Event.{Event}

-- the machine at an opening, with this table and these lists of its components
abbrev pub began_with : Table → (disk : List (List PrimRow)) → Opening → Machine
began_with table disk o = at_opening (record o { table = table; disk = disk })

-- while nothing stopped the machine, this is on the device
abbrev pub IsOnDevice : Machine → (pages : ℕ) → Story → Type 0
IsOnDevice m pages s = m.stopped ≡ None → IsHeld pages m.log m.table m.lists s

-- The opening found this table, with the lists that its components show: the end of the log and the lists in memory are those of the
-- bytes. From there on the events were a run, with all that is known of such a device, and the device's calls since the opening were
-- theirs.
pub record MadeFrom (table : Table) (o : Opening) (new : DeviceState) (events : List Event) : Type 0 where
  pub opened : Story
  pub is : o.story ≡ Some opened
  pub clock : clock_of opened ≡ o.clock
  pub held : IsHeld new.pages o.log table o.lists opened
  pub run : IsRun true (began_with table held.rests.recovers.lists o) events
  pub calls : Calls
  pub told : new.story ≡ Some (after opened calls)
  pub made : ok_calls (clock_of opened) calls ≡ (after_all (began_with table held.rests.recovers.lists o) events).device_calls
  pub left : IsOnDevice (after_all (began_with table held.rests.recovers.lists o) events) new.pages (after opened calls)

-- A store was opened on the device, and these events were made. The opening only read, and only where an opening looks; no fault went
-- unseen; and where the device told, and all that an opening looks at was on the disk, the declared indexes are those of the bytes. The
-- events are a run from there, after which the device has the machine's count of faults and its clock, and the acks are the machine's.
-- Each page that was answered to be damaged was so, by what the device told.
pub record MadeSince (device new : DeviceState) (acks : List ℕ) (events : List Event) : Type 0 where
  pub opening : Opening
  pub reads : WhereTold device.story (λ s. ReadsWithin IsOpeningRange s opening.story)
  pub later : device.faults ≤ opening.faults
  pub declares : WhereTold device.story (λ s. IsCalmAt (IsLookedAt (bytes_of s)) s → declared (bytes_of s) ≡ opening.declared)
  pub run : IsRun false (at_opening opening) events
  pub faults : new.faults ≡ (after_all (at_opening opening) events).faults
  pub clock : new.clock ≡ (after_all (at_opening opening) events).clock
  pub acks_are : acks ≡ (after_all (at_opening opening) events).acks
  pub damages : WhereTold new.story (λ s. DamagesAre (at_opening opening) s events)
  pub from : (table : Table) → WhereTold device.story (λ s. HoldsTable device.pages table s → MadeFrom table opening new events)
