-- For which lists of events a store stands.
use Rattle.std.specs.Prelude.{◌≡◌, ℕ, ◌≤◌, Bool, true, false, List, [], ◌∷◌, length, Option, Some, None}
use Rattle.dev_model.specs.Story.{Story, Calls, after, clock_of, bytes_of, IsCalmAt, WhereTold}
use Rattle.dev_model.specs.Moments.{EachMoment, ReadsWithin}
use Rattle.dev_model.specs.DeviceCalls.{ok_calls}
use Rattle.table_model.specs.Table.{Table, rows_of}
use Rattle.wal_log.specs.declared.log.Log.{Log}
use Rattle.superblock.specs.Superblock.{declared}
use Rattle.component_image.specs.Recovered.{Opens, IsLookedAt, IsContent, Recovers, IsOpeningRange}
use Rattle.primary_ix.specs.declared.rows.PrimRow.{PrimRow}
use Rattle.store_machine.specs.Crash.{attempted, Keeps}
use Rattle.store_machine.specs.Damage.{DamagesAre}
use Rattle.store_machine.specs.Outcomes.{after_groups}
use Rattle.dev_model.specs.Story.{DeviceState}
use Rattle.store_machine.specs.Devices.{HoldsTable}
use Rattle.store_machine.specs.Machine.{Machine, Opening, at_opening, after_all}
use Rattle.store_state.specs.Lists.{Lists}
use Rattle.store_state.specs.Keeping.{IsKept}
use Rattle.store_state.specs.Reading.{IsLegible}
use Rattle.store_machine.specs.Runs.{IsRun}
use Rattle.store_machine.specs.declared.events.Event.{Event}

-- What there is to see of a store: its device, the declared indexes as bits, its lists, the number of the next answer, the count of
-- faults where it was stopped, the end of its log, the acks of all logged writes, and the clock and the count of faults when it was
-- opened.
pub record StoreState : Type 0 where
  pub device : DeviceState
  pub declared : ℕ
  pub lists : Lists
  pub seq : ℕ
  pub stopped : Option ℕ
  pub log : Log
  pub acks : List ℕ
  pub opened_at : ℕ
  pub opened_faults : ℕ

-- the numbers of a list are at most this
abbrev pub AreUpTo : ℕ → List ℕ → Type 0
AreUpTo most [] = Unit {0}
AreUpTo most (x ∷ xs) = (x ≤ most) × AreUpTo most xs

-- the numbers and lists of a store are those of the machine, whatever its device tells
pub record Has (store : StoreState) (m : Machine) : Type 0 where
  pub stopped : store.stopped ≡ m.stopped
  pub seq : store.seq ≡ m.seq
  pub log : store.log ≡ m.log
  pub lists : store.lists ≡ m.lists
  pub acks : store.acks ≡ m.acks
  pub declared : store.declared ≡ m.declared
  pub faults : store.device.faults ≡ m.faults
  pub clock : store.device.clock ≡ m.clock
  pub counted : length m.acks ≡ length m.logged
  pub running : m.stopped ≡ None → m.unfinished ≡ None

-- what is there at the opening, by the bytes as they were read then
pub record Begins (o : Opening) (pages : ℕ) (opening : Story) : Type 0 where
  pub is : o.story ≡ Some opening
  pub clock : clock_of opening ≡ o.clock
  pub calm : IsCalmAt (IsLookedAt (bytes_of opening)) opening
  pub content_calm : IsCalmAt (IsContent (bytes_of opening)) opening
  pub recovers : Recovers pages o.table (bytes_of opening)
  pub declared_is : declared (bytes_of opening) ≡ o.declared
  pub kept : IsKept pages o.log o.table o.lists opening
  pub disk_is : o.disk ≡ kept.held.rests.recovers.lists

-- What the device has told since the opening: its calls were those of the events, what is on it, and what each crash since
-- then leaves.
pub record Tells (o : Opening) (store : StoreState) (m : Machine) : Type 0 where
  pub opening : Story
  pub begins : Begins o store.device.pages opening
  pub calls : Calls
  pub now : Story
  pub went : now ≡ after opening calls
  pub told : store.device.story ≡ Some now
  pub clock : store.device.clock ≡ clock_of now
  pub made : ok_calls (clock_of opening) calls ≡ m.device_calls
  pub replayed : m.table ≡ after_groups o.table m.logged
  pub kept : m.stopped ≡ None → IsKept store.device.pages store.log m.table store.lists now
  pub legible : IsLegible m.table m.disk store.lists now
  pub rows : store.lists.rows ≡ length (rows_of m.table)
  pub acked : AreUpTo (clock_of now) m.acks
  pub survives : EachMoment (clock_of opening) now (Keeps store.device.pages o.table (attempted m.logged m.unfinished) m.acks)

-- The store stands for the events, from this opening on: they are a run from there, the store has the state after them, and where the
-- device tells, each page that was answered to be damaged was so.
-- Where `known`, the device tells, all that an opening looks at and the components were on the disk, and the store could be opened
-- from that.
pub record Stands (known : Bool) (o : Opening) (store : StoreState) (events : List Event) : Type 0 where
  pub opened_at : store.opened_at ≡ o.clock
  pub opened_faults : store.opened_faults ≡ o.faults
  pub run : IsRun known (at_opening o) events
  pub has : Has store (after_all (at_opening o) events)
  pub damages : WhereTold store.device.story (λ s. DamagesAre (at_opening o) s events)
  pub tells : known ≡ true → Tells o store (after_all (at_opening o) events)

-- The store stands for the events since it was opened on this device. The opening only read, and only where an opening looks; no
-- fault went unseen; and where the device told, and all that an opening looks at was on the disk, the bytes open. Where the device held
-- a store with a table, the store stands for the events from that table on, with all that is known of such a device.
pub record StandsSince (device : DeviceState) (store : StoreState) (events : List Event) : Type 0 where
  pub opening : Opening
  pub reads : WhereTold device.story (λ s. ReadsWithin IsOpeningRange s opening.story)
  pub later : device.faults ≤ opening.faults
  pub opens : WhereTold device.story (λ s. IsCalmAt (IsLookedAt (bytes_of s)) s → Opens device.pages (bytes_of s) × (declared (bytes_of s) ≡ opening.declared))
  pub untold : Stands false opening store events
  pub told : (table : Table) → WhereTold device.story (λ s. HoldsTable device.pages table s
      → (disk : List (List PrimRow)) × Stands true (record opening { table = table; disk = disk }) store events)
