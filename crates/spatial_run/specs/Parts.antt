-- How the parts of a task end. No public contract needs this file.
use Rattle.std.specs.Prelude.{◌≡◌, ◌⊎◌, ◌<◌, ◌^◌, ℕ, length, List, [], Option, Result, Ok, Err}
use Rattle.dev_model.specs.Counts.{Rose, Counts}
use Rattle.dev_model.specs.Streams.{Says}
use Rattle.dev_model.specs.declared.streams.Failed.{Failed}
use Rattle.table_model.specs.Commands.{Command}
use Rattle.table_model.specs.Phases.{Phases}
use Rattle.table_model.specs.Record.{RunRecord}
use Rattle.store_machine.specs.Standing.{StoreState}
use Rattle.dev_model.specs.Story.{DeviceState}
use Rattle.store_machine.specs.Calls.{IsReady}
use Rattle.spatial_run.specs.declared.outcomes.Refusals.{Refusals}
use Rattle.spatial_run.specs.ByEvents.{FormattingBy, RanByEvents}
use Rattle.spatial_run.specs.OnDevice.{OnlyOpened, NotOpened}
use Rattle.spatial_run.specs.Endings.{Ending, IsCause, source_fault, bad_script, no_memory, format_failed, formatted, not_opened, ran, IsScript, ending_text, status_of, record_of_ending}
use Rattle.spatial_run.specs.Steps.{MadeAll}
use Rattle.spatial_run.specs.Tasks.{Task}

-- the script was read, or the call ends so
abbrev pub IsReadEnd : (old new : ℕ) → Option (List ℕ) → Result (Phases Command) Ending → Type 0
IsReadEnd old new left (Ok s) = (new ≡ old) × IsScript left (Ok s)
IsReadEnd old new left (Err source_fault) = Rose old new
IsReadEnd old new left (Err (bad_script wrong)) = (new ≡ old) × IsScript left (Err wrong)
IsReadEnd old new left (Err no_memory) = new ≡ old
IsReadEnd old new left (Err other) = ⊥

-- a script ran on a store that was opened
pub record StoreRan (opened : StoreState) (new : DeviceState) (acks : List ℕ) (s : Phases Command) (r : RunRecord) (f : Refusals) : Type 0 where
  pub ended : StoreState
  pub made : MadeAll opened ended s.setup r.setup f
  pub device_is : ended.device ≡ new
  pub acks_are : ended.acks ≡ acks
  pub alone : (r.lanes ≡ []) × (r.after ≡ [])
  pub few : length r.setup < 2 ^ 63
  pub ready : IsReady ended

abbrev pub IsStoreEnd : Phases Command → StoreState → DeviceState → List ℕ → Ending → Type 0
IsStoreEnd s opened new acks no_memory = (opened.device ≡ new) × (opened.acks ≡ acks)
IsStoreEnd s opened new acks (ran t r f) = (t ≡ s) × StoreRan opened new acks s r f
IsStoreEnd s opened new acks other = ⊥

-- a script ran on the store of a device, or the store was not opened, or memory was refused
abbrev pub IsRunEnd : Phases Command → (device new : DeviceState) → List ℕ → Ending → Type 0
IsRunEnd s device new acks no_memory = OnlyOpened device new × (acks ≡ [])
IsRunEnd s device new acks (not_opened fault) = NotOpened device new fault × (acks ≡ [])
IsRunEnd s device new acks (ran t r f) = (t ≡ s) × RanByEvents device new acks s r f
IsRunEnd s device new acks other = ⊥

-- a device could not be formatted
pub record FormatStopped (indexes : ℕ) (old new : DeviceState) (acks : List ℕ) (e : Ending) : Type 0 where
  pub ending : e ≡ format_failed
  pub failed : Failed
  pub formatting : FormattingBy indexes old new (Err failed)
  pub acks_are : acks ≡ []

-- a device was formatted
pub record FormatDone (indexes : ℕ) (old new : DeviceState) (acks : List ℕ) (e : Ending) : Type 0 where
  pub ending : e ≡ formatted new.pages
  pub formatting : FormattingBy indexes old new (Ok tt)
  pub acks_are : acks ≡ []

abbrev pub IsFormatEnd : (indexes : ℕ) → (old new : DeviceState) → List ℕ → Ending → Type 0
IsFormatEnd indexes old new acks e = FormatDone indexes old new acks e ⊎ FormatStopped indexes old new acks e

-- a device was formatted, and then a script ran
pub record FreshRan (indexes : ℕ) (s : Phases Command) (old new : DeviceState) (acks : List ℕ) (e : Ending) : Type 0 where
  pub device : DeviceState
  pub formatting : FormattingBy indexes old device (Ok tt)
  pub end : IsRunEnd s device new acks e

abbrev pub IsFreshEnd : (indexes : ℕ) → Phases Command → (old new : DeviceState) → List ℕ → Ending → Type 0
IsFreshEnd indexes s old new acks e = FreshRan indexes s old new acks e ⊎ FormatStopped indexes old new acks e

-- an ending was printed
pub record IsFinished (e : Ending) (sink_old sink_new : ℕ) (before after : Option (List ℕ)) (status : ℕ) (r : RunRecord) : Type 0 where
  pub sent : Result (Unit {0}) Failed
  pub counts : Counts sink_old sink_new sent
  pub told : Says before after (ending_text e) sent
  pub is_status : status ≡ status_of e sent
  pub outcomes : r ≡ record_of_ending e

-- why a call ends so, exactly
pub record Cause (task : Option Task) (source_old source_new : ℕ) (left : Option (List ℕ)) (old new : DeviceState) (acks : List ℕ) (e : Ending) : Type 0 where
  pub is : IsCause FormattingBy RanByEvents task source_old source_new left old new acks e
