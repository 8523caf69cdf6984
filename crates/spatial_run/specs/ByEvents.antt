-- What a format and a script do on a device exactly: the calls of the one, and a list of events of the store for the other.
use Rattle.std.specs.Prelude.{◌≡◌, ℕ, List, None, Some, All, Result}
use Rattle.dev_model.specs.declared.streams.Failed.{Failed}
use Rattle.device_format.specs.Planning.{Formats}
use Rattle.table_model.specs.Commands.{Command}
use Rattle.table_model.specs.Phases.{Phases}
use Rattle.table_model.specs.Record.{RunRecord}
use Rattle.store_machine.specs.Commands.{DoesAll, words, stopped_group}
use Rattle.dev_model.specs.Story.{DeviceState}
use Rattle.store_machine.specs.Since.{MadeSince}
use Rattle.store_machine.specs.declared.events.Event.{Event}
use Rattle.spatial_run.specs.declared.outcomes.Refusals.{Refusals}
use Rattle.spatial_run.specs.OnDevice.{Formatting, RanOn}
use Rattle.spatial_run.specs.Refused.{record_words, refusals_by}

-- a device was formatted, or that failed, by just these calls
pub record FormattingBy (indexes : ℕ) (old new : DeviceState) (result : Result (Unit {0}) Failed) : Type 0 where
  pub formatting : Formatting indexes old new result
  pub formats : Formats indexes old new result

-- There is a list of events of the store, all by one owner, which are the commands of the script one after another, with what became
-- of them; they were made on the store since it was opened on the device. The run was refused for the causes of their words, and the
-- group that was being logged when a write or a sync of the device failed is the one that was not finished.
pub record RanByEvents (device new : DeviceState) (acks : List ℕ) (s : Phases Command) (r : RunRecord) (f : Refusals) : Type 0 where
  pub ran_on : RanOn device new acks s r f
  pub events : List Event
  pub made : MadeSince device new acks events
  pub owned : All (λ e. e.owner ≡ Some 0) events
  pub does : DoesAll s.setup r.setup events
  pub refused_for : f ≡ refusals_by (record_words r) (words events)
  pub unfinished_is : ran_on.unfinished ≡ stopped_group None events
