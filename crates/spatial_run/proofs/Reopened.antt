-- What a crash leaves holds a table, for a device that begins with it.
use Rattle.std.proofs.Common.{◌⊎◌, inl, inr, ℕ, ◌+◌, List, Option, Result, arith}
use Rattle.std.specs.FinMap.{empty}
use Rattle.dev_model.specs.Story.{place, Bytes, Story, WhereTold}
use Rattle.dev_model.specs.Moments.{LeavesOnly}
use Rattle.dev_model.specs.Laws.Runs.{LeavesOnly-weaker}
use Rattle.dev_model.specs.declared.streams.Failed.{Failed}
use Rattle.table_model.specs.Table.{Table}
use Rattle.table_model.specs.Commands.{Command}
use Rattle.table_model.specs.Phases.{Phases}
use Rattle.table_model.specs.Record.{RunRecord}
use Rattle.component_image.specs.Recovered.{Recovers}
use Rattle.device_format.specs.Formatting.{IsEmptyStore, IsUnformatted}
use Rattle.store_machine.specs.Crash.{acked_by, attempted, Keeps}
use Rattle.dev_model.specs.Story.{DeviceState}
use Rattle.store_machine.specs.Devices.{HoldsTable}
use Rattle.store_machine.specs.Outcomes.{Group, logged_groups}
use Rattle.spatial_run.specs.OnDevice.{LeavesOver, Formatting, IsTableOrNone, RanFrom}
use Rattle.spatial_run.specs.Reopening.{begun_with, HoldsFirst}
use Rattle.spatial_run.specs.declared.outcomes.Refusals.{Refusals}
use Rattle.spatial_run.proofs.Fresh.{fresh-holds}

-- nothing was written since a device began, so all is on the disk
pub holds-again : (pages : ℕ) (table : Table) (bytes : List ℕ) → Recovers pages table (place bytes) → HoldsTable pages table (begun_with bytes)
holds-again pages table bytes recovers = record { looked_calm = λ i at. tt; content_calm = λ i at. tt; recovers = recovers }

pub holds-empty : (pages indexes : ℕ) (bytes : List ℕ) → IsEmptyStore pages indexes (place bytes) → HoldsTable pages empty (begun_with bytes)
holds-empty pages indexes bytes is = fresh-holds pages indexes (begun_with bytes) (record { calm = λ i at. tt; store = is })

holds-first : (pages : ℕ) (table : Table) (groups : List Group) (acks : List ℕ) (moment : ℕ) (image : Bytes) → Keeps pages table groups acks moment image → HoldsFirst pages table groups acks moment image
holds-first pages table groups acks moment image (inl recovers) = (acked_by moment acks, omega arith, recovers)
holds-first pages table groups acks moment image (inr more) = (acked_by moment acks + 1, omega arith, more.1)

pub served-again : (table : Table) (before : Story) (unfinished : Option Group) (new : DeviceState) (acks : List ℕ) (s : Phases Command) (r : RunRecord) (f : Refusals) → RanFrom table before unfinished new acks s r f
    → LeavesOver before new.story (HoldsFirst new.pages table (attempted (logged_groups s.setup r.setup) unfinished) acks)
served-again table before unfinished new acks s r f ran = record {
  calls = ran.survives.calls;
  told = ran.survives.told;
  each = λ m le_from le_to image is. holds-first new.pages table (attempted (logged_groups s.setup r.setup) unfinished) acks m image (ran.survives.each m le_from le_to image is);
}

pub formatted-again : (indexes : ℕ) (old new : DeviceState) (result : Result (Unit {0}) Failed) (table : Table) → Formatting indexes old new result
    → WhereTold old.story (λ s. HoldsTable old.pages table s → LeavesOnly s new.story (λ image. Recovers old.pages table image ⊎ (IsUnformatted image ⊎ Recovers old.pages empty image)))
formatted-again indexes old new result table formatting s told holds =
    LeavesOnly-weaker s new.story (IsTableOrNone old.pages indexes table) (λ image. Recovers old.pages table image ⊎ (IsUnformatted image ⊎ Recovers old.pages empty image))
    left (formatting.any_table table s told holds)
  where
    left : (image : Bytes) → IsTableOrNone old.pages indexes table image → Recovers old.pages table image ⊎ (IsUnformatted image ⊎ Recovers old.pages empty image)
    left image (inl recovers) = inl recovers
    left image (inr (inl none)) = inr (inl none)
    left image (inr (inr is)) = inr (inr is.recovers)
