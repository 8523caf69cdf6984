-- What a format leaves of a table: the empty one afterwards, and before that the one that was there, or none.
use Rattle.std.proofs.Common.{◌≡◌, inl, inr, ℕ, List, [], Option, Ok, Err, Result, OnOk, refl, subst}
use Rattle.std.specs.FinMap.{empty}
use Rattle.dev_model.specs.Story.{Bytes, Story, bytes_of, WhereTold, IsSettled}
use Rattle.dev_model.specs.declared.streams.Failed.{Failed}
use Rattle.dev_model.specs.Moments.{LeavesOnly}
use Rattle.dev_model.specs.Laws.Runs.{LeavesOnly-weaker}
use Rattle.table_model.specs.Table.{Table}
use Rattle.component_image.specs.Components.{IsInExtents}
use Rattle.component_image.specs.Laws.Agreeing.{recovers-same}
use Rattle.component_image.specs.Laws.Without.{no_components}
use Rattle.device_format.specs.Formatting.{IsFreshStore, HasNoStore, IsBeforeOrAfter, IsNoneOrEmpty}
use Rattle.device_format.specs.Planning.{Formats}
use Rattle.dev_model.specs.Story.{DeviceState}
use Rattle.store_machine.specs.Devices.{HoldsTable}
use Rattle.spatial_run.specs.Endings.{Ending, format_failed}
use Rattle.spatial_run.specs.ByEvents.{FormattingBy}
use Rattle.spatial_run.specs.OnDevice.{IsTableOrNone}
use Rattle.spatial_run.specs.Parts.{FormatStopped}

pub fresh-holds : (pages indexes : ℕ) (s : Story) → IsFreshStore pages indexes s → HoldsTable pages empty s
fresh-holds pages indexes s fresh = record {
  looked_calm = fresh.calm;
  content_calm = λ i at. absurd (subst (λ slots. IsInExtents slots i) (no_components (bytes_of s) fresh.store.no_slots) at);
  recovers = fresh.store.recovers;
}

table-or-none : (pages indexes : ℕ) (old new : Option Story) → WhereTold old (λ s. IsSettled s.past 0 → LeavesOnly s new (IsBeforeOrAfter pages indexes s))
    → (table : Table) → WhereTold old (λ s. HoldsTable pages table s → LeavesOnly s new (IsTableOrNone pages indexes table))
table-or-none pages indexes old new any table s told holds =
    LeavesOnly-weaker s new (IsBeforeOrAfter pages indexes s) (IsTableOrNone pages indexes table) kept (any s told (holds.looked_calm 0 (inl (inl refl))))
  where
    kept : (image : Bytes) → IsBeforeOrAfter pages indexes s image → IsTableOrNone pages indexes table image
    kept image (inl looks) = inl (recovers-same pages table (bytes_of s) image (λ i at. looks i (holds.looked_calm i at)) (λ i at. looks i (holds.content_calm i at)) holds.recovers)
    kept image (inr none) = inr none

-- a format, by what is said of its call
pub formatting-of : (indexes : ℕ) (old new : DeviceState) (result : Result (Unit {0}) Failed) → Formats indexes old new result
    → OnOk result (WhereTold new.story (IsFreshStore old.pages indexes))
    → WhereTold old.story (λ s. IsSettled s.past 0 → LeavesOnly s new.story (IsBeforeOrAfter old.pages indexes s))
    → WhereTold old.story (λ s. HasNoStore s → LeavesOnly s new.story (IsNoneOrEmpty old.pages indexes))
    → FormattingBy indexes old new result
formatting-of indexes old new result formats formatted any over = record {
  formatting = record {
    formatted = formatted;
    empty_table = emptied result formatted;
    any_moment = any;
    any_table = table-or-none old.pages indexes old.story new.story any;
    over_none = over;
    same_pages = formats.made.same_pages;
    cause = formats.made.cause;
  };
  formats = formats;
}
  where
    emptied : (r : Result (Unit {0}) Failed) → OnOk r (WhereTold new.story (IsFreshStore old.pages indexes)) → OnOk r (WhereTold new.story (HoldsTable old.pages empty))
    emptied (Ok x) fresh = λ s is. fresh-holds old.pages indexes s (fresh s is)
    emptied (Err failed) fresh = tt

pub format-stopped : (indexes : ℕ) (old new : DeviceState) (failed : Failed) (acks : List ℕ) (e : Ending) → e ≡ format_failed → acks ≡ [] → FormattingBy indexes old new (Err failed) → FormatStopped indexes old new acks e
format-stopped indexes old new failed acks e is none formatting = record { ending = is; failed = failed; formatting = formatting; acks_are = none }
