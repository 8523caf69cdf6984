-- What a crash in a call leaves, for each way in which the call may have ended.
use Rattle.std.proofs.Common.{◌≡◌, inl, inr, ℕ, List, [], Option, Some, None, Ok, Err, refl, sym, ◌∙◌, ap, subst, arith}
use Rattle.std.specs.FinMap.{empty}
use Rattle.dev_model.specs.Story.{Bytes, Story, after, bytes_of, IsImageNow, WhereTold}
use Rattle.dev_model.specs.Moments.{LeavesOnly}
use Rattle.dev_model.specs.Laws.Reads.{LeavesOnly-reads}
use Rattle.dev_model.specs.Laws.Runs.{LeavesOnly-start, LeavesOnly-weaker}
use Rattle.component_image.specs.Recovered.{IsOpeningRange, Recovers}
use Rattle.table_model.specs.Table.{Table}
use Rattle.table_model.specs.Commands.{Command}
use Rattle.table_model.specs.Phases.{Phases}
use Rattle.table_model.specs.Record.{RunRecord}
use Rattle.component_image.specs.Laws.Agreeing.{recovers-same}
use Rattle.store_machine.specs.Crash.{attempted}
use Rattle.dev_model.specs.Story.{DeviceState}
use Rattle.store_machine.specs.Devices.{HoldsTable}
use Rattle.store_machine.specs.Outcomes.{Group, logged_groups}
use Rattle.spatial_run.specs.declared.outcomes.Refusals.{Refusals}
use Rattle.spatial_run.specs.Tasks.{Task, format, serial, fresh}
use Rattle.spatial_run.specs.Endings.{Ending, bad_words, source_fault, bad_script, no_memory, format_failed, formatted, not_opened, ran, IsCause, IsToFormat, Prepared, Ends, Edges}
use Rattle.spatial_run.specs.OnDevice.{LeavesOver, Formatting, OnlyOpened, RanOn}
use Rattle.spatial_run.specs.Reopening.{HoldsFirst, HoldsOrEmpty, logged_in, MayBeUnfinished, LeavesWritten, LeavesFormatted, LeavesPrepared, Leaves}
use Rattle.spatial_run.proofs.Reopened.{served-again, formatted-again}

-- each image of the present moment recovers to what the device holds
image-recovers : (pages : ℕ) (table : Table) (s : Story) → HoldsTable pages table s → (image : Bytes) → IsImageNow s image → Recovers pages table image
image-recovers pages table s holds image now =
    recovers-same pages table (bytes_of s) image (λ i at. now i (holds.looked_calm i at)) (λ i at. now i (holds.content_calm i at)) holds.recovers

-- an ending with no run, of which each crash leaves the table
still : (ending : Ending) (pages : ℕ) (table : Table) (s : Story) (now : Option Story) (acks : List ℕ) → logged_in ending ≡ [] → MayBeUnfinished ending None → acks ≡ []
    → LeavesOnly s now (λ image. Recovers pages table image) → LeavesWritten ending pages table s now acks
still ending pages table s now acks none may no_acks leaves = record {
  unfinished = None;
  may = may;
  leaves = subst (λ (groups : List Group). LeavesOver s now (HoldsFirst pages table groups acks)) (sym none) (subst (λ (a : List ℕ). LeavesOver s now (HoldsFirst pages table [] a)) (sym no_acks) over);
}
  where
    over : LeavesOver s now (HoldsFirst pages table [] [])
    over = record { calls = leaves.calls; told = leaves.told; each = λ m le_from le_to image is. (0, omega arith, leaves.each m le_from le_to image is) }

-- nothing was done on the device
untouched : (ending : Ending) (old new : DeviceState) (table : Table) (s : Story) (acks : List ℕ) → logged_in ending ≡ [] → MayBeUnfinished ending None → acks ≡ []
    → new ≡ old → old.story ≡ Some s → HoldsTable old.pages table s → LeavesWritten ending old.pages table s new.story acks
untouched ending old new table s acks none may no_acks same told holds =
    still ending old.pages table s new.story acks none may no_acks
    (LeavesOnly-start s new.story (λ image. Recovers old.pages table image) (ap (λ (d : DeviceState). d.story) same ∙ told) (image-recovers old.pages table s holds))

-- only the reads of an opening were done on it
only-read : (ending : Ending) (pages : ℕ) (device new : DeviceState) (table : Table) (s : Story) (acks : List ℕ) → logged_in ending ≡ [] → MayBeUnfinished ending None → acks ≡ []
    → OnlyOpened device new → device.story ≡ Some s → HoldsTable pages table s → LeavesWritten ending pages table s new.story acks
only-read ending pages device new table s acks none may no_acks opened told holds =
    still ending pages table s new.story acks none may no_acks
    (LeavesOnly-weaker s new.story (IsImageNow s) (λ image. Recovers pages table image) (image-recovers pages table s holds) (LeavesOnly-reads IsOpeningRange s new.story (opened s told)))

-- a script ran on it
after-run : (pages : ℕ) (device new : DeviceState) (table : Table) (t : Story) (acks : List ℕ) (s : Phases Command) (r : RunRecord) (f : Refusals) → device.pages ≡ pages
    → RanOn device new acks s r f → device.story ≡ Some t → HoldsTable pages table t → LeavesWritten (ran s r f) pages table t new.story acks
after-run pages device new table t acks s r f same on told holds = record {
  unfinished = on.unfinished;
  may = on.failed;
  leaves = subst (λ (n : ℕ). LeavesOver t new.story (HoldsFirst n table (attempted (logged_groups s.setup r.setup) on.unfinished) acks)) (on.same_pages ∙ same)
      (served-again table t on.unfinished new acks s r f (on.from table t told (subst (λ (n : ℕ). HoldsTable n table t) (sym same) holds)));
}

-- a device that was formatted, and what was done on it from there on
formatted-first : (ending : Ending) (indexes : ℕ) (old device new : DeviceState) (table : Table) (s : Story) (acks : List ℕ) → Formatting indexes old device (Ok tt) → old.story ≡ Some s → HoldsTable old.pages table s
    → ((t : Story) → device.story ≡ Some t → HoldsTable old.pages empty t → LeavesWritten ending old.pages empty t new.story acks) → LeavesFormatted ending old.pages table s new.story acks
formatted-first ending indexes old device new table s acks formatting told holds then_left = record {
  begins = after s way.calls;
  on_the_way = subst (λ (d : Option Story). LeavesOnly s d (HoldsOrEmpty old.pages table)) way.told way;
  since = then_left (after s way.calls) way.told (formatting.empty_table (after s way.calls) way.told);
}
  where
    way : LeavesOnly s device.story (HoldsOrEmpty old.pages table)
    way = formatted-again indexes old device (Ok tt) table formatting s told holds

-- the device on which a script was to run, and what was done on it
on-prepared : (task : Option Task) (ending : Ending) (old device new : DeviceState) (table : Table) (s : Story) (acks : List ℕ) → Prepared Formatting RanOn task old device → old.story ≡ Some s → HoldsTable old.pages table s
    → ((any : Table) (t : Story) → device.pages ≡ old.pages → device.story ≡ Some t → HoldsTable old.pages any t → LeavesWritten ending old.pages any t new.story acks) → LeavesPrepared task ending old.pages table s new.story acks
on-prepared None ending old device new table s acks prepared told holds then_left = absurd prepared
on-prepared (Some (format indexes)) ending old device new table s acks prepared told holds then_left = absurd prepared
on-prepared (Some serial) ending old device new table s acks prepared told holds then_left =
    then_left table s (ap (λ (d : DeviceState). d.pages) prepared) (ap (λ (d : DeviceState). d.story) prepared ∙ told) holds
on-prepared (Some (fresh indexes)) ending old device new table s acks prepared told holds then_left =
    formatted-first ending indexes old device new table s acks prepared told holds (λ t is again. then_left empty t prepared.same_pages is again)

cause-leaves : (task : Option Task) (so sn : ℕ) (left : Option (List ℕ)) (old new : DeviceState) (acks : List ℕ) (ending : Ending) (table : Table) (s : Story) → IsCause Formatting RanOn task so sn left old new acks ending
    → old.story ≡ Some s → HoldsTable old.pages table s → Leaves task ending old.pages table s new.story acks
cause-leaves task so sn left old new acks bad_words table s cause told holds = untouched bad_words old new table s acks refl refl cause.3 cause.2 told holds
cause-leaves task so sn left old new acks source_fault table s cause told holds = untouched source_fault old new table s acks refl refl cause.3 cause.2 told holds
cause-leaves task so sn left old new acks (bad_script wrong) table s cause told holds = untouched (bad_script wrong) old new table s acks refl refl cause.4 cause.3 told holds
cause-leaves task so sn left old new acks no_memory table s (runs, same, none, inl untold) told holds = inl (untouched no_memory old new table s acks refl refl none untold told holds)
cause-leaves task so sn left old new acks no_memory table s (runs, same, none, inr (script, begun, opened)) told holds =
    inr (on-prepared task no_memory old begun.device new table s acks begun.prepared told holds (λ any t pages is again. only-read no_memory old.pages begun.device new any t acks refl refl none opened is again))
cause-leaves task so sn left old new acks format_failed table s (same, none, (indexes, failed, to, formatting)) told holds = formatted-again indexes old new (Err failed) table formatting s told holds
cause-leaves task so sn left old new acks (formatted pages) table s (same, none, is, (indexes, to, formatting)) told holds = formatted-again indexes old new (Ok tt) table formatting s told holds
cause-leaves task so sn left old new acks (not_opened refusal) table s (same, none, (script, begun, unopened)) told holds =
    on-prepared task (not_opened refusal) old begun.device new table s acks begun.prepared told holds (λ any t pages is again. only-read (not_opened refusal) old.pages begun.device new any t acks refl refl none unopened.reads is again)
cause-leaves task so sn left old new acks (ran script r f) table s (same, (begun, on)) told holds =
    on-prepared task (ran script r f) old begun.device new table s acks begun.prepared told holds (λ any t pages is again. after-run old.pages begun.device new any t acks script r f pages on is again)

pub call-leaves : (task : Option Task) (edges : Edges) (status : ℕ) (acks : List ℕ) (r : RunRecord) (table : Table) (end : Ends Formatting RanOn task edges status acks r)
    → WhereTold edges.device_old.story (λ s. HoldsTable edges.device_old.pages table s → Leaves task end.ending edges.device_old.pages table s edges.device_new.story acks)
call-leaves task edges status acks r table end s told holds =
    cause-leaves task edges.source_old edges.source_new edges.left edges.device_old edges.device_new acks end.ending table s end.cause told holds

never-formats : (indexes : ℕ) (left : Option (List ℕ)) → IsToFormat (Some serial) left indexes → ⊥
never-formats indexes left (inl is) = let no : Some serial ≡ Some (format indexes) = is in cc
never-formats indexes left (inr to) = let no : Some serial ≡ Some (fresh indexes) = to.0 in cc

-- the store is as it was, but for what was done on it
on-store : (ending : Ending) (old device new : DeviceState) (table : Table) (s : Story) (acks : List ℕ) → device ≡ old → old.story ≡ Some s → HoldsTable old.pages table s
    → (device.pages ≡ old.pages → device.story ≡ Some s → LeavesWritten ending old.pages table s new.story acks) → LeavesWritten ending old.pages table s new.story acks
on-store ending old device new table s acks prepared told holds then_left = then_left (ap (λ (d : DeviceState). d.pages) prepared) (ap (λ (d : DeviceState). d.story) prepared ∙ told)

serial-leaves : (so sn : ℕ) (left : Option (List ℕ)) (old new : DeviceState) (acks : List ℕ) (ending : Ending) (table : Table) (s : Story) → IsCause Formatting RanOn (Some serial) so sn left old new acks ending
    → old.story ≡ Some s → HoldsTable old.pages table s → LeavesWritten ending old.pages table s new.story acks
serial-leaves so sn left old new acks bad_words table s cause told holds = untouched bad_words old new table s acks refl refl cause.3 cause.2 told holds
serial-leaves so sn left old new acks source_fault table s cause told holds = untouched source_fault old new table s acks refl refl cause.3 cause.2 told holds
serial-leaves so sn left old new acks (bad_script wrong) table s cause told holds = untouched (bad_script wrong) old new table s acks refl refl cause.4 cause.3 told holds
serial-leaves so sn left old new acks no_memory table s (runs, same, none, inl untold) told holds = untouched no_memory old new table s acks refl refl none untold told holds
serial-leaves so sn left old new acks no_memory table s (runs, same, none, inr (script, begun, opened)) told holds =
    on-store no_memory old begun.device new table s acks begun.prepared told holds (λ pages is. only-read no_memory old.pages begun.device new table s acks refl refl none opened is holds)
serial-leaves so sn left old new acks format_failed table s (same, none, (indexes, failed, to, formatting)) told holds = absurd (never-formats indexes left to)
serial-leaves so sn left old new acks (formatted pages) table s (same, none, is, (indexes, to, formatting)) told holds = absurd (never-formats indexes left (inl to))
serial-leaves so sn left old new acks (not_opened refusal) table s (same, none, (script, begun, unopened)) told holds =
    on-store (not_opened refusal) old begun.device new table s acks begun.prepared told holds (λ pages is. only-read (not_opened refusal) old.pages begun.device new table s acks refl refl none unopened.reads is holds)
serial-leaves so sn left old new acks (ran script r f) table s (same, (begun, on)) told holds =
    on-store (ran script r f) old begun.device new table s acks begun.prepared told holds (λ pages is. after-run old.pages begun.device new table s acks script r f pages on is holds)

pub serial-call-leaves : (edges : Edges) (status : ℕ) (acks : List ℕ) (r : RunRecord) (table : Table) (end : Ends Formatting RanOn (Some serial) edges status acks r)
    → WhereTold edges.device_old.story (λ s. HoldsTable edges.device_old.pages table s → LeavesWritten end.ending edges.device_old.pages table s edges.device_new.story acks)
serial-call-leaves edges status acks r table end s told holds =
    serial-leaves edges.source_old edges.source_new edges.left edges.device_old edges.device_new acks end.ending table s end.cause told holds
