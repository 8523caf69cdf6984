-- What stays of a store while calls write where nothing of it stands beside the log.
use Rattle.std.proofs.Common.{◌≡◌, inr, ℕ, ◌+◌, ◌*◌, ◌<◌, ◌≤◌, List, [], ◌∷◌, map, Option, Some, None, Contains, ◌↔◌, refl, sym, ◌∙◌, ap, subst, arith}
use Rattle.std.proofs.lemmas.Option.{same_Some}
use Rattle.dev_model.specs.Story.{Call, Calls, Read, Write, Sync, FailedWrite, FailedCall, Story, after, with_call, bytes_of, IsOutside, IsReadable, IsSpared}
use Rattle.dev_model.specs.Writes.{WritesWithin, AreSpared}
use Rattle.dev_model.specs.Laws.Frame.{bytes_of-spared}
use Rattle.dev_model.specs.Laws.Ranges.{part-same}
use Rattle.table_model.specs.Table.{Table}
use Rattle.wal_log.specs.declared.places.TheConstants.{LOG_BYTES}
use Rattle.wal_log.specs.declared.log.Log.{Log}
use Rattle.format_numbers.specs.declared.TheConstants.{LOG_START}
use Rattle.comp_dir.specs.Directory.{Directory, Numbered, directory_of, open_slots}
use Rattle.comp_dir.specs.declared.places.TheConstants.{PRIMARY}
use Rattle.comp_dir.specs.declared.slots.Slot.{Slot}
use Rattle.build_job.specs.Jobs.{Job}
use Rattle.build_job.specs.Written.{IsPageOf, AreWritten}
use Rattle.component_image.specs.Components.{components, end_of}
use Rattle.component_image.specs.Content.{page_at, ShowAll}
use Rattle.component_image.specs.Recovered.{primary_of, Recovers}
use Rattle.component_image.specs.Beside.{IsBeside}
use Rattle.component_image.specs.Laws.Agreeing.{AgreeBeside, primaries, ShowAll-same}
use Rattle.component_image.specs.Laws.Resting.{beside-log, beside-agrees}
use Rattle.component_image.specs.Laws.Showing.{same_lists_shown}
use Rattle.store_state.specs.declared.jobs.JobRow.{JobRow}
use Rattle.store_state.specs.Lists.{Lists, open_of, placed_up_to, job_of}
use Rattle.store_state.specs.EveryList.{IsPlanned, IsPlannedIf}
use Rattle.store_state.specs.Keeping.{IsKept, IsUnderWay, IsUnderWayIf}

readable_with : (s : Story) (call : Call) (i : ℕ) → IsSpared call i → IsReadable s.past i → IsReadable (with_call s call).past i
readable_with s (Read at count) i spared readable = readable
readable_with s (Write at new) i spared readable = inr readable
readable_with s Sync i spared readable = readable
readable_with s (FailedWrite at new) i spared readable = (spared, readable)
readable_with s FailedCall i spared readable = readable

-- a place that is spared can still be read
readable-spared : (s : Story) (calls : Calls) (i : ℕ) → AreSpared calls i → IsReadable s.past i → IsReadable (after s calls).past i
readable-spared s [] i spared readable = readable
readable-spared s (call ∷ calls) i spared readable = readable-spared (with_call s call) calls i spared.1 (readable_with s call i spared.0 readable)

-- the last write of the components, by their slots, and by what is kept of them
placed-end : (slots : List Numbered) → end_of (map (λ e. e.1) slots) ≡ placed_up_to slots
placed-end [] = refl
placed-end (e ∷ older) = refl

pub end-is : (pages : ℕ) (log : Log) (table : Table) (l : Lists) (s : Story) → IsKept pages log table l s → end_of (primary_of (bytes_of s)) ≡ placed_up_to l.components
end-is pages log table l s kept = ap end_of kept.held.components ∙ placed-end l.components

module _ (pages : ℕ) (log : Log) (table : Table) (l : Lists) (s t : Story) (at count : ℕ) (kept : IsKept pages log table l s) (within : WritesWithin at count s (Some t)) (outside : (i : ℕ) → IsBeside (bytes_of s) i → IsOutside at count i) where
  agrees : AgreeBeside (bytes_of s) (bytes_of t)
  agrees = beside-agrees pages log table s t at count (Some t) kept.held.rests within refl outside

  ends_there : after s within.calls ≡ t
  ends_there = same_Some _ _ (sym within.told)

  -- the directory, and what is read of it
  same_primary : primary_of (bytes_of t) ≡ primary_of (bytes_of s)
  same_primary = ap (components PRIMARY) agrees.directory

  pub components-stay : primary_of (bytes_of t) ≡ map (λ e. e.1) l.components
  components-stay = same_primary ∙ kept.held.components

  pub slots-stay : (e : Numbered) → Contains (open_slots (directory_of (bytes_of t))) e ↔ Contains (open_of l) e
  slots-stay = subst (λ (d : Directory). (e : Numbered) → Contains (open_slots d) e ↔ Contains (open_of l) e) (sym agrees.directory) kept.held.slots

  pub end-stays : end_of (primary_of (bytes_of t)) ≡ placed_up_to l.components
  end-stays = ap end_of components-stay ∙ placed-end l.components

  -- the components show the lists that they showed
  pub lists-stay : (after_it : Table) (r : Recovers pages after_it (bytes_of t)) → r.lists ≡ kept.held.rests.recovers.lists
  lists-stay after_it r =
      same_lists_shown (bytes_of t) (primary_of (bytes_of t)) r.lists kept.held.rests.recovers.lists r.shown
      (subst (λ (x : List Slot). ShowAll (bytes_of t) x kept.held.rests.recovers.lists) (sym same_primary)
      (ShowAll-same (bytes_of s) (bytes_of t) (primary_of (bytes_of s)) kept.held.rests.recovers.lists (primaries pages 0 (directory_of (bytes_of s)) kept.held.rests.recovers.opens.directory) agrees.content kept.held.rests.recovers.shown))

  -- pages elsewhere stay, and can be read as before
  pub page-stays : (page : ℕ) → ((i : ℕ) → page * 4096 ≤ i → i < page * 4096 + 4096 → IsOutside at count i) → page_at (bytes_of t) page ≡ page_at (bytes_of s) page
  page-stays page out =
      part-same (page * 4096) 4096 (bytes_of t) (bytes_of s) (λ i low high.
      subst (λ (u : Story). bytes_of u i ≡ bytes_of s i) ends_there (bytes_of-spared s within.calls i (within.spared i (out i low high))))

  pub readable-stays : (i : ℕ) → IsOutside at count i → IsReadable s.past i → IsReadable t.past i
  readable-stays i out readable = subst (λ (u : Story). IsReadable u.past i) ends_there (readable-spared s within.calls i (within.spared i out) readable)

-- calls that write in the log alone
module _ (pages : ℕ) (log : Log) (table : Table) (l : Lists) (s t : Story) (kept : IsKept pages log table l s) (within : WritesWithin LOG_START LOG_BYTES s (Some t)) where
  pub off-log : (i : ℕ) → IsBeside (bytes_of s) i → IsOutside LOG_START LOG_BYTES i
  off-log i is = beside-log pages table (bytes_of s) i kept.held.rests.recovers is

  -- what is written of a job
  under_way : (row : JobRow) → IsPlanned l row → IsUnderWay l row s → IsUnderWay l row t
  under_way row planned was = record {
    pages = λ n lt. subst (IsPageOf (job_of l row).rows n)
        (sym (page-stays pages log table l s t LOG_START LOG_BYTES kept within off-log (row.plan.extent.first + n) (λ i low high. inr (omega (arith, low, planned.from))))) (was.pages n lt);
    readable = λ page i lt on. readable-stays pages log table l s t LOG_START LOG_BYTES kept within off-log i (inr (omega (arith, on.from, planned.from))) (was.readable page i lt on);
  }

  pub job-stays : (other : Lists) (job : Option JobRow) → ((row : JobRow) → job_of other row ≡ job_of l row) → IsPlannedIf l job → IsUnderWayIf l job s → IsUnderWayIf other job t
  job-stays other None same planned was = tt
  job-stays other (Some row) same planned was =
      let there : IsUnderWay l row t = under_way row planned was in
      record { pages = subst (λ (job : Job). AreWritten job (page_at (bytes_of t))) (sym (same row)) there.pages; readable = there.readable }
