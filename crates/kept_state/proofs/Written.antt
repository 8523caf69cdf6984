-- The store after a page of its job was written, or wasn't.
use Rattle.std.proofs.Common.{◌≡◌, ◌≢◌, ◌⊎◌, inl, inr, ⊎_elim, ℕ, ◌+◌, ◌*◌, ◌<◌, ◌≤◌, Bool, true, false, ◌||◌, List, [], ◌∷◌, ◌++◌, map, length, Option, Some, refl, sym, ◌∙◌, ap, subst, arith}
use Rattle.std.proofs.lemmas.Bool.Decides.{nat_tests}
use Rattle.std.proofs.lemmas.Option.{same_Some}
use Rattle.std.specs.Prelude.{IsTrue, OnOk, Result, Ok, Err}
use Rattle.dev_model.specs.Story.{DeviceState, Story, Write, after, part, with_call, bytes_of, IsOutside, IsReadable}
use Rattle.dev_model.specs.Doing.{Did, noted}
use Rattle.dev_model.specs.Writes.{WritesWithin}
use Rattle.dev_model.specs.Laws.Frame.{WritesWithin-did}
use Rattle.dev_model.specs.Laws.Ranges.{part-patched}
use Rattle.table_model.specs.Table.{Table, rows_of}
use Rattle.wal_log.specs.Later.{later}
use Rattle.wal_log.specs.Rules.{records_of}
use Rattle.wal_log.specs.Segments.{Segments}
use Rattle.wal_log.specs.declared.places.TheConstants.{LOG_BYTES}
use Rattle.wal_log.specs.declared.log.Log.{Log}
use Rattle.format_numbers.specs.declared.TheConstants.{LOG_START}
use Rattle.component_image.specs.Replayed.{replayed}
use Rattle.space_map.specs.Space.{is_in, is_reserved}
use Rattle.comp_dir.specs.Directory.{Numbered}
use Rattle.comp_dir.specs.declared.places.TheConstants.{FIRST_DATA_PAGE}
use Rattle.comp_dir.specs.declared.slots.Slot.{Slot}
use Rattle.page_codec.specs.declared.pages.TheConstants.{PAGE_BYTES}
use Rattle.primary_ix.specs.declared.rows.PrimRow.{PrimRow}
use Rattle.build_job.specs.Jobs.{Job}
use Rattle.build_job.specs.Steps.{steps_left}
use Rattle.build_job.specs.Written.{IsPageOf}
use Rattle.build_job.specs.Laws.Showing.{AreWritten-next}
use Rattle.component_image.specs.Components.{IsInExtents}
use Rattle.component_image.specs.Content.{page_at}
use Rattle.component_image.specs.Laid.{table_of}
use Rattle.component_image.specs.Beside.{IsBeside}
use Rattle.component_image.specs.Resting.{Rests}
use Rattle.component_image.specs.Laws.Apart.{segments-apart}
use Rattle.component_image.specs.Laws.Keeping.{elsewhere-images, elsewhere-rests}
use Rattle.store_state.specs.declared.jobs.JobRow.{JobRow}
use Rattle.store_state.specs.Lists.{Lists, extent_of, extents_of, open_of, placed_up_to, job_of}
use Rattle.store_state.specs.EveryList.{IsLists, IsPlanned, IsPlannedIf}
use Rattle.store_state.specs.OwnJob.{IsJobOf}
use Rattle.store_state.specs.Steps.{one_written}
use Rattle.store_state.specs.Stepping.{KeepsTable}
use Rattle.store_state.specs.Keeping.{IsKept, IsUnderWay, IsUnderWayIf, IsOnPage}
use Rattle.store_state.specs.Reading.{IsLegible}
use Rattle.store_state.specs.Laws.ReadingPages.{lent-inside}
use Rattle.store_state.specs.Laws.ReadingStays.{legible-one_written, legible-within}
use Rattle.kept_state.proofs.Stays.{components-stay, lists-stay, page-stays, readable-stays, slots-stay}

-- a free page has no place of these components
free-outside : (comps more : List Numbered) (page i : ℕ) → is_reserved (extents_of (comps ++ more)) page ≡ false → IsInExtents (map (λ e. e.1) comps) i → IsOutside (page * 4096) 4096 i
free-outside [] more page i free inside = absurd inside
free-outside (e ∷ comps) more page i free (inl here) = by_test (is_in page (extent_of e.1)) refl free
  where
    by_test : (b : Bool) → is_in page (extent_of e.1) ≡ b → (b || is_reserved (extents_of (comps ++ more)) page) ≡ false → IsOutside (page * 4096) 4096 i
    by_test true is none = absurd (let no : true ≡ false = none in cc)
    by_test false is none =
        let beside : (page < e.1.first) ⊎ (e.1.first + e.1.pages ≤ page) = grind (arith, nat_tests, is) in
        ⊎_elim (λ before. inr (omega (arith, before, here.from))) (λ behind. inl (omega (arith, behind, here.to))) beside
free-outside (e ∷ comps) more page i free (inr there) = free-outside comps more page i (others (is_in page (extent_of e.1)) free) there
  where
    others : (b : Bool) → (b || is_reserved (extents_of (comps ++ more)) page) ≡ false → is_reserved (extents_of (comps ++ more)) page ≡ false
    others true none = absurd (let no : true ≡ false = none in cc)
    others false none = none

-- The job that was begun, and its next page.
module _ (l : Lists) (lists : IsLists l) (owner : ℕ) (job : Job) (of : IsJobOf l owner job) (left : 0 < steps_left job) where
  abbrev page : ℕ
  page = job.plan.extent.first + job.written

  planned : IsPlanned l of.row
  planned = subst (IsPlannedIf l) of.is lists.planned

  page_is : page ≡ of.row.plan.extent.first + of.row.written
  page_is = ap (λ (j : Job). j.plan.extent.first + j.written) of.same

  reserved : is_reserved (extents_of (open_of l)) page ≡ false
  reserved =
      let some : 0 < steps_left (job_of l of.row) = subst (λ (j : Job). 0 < steps_left j) of.same left in
      let inside : IsTrue (is_in page of.row.plan.extent) = grind (arith, nat_tests, some, page_is) in
      planned.free page inside

  behind : FIRST_DATA_PAGE ≤ page
  behind = omega (arith, planned.from, page_is)

  apart : (page * PAGE_BYTES + PAGE_BYTES ≤ LOG_START) ⊎ (LOG_START + LOG_BYTES ≤ page * PAGE_BYTES)
  apart = inr (omega (arith, behind))

  -- nothing that an opening looks at stands there, and no component
  off-page : (pages : ℕ) (log : Log) (table : Table) (s : Story) → IsKept pages log table l s → (i : ℕ) → IsBeside (bytes_of s) i → IsOutside (page * PAGE_BYTES) PAGE_BYTES i
  off-page pages log table s kept i (inl (inl is)) = inl (omega (arith, is, behind))
  off-page pages log table s kept i (inl (inr looked)) = inl (omega (arith, looked.1, behind))
  off-page pages log table s kept i (inr (inl looked)) = inl (⊎_elim (λ here. omega (arith, here, looked.1, behind)) (λ in_it. omega (arith, in_it.2, looked.1, behind)) looked.2)
  off-page pages log table s kept i (inr (inr inside)) = free-outside l.components l.ignored page i reserved (subst (λ (slots : List Slot). IsInExtents slots i) kept.held.components inside)

  module _ (bytes : List ℕ) (wide : length bytes ≡ PAGE_BYTES) (is_page : IsPageOf job.rows job.written bytes) where
    module _ (pages : ℕ) (log : Log) (table : Table) (s t : Story) (kept : IsKept pages log table l s) (ends : with_call s (Write (page * PAGE_BYTES) bytes) ≡ t) (within : WritesWithin (page * PAGE_BYTES) PAGE_BYTES s (Some t)) where
      off : (i : ℕ) → IsBeside (bytes_of s) i → IsOutside (page * PAGE_BYTES) PAGE_BYTES i
      off = off-page pages log table s kept

      rests : Rests pages log table t
      rests = elsewhere-rests pages log table s t (page * PAGE_BYTES) PAGE_BYTES (Some t) kept.held.rests within refl off apart

      bytes_are : page_at (bytes_of t) page ≡ bytes
      bytes_are =
          ap (λ (u : Story). page_at (bytes_of u) page) (sym ends)
          ∙ ap (λ (n : ℕ). part (page * PAGE_BYTES) n (bytes_of (with_call s (Write (page * PAGE_BYTES) bytes)))) (sym wide)
          ∙ part-patched (page * PAGE_BYTES) bytes (bytes_of s)

      under_way : IsUnderWay l of.row s
      under_way = subst (λ (j : Option JobRow). IsUnderWayIf l j s) of.is kept.under_way

      -- the other pages stay
      others : (n i : ℕ) → n ≢ of.row.plan.extent.first + of.row.written → n * 4096 ≤ i → i < n * 4096 + 4096 → IsOutside (page * PAGE_BYTES) PAGE_BYTES i
      others n i other low high =
          let either : (n < page) ⊎ (page < n) = grind (arith, other, page_is) in
          ⊎_elim (λ before. inl (omega (arith, before, high))) (λ later. inr (omega (arith, later, low))) either

      readable : (n i : ℕ) → n < of.row.written + 1 → IsOnPage (of.row.plan.extent.first + n) i → IsReadable t.past i
      readable n i lt on = ⊎_elim before here which
        where
          which : (n < of.row.written) ⊎ (n ≡ of.row.written)
          which = grind (arith, lt)

          before : n < of.row.written → IsReadable t.past i
          before less = readable-stays pages log table l s t (page * PAGE_BYTES) PAGE_BYTES kept within off i (inl (omega (arith, less, on.to, page_is))) (under_way.readable n i less on)

          here : n ≡ of.row.written → IsReadable t.past i
          here same = subst (λ (u : Story). IsReadable u.past i) ends (inl (record { from = omega (arith, same, on.from, page_is); to = omega (arith, same, on.to, page_is, wide) }))

      page_there : IsPageOf (job_of l of.row).rows of.row.written (page_at (bytes_of t) (of.row.plan.extent.first + of.row.written))
      page_there = subst (IsPageOf (job_of l of.row).rows of.row.written) (sym bytes_are ∙ ap (page_at (bytes_of t)) page_is) (subst (λ (j : Job). IsPageOf j.rows j.written bytes) of.same is_page)

      under_way_now : IsUnderWay (one_written l) (record of.row { written = of.row.written + 1 }) t
      under_way_now = record {
        pages = AreWritten-next (job_of l of.row) (page_at (bytes_of s)) (page_at (bytes_of t)) under_way.pages
            (λ n other. page-stays pages log table l s t (page * PAGE_BYTES) PAGE_BYTES kept within off n (λ i. others n i other)) page_there;
        readable = readable;
      }

      kept-written : IsKept pages log table (one_written l) t
      kept-written = record {
        held = record {
          rests = rests;
          components = components-stay pages log table l s t (page * PAGE_BYTES) PAGE_BYTES kept within off;
          slots = slots-stay pages log table l s t (page * PAGE_BYTES) PAGE_BYTES kept within off;
          frozen_writes = kept.held.frozen_writes;
          active_writes = kept.held.active_writes;
          writes = ap (λ (segments : Segments). later (placed_up_to l.components) (records_of segments)) (segments-apart (page * PAGE_BYTES) PAGE_BYTES s t (Some t) within refl apart) ∙ kept.held.writes;
          frozen_is = kept.held.frozen_is;
          active_is = kept.held.active_is;
          active_count = kept.held.active_count;
          rows_are = kept.held.rows_are;
          cut_rows_are = kept.held.cut_rows_are ∙ ap (λ (lists : List (List PrimRow)). length (rows_of (replayed (table_of lists) kept.held.frozen_writes)))
              (sym (lists-stay pages log table l s t (page * PAGE_BYTES) PAGE_BYTES kept within off table rests.recovers));
        };
        under_way = subst (λ (j : Option JobRow). IsUnderWayIf (one_written l) (one_written (record l { job = j })).job t) (sym of.is) under_way_now;
      }

    module _ {X E : Type 0} (old now : DeviceState) (m : Lists) where
      within : (r : Result X E) (s : Story) → old.story ≡ Some s → Did (Write (page * PAGE_BYTES) bytes ∷ []) old.story now.story r → WritesWithin (page * PAGE_BYTES) PAGE_BYTES s now.story
      within r s is did =
          WritesWithin-did (page * PAGE_BYTES) PAGE_BYTES s (Write (page * PAGE_BYTES) bytes ∷ []) old.story now.story r is did (λ i out. (subst (λ (n : ℕ). IsOutside (page * PAGE_BYTES) n i) (sym wide) out, tt))

      legible : (r : Result X E) → Did (Write (page * PAGE_BYTES) bytes ∷ []) old.story now.story r → (table : Table) (disk : List (List PrimRow)) (s : Story) → old.story ≡ Some s → IsLegible table disk l s
          → (t : Story) → now.story ≡ Some t → IsLegible table disk l t
      legible r did table disk s is before t told =
          legible-within table disk l s t (page * PAGE_BYTES) PAGE_BYTES now.story lists before (within r s is did) told (λ i place. free-outside l.components l.ignored page i reserved (lent-inside l.components i place))

      pub page-keeps : (log : Log) (r : Result X E) → Did (Write (page * PAGE_BYTES) bytes ∷ []) old.story now.story r → OnOk r (m ≡ one_written l) → KeepsTable (λ disk. disk) old now log log l m r
      page-keeps log r did after_it = record {
        any_moment = λ table s is kept. record {
          calls = (within r s is did).calls;
          told = (within r s is did).told;
          each = elsewhere-images old.pages log table s (after s (within r s is did).calls) (page * PAGE_BYTES) PAGE_BYTES now.story kept.held.rests (within r s is did) (within r s is did).told
              (off-page old.pages log table s kept) apart;
        };
        kept = λ table. kept table r did after_it;
        legible = legible r did;
        grows = λ table disk. grows table disk r did after_it;
      }
        where
          kept : (table : Table) (r : Result X E) → Did (Write (page * PAGE_BYTES) bytes ∷ []) old.story now.story r → OnOk r (m ≡ one_written l)
              → OnOk r ((s : Story) → old.story ≡ Some s → IsKept old.pages log table l s → (t : Story) → now.story ≡ Some t → IsKept old.pages log table m t)
          kept table (Err e) did after_it = tt
          kept table (Ok x) did after_it = λ s is kept t told.
              subst (λ (other : Lists). IsKept old.pages log table other t) (sym after_it)
              (kept-written old.pages log table s t kept (same_Some _ _ (sym (did ∙ ap (noted (Write (page * PAGE_BYTES) bytes)) is) ∙ told))
              (subst (WritesWithin (page * PAGE_BYTES) PAGE_BYTES s) told (within (Ok x) s is did)))

          grows : (table : Table) (disk : List (List PrimRow)) (r : Result X E) → Did (Write (page * PAGE_BYTES) bytes ∷ []) old.story now.story r → OnOk r (m ≡ one_written l)
              → OnOk r ((s : Story) → old.story ≡ Some s → IsKept old.pages log table l s × IsLegible table disk l s → (t : Story) → now.story ≡ Some t → IsLegible table disk m t)
          grows table disk (Err e) did after_it = tt
          grows table disk (Ok x) did after_it = λ s is both t told.
              subst (λ (other : Lists). IsLegible table disk other t) (sym after_it) (legible-one_written table disk l t (legible (Ok x) did table disk s is both.1 t told))
