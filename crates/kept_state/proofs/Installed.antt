-- The store after the component of its job was installed, or wasn't.
use Rattle.std.proofs.Common.{◌≡◌, ◌≢◌, ◌⊎◌, inl, inr, ⊎_elim, ℕ, zero, suc, ◌+◌, ◌-◌, ◌*◌, ◌<◌, ◌≤◌, List, [], ◌∷◌, ◌++◌, map, length, get_or, Option, Some, None, Contains, ◌↔◌, refl, sym, ◌∙◌, ap, subst, arith}
use Rattle.std.proofs.lemmas.List.Elements.{Contains-append_left, Contains-append_right, Contains-append_cases}
use Rattle.std.proofs.lemmas.Bool.Decides.{nat_tests}
use Rattle.std.proofs.lemmas.Option.{none-some, same_Some}
use Rattle.std.specs.Prelude.{IsTrue, true, false, Result, Ok, Err}
use Rattle.std.specs.Result.{IsErr}
use Rattle.dev_model.specs.Story.{DeviceState, Story, WhereTold, bytes_of, IsReadable}
use Rattle.dev_model.specs.Doing.{Did}
use Rattle.dev_model.specs.Moments.{LeavesOnly}
use Rattle.dev_model.specs.Laws.Plans.{all_noted-told}
use Rattle.dev_model.specs.Writes.{WritesWithin}
use Rattle.table_model.specs.Table.{Table, rows_of}
use Rattle.wal_log.specs.Later.{later}
use Rattle.wal_log.specs.Rules.{records_of}
use Rattle.wal_log.specs.Segments.{Segments, segments_of}
use Rattle.wal_log.specs.declared.log.Log.{Log}
use Rattle.format_numbers.specs.declared.TheConstants.{LOG_START}
use Rattle.component_image.specs.Replayed.{replayed}
use Rattle.comp_dir.specs.Adding.{HasOneMore, MayBeAdded}
use Rattle.comp_dir.specs.Directory.{Directory, Numbered, directory_of, open_slots, slot_body}
use Rattle.comp_dir.specs.Laws.Adding.{open-added}
use Rattle.comp_dir.specs.Laws.Agreeing.{directory-at, slot_at-open}
use Rattle.comp_dir.specs.Laws.Spelled.{slot-back}
use Rattle.comp_dir.specs.Places.{slot_start}
use Rattle.comp_dir.specs.Rules.{IsSound}
use Rattle.comp_dir.specs.Slots.{slot_bytes, slot_of}
use Rattle.comp_dir.specs.Ranges.{HasRanges}
use Rattle.comp_dir.specs.Resting.{IsAtRest as DirectoryAtRest, install_calls}
use Rattle.comp_dir.specs.State.{IsClosed, IsOneOf, with_slot}
use Rattle.comp_dir.specs.declared.places.TheConstants.{FIRST_DATA_PAGE, LSN_LIMIT, PRIMARY, SLOT_BYTES}
use Rattle.comp_dir.specs.declared.slots.Slot.{Slot}
use Rattle.page_codec.specs.declared.pages.TheConstants.{PAGE_BYTES}
use Rattle.space_map.specs.Space.{is_in}
use Rattle.btree_image.specs.Shown.{IsShown}
use Rattle.device_pages.specs.Lending.{page_bytes, contents_of}
use Rattle.device_pages.specs.Lent.{is_lent}
use Rattle.device_pages.specs.LentPlaces.{IsLentPlace}
use Rattle.device_pages.specs.Laws.Lending.{contents-readable}
use Rattle.primary_ix.specs.Rows.{prim_layout}
use Rattle.primary_ix.specs.declared.rows.PrimRow.{PrimRow}
use Rattle.build_job.specs.Jobs.{Job, described}
use Rattle.build_job.specs.Steps.{IsJob, IsPlaceable, steps_left}
use Rattle.build_job.specs.Laws.Showing.{AreWritten-shows}
use Rattle.component_image.specs.Components.{components, IsInExtent}
use Rattle.component_image.specs.Content.{Count}
use Rattle.component_image.specs.Laid.{table_of}
use Rattle.component_image.specs.Recovered.{primary_of, Recovers}
use Rattle.component_image.specs.Resting.{Rests}
use Rattle.component_image.specs.Standing.{MayStand}
use Rattle.component_image.specs.Laws.Apart.{segments-apart}
use Rattle.kept_state.proofs.Opening.{install-leaves, install-rests, install-within}
use Rattle.kept_state.specs.Steps.{IsWritten}
use Rattle.store_state.specs.declared.jobs.JobRow.{JobRow}
use Rattle.store_state.specs.Lists.{Lists, frozen_rows, open_of, placed_up_to, job_of}
use Rattle.store_state.specs.EveryList.{IsCut, IsLists, IsPlanned, IsPlannedIf}
use Rattle.store_state.specs.OwnJob.{IsJobOf}
use Rattle.store_state.specs.Steps.{installed}
use Rattle.store_state.specs.Stepping.{KeepsTable}
use Rattle.store_state.specs.Keeping.{IsKept, IsUnderWay, IsUnderWayIf, IsOnPage}
use Rattle.store_state.specs.Numbered.{IsNumbered}
use Rattle.store_state.specs.Reading.{IsLegible}
use Rattle.kept_state.specs.Laws.Installing.{active-later, may-be-added, may-stand}
use Rattle.store_state.specs.Laws.ReadingPages.{one_or_other}
use Rattle.store_state.specs.Laws.ReadingStays.{legible-before, legible-installed}

-- one element more at the head, or somewhere
head-or : {X : Type 0} (x : X) (some others : List X) (e : X) → (Contains some e → Contains others e) → Contains (x ∷ some) e → Contains (x ∷ others) e
head-or {X} x some others e to h =
    ⊎_elim (λ here. Contains-append_left (x ∷ []) others e here) (λ there. Contains-append_right (x ∷ []) others e (to there)) (Contains-append_cases (x ∷ []) some e h)

to-head : {X : Type 0} (x : X) (before after : List X) (e : X) → Contains (before ++ x ∷ after) e → Contains (x ∷ before ++ after) e
to-head {X} x before after e h =
    ⊎_elim
    (λ there. Contains-append_right (x ∷ []) (before ++ after) e (Contains-append_left before after e there))
    (λ behind. head-or x after (before ++ after) e (λ there. Contains-append_right before after e there) behind)
    (Contains-append_cases before (x ∷ after) e h)

from-head : {X : Type 0} (x : X) (before after : List X) (e : X) → Contains (x ∷ before ++ after) e → Contains (before ++ x ∷ after) e
from-head {X} x before after e h =
    ⊎_elim
    (λ here. Contains-append_right before (x ∷ after) e (Contains-append_left (x ∷ []) after e here))
    (λ there. ⊎_elim (λ front. Contains-append_left before (x ∷ after) e front) (λ back. Contains-append_right before (x ∷ after) e (Contains-append_right (x ∷ []) after e back)) (Contains-append_cases before after e there))
    (Contains-append_cases (x ∷ []) (before ++ after) e h)

contains-more : {X : Type 0} (x : X) (old new : List X) → HasOneMore x old new → (e : X) → Contains new e ↔ Contains (x ∷ old) e
contains-more {X} x old new more e = (
  λ h. subst (λ (xs : List X). Contains (x ∷ xs) e) (sym more.was) (to-head x more.before more.after e (subst (λ (xs : List X). Contains xs e) more.is h)),
  λ h. subst (λ (xs : List X). Contains xs e) (sym more.is) (from-head x more.before more.after e (subst (λ (xs : List X). Contains (x ∷ xs) e) more.was h)),
)

-- a place of an extent is on one of its pages
on-page : (first pages i : ℕ) → first * 4096 ≤ i → i < (first + pages) * 4096 → (n : ℕ) × (n < pages) × IsOnPage (first + n) i
on-page first zero i low high = absurd (omega (arith, low, high))
on-page first (suc pages) i low high =
    by_last last (λ before. on-page first pages i low before)
  where
    last : (i < (first + pages) * 4096) ⊎ ((first + pages) * 4096 ≤ i)
    last = grind arith

    by_last : (i < (first + pages) * 4096) ⊎ ((first + pages) * 4096 ≤ i) → (i < (first + pages) * 4096 → (n : ℕ) × (n < pages) × IsOnPage (first + n) i) → (n : ℕ) × (n < suc pages) × IsOnPage (first + n) i
    by_last (inl before) rest = let found : (n : ℕ) × (n < pages) × IsOnPage (first + n) i = rest before in (found.0, omega (arith, found.1), found.2)
    by_last (inr behind) rest = (pages, omega arith, record { from = behind; to = omega (arith, high) })

-- the newest component says how many rows the table has with it
newest-counts : (s : Slot) (slots others : List Slot) (lists : List (List PrimRow)) → slots ≡ s ∷ others → Count slots lists → s.table_rows ≡ length (rows_of (replayed (table_of lists) []))
newest-counts s slots others lists are counted = by_first lists (subst (λ (xs : List Slot). Count xs lists) are counted)
  where
    by_first : (lists : List (List PrimRow)) → Count (s ∷ others) lists → s.table_rows ≡ length (rows_of (replayed (table_of lists) []))
    by_first [] counted = absurd counted
    by_first (rows ∷ lists) counted = counted.0

-- the job that was begun, whose pages are written, and its slot
module _ (l : Lists) (lists : IsLists l) (owner : ℕ) (job : Job) (of : IsJobOf l owner job) (rules : IsJob job) (done : steps_left job ≡ 0) (n : ℕ) (slot : Slot) (n_is : n ≡ job.plan.slot) (slot_is : slot ≡ described job) where
  planned : IsPlanned l of.row
  planned = subst (IsPlannedIf l) of.is lists.planned

  number : n ≡ of.row.plan.slot
  number = n_is ∙ ap (λ (j : Job). j.plan.slot) of.same

  body : slot ≡ described (job_of l of.row)
  body = slot_is ∙ ap described of.same

  none-left : steps_left (job_of l of.row) ≡ 0
  none-left = subst (λ (j : Job). steps_left j ≡ 0) of.same done

  own-rules : IsJob (job_of l of.row)
  own-rules = subst IsJob of.same rules

  low : slot_start n + SLOT_BYTES ≤ FIRST_DATA_PAGE * PAGE_BYTES
  low = omega (arith, number, planned.slot)

  module _ (pages : ℕ) (log : Log) (table : Table) (s : Story) (kept : IsKept pages log table l s) where
    own-pages : IsUnderWay l of.row s
    own-pages = subst (λ (j : Option JobRow). IsUnderWayIf l j s) of.is kept.under_way

    -- each place of the job's extent can be read
    extent-readable : (i : ℕ) → IsLentPlace (of.row.plan.extent ∷ []) i → IsReadable s.past i
    extent-readable i place = by_side (one_or_other of.row.plan.extent [] place.page place.lent)
      where
        by_side : IsTrue (is_in place.page of.row.plan.extent) ⊎ IsTrue (is_lent [] place.page) → IsReadable s.past i
        by_side (inl here) =
            let low : of.row.plan.extent.first ≤ place.page = grind (arith, nat_tests) in
            let high : place.page < of.row.plan.extent.first + of.row.plan.extent.pages = grind (arith, nat_tests) in
            let all : of.row.plan.extent.pages ≤ of.row.written = omega (arith, none-left) in
            let from : place.page * PAGE_BYTES ≤ i = place.from in
            let to : i < place.page * PAGE_BYTES + PAGE_BYTES = place.to in
            let at : of.row.plan.extent.first + (place.page - of.row.plan.extent.first) ≡ place.page = omega (arith, low) in
            own-pages.readable (place.page - of.row.plan.extent.first) i (omega (arith, low, high, all))
            (record { from = omega (arith, at, from); to = omega (arith, at, to) })
        by_side (inr nowhere) = cc

    -- its pages show the frozen list
    job-shown : IsShown prim_layout (contents_of (of.row.plan.extent ∷ []) (Some s)) of.row.plan.extent.first (length (frozen_rows l.frozen)) (frozen_rows l.frozen)
    job-shown = record {
      bytes = page_bytes s;
      told = contents-readable (of.row.plan.extent ∷ []) s extent-readable;
      is = record { count = refl; ascends = lists.frozen_ascends; stored = lists.frozen_stored };
      shows = AreWritten-shows (job_of l of.row) (page_bytes s) own-rules none-left own-pages.pages;
    }

    -- so the lists behind the install are legible before it, with the frozen list as the newest one on the disk
    legible-ahead : (disk : List (List PrimRow)) → IsLegible table disk l s → IsLegible table (frozen_rows l.frozen ∷ disk) (installed of.row l) s
    legible-ahead disk legible = by_frozen l.frozen refl
      where
        by_frozen : (frozen : Option (List PrimRow)) → l.frozen ≡ frozen → IsLegible table (frozen_rows l.frozen ∷ disk) (installed of.row l) s
        by_frozen None none = absurd (planned.frozen none)
        by_frozen (Some rows) some =
            let same : frozen_rows l.frozen ≡ rows = ap frozen_rows some in
            subst (λ (x : List PrimRow). IsLegible table (x ∷ disk) (installed of.row l) s) (sym same)
            (legible-installed table disk l s of.row rows some
            (subst (λ (x : List PrimRow). IsShown prim_layout (contents_of (of.row.plan.extent ∷ []) (Some s)) of.row.plan.extent.first (length x) x) same job-shown)
            legible)

  module _ (pages : ℕ) (log : Log) (table : Table) (s : Story) (kept : IsKept pages log table l s) (numbered : IsNumbered log l) (on_device : l.space.pages ≤ pages) (below : l.cut < LSN_LIMIT)
      (is_sound : IsPlaceable pages job → IsSound pages 0 slot) (ranges : HasRanges slot) where
    ordered : placed_up_to l.components + 1 ≤ l.cut
    ordered = by_frozen l.frozen planned.frozen lists.is_cut
      where
        by_frozen : (frozen : Option (List PrimRow)) → frozen ≢ None → IsCut frozen (placed_up_to l.components) l.cut → placed_up_to l.components + 1 ≤ l.cut
        by_frozen None some cut = absurd (some refl)
        by_frozen (Some rows) some cut = omega (arith, cut)

    placeable : IsPlaceable pages job
    placeable = subst (IsPlaceable pages) (sym of.same)
        (record { from = planned.from; to = omega (arith, planned.to, on_device); some = omega arith; ordered = ordered; below = below })

    sound : IsSound pages 0 (described (job_of l of.row))
    sound = subst (IsSound pages 0) body (is_sound placeable)

    back : slot_of (slot_bytes (described (job_of l of.row))) ≡ described (job_of l of.row)
    back = subst (λ (t : Slot). slot_of (slot_bytes t) ≡ t) body (slot-back slot ranges)

    may-be : MayBeAdded pages 0 of.row.plan.slot (described (job_of l of.row)) (directory_of (bytes_of s))
    may-be = may-be-added pages log table l s of.row kept lists numbered of.is own-rules none-left sound back

    may-stand-there : MayStand pages s n slot kept.held.frozen_writes kept.held.rests.recovers.lists
    may-stand-there =
        subst (λ (m : ℕ). MayStand pages s m slot kept.held.frozen_writes kept.held.rests.recovers.lists) (sym number)
        (subst (λ (t : Slot). MayStand pages s of.row.plan.slot t kept.held.frozen_writes kept.held.rests.recovers.lists) (sym body)
        (may-stand pages log table l s of.row kept lists numbered of.is own-rules none-left sound back))

    -- its gate is closed
    closed-there : IsClosed n s
    closed-there is =
        none-some (slot_body n (bytes_of s))
        (sym may-be.closed ∙ ap (λ (m : ℕ). get_or (directory_of (bytes_of s)) m None) (sym number) ∙ directory-at n (bytes_of s) (omega (arith, number, planned.slot)) ∙ slot_at-open n (bytes_of s) is)

    -- and its pages are written
    written-there : IsWritten slot s
    written-there i inside =
        let here : IsInExtent (described (job_of l of.row)) i = subst (λ (t : Slot). IsInExtent t i) body inside in
        let found : (k : ℕ) × (k < of.row.plan.extent.pages) × IsOnPage (of.row.plan.extent.first + k) i = on-page of.row.plan.extent.first of.row.plan.extent.pages i here.from here.to in
        (own-pages pages log table s kept).readable found.0 i (omega (arith, found.1, none-left)) found.2

    -- so the store keeps its table
    module _ (t : Story) (rests : Rests pages log table t) (same_segments : segments_of LOG_START (bytes_of t) ≡ segments_of LOG_START (bytes_of s)) (directory : directory_of (bytes_of t) ≡ with_slot n slot (directory_of (bytes_of s))) where
      same_directory : directory_of (bytes_of t) ≡ with_slot of.row.plan.slot (described (job_of l of.row)) (directory_of (bytes_of s))
      same_directory = directory ∙ (λ j. with_slot (number j) (body j) (directory_of (bytes_of s)))

      components_are : primary_of (bytes_of t) ≡ described (job_of l of.row) ∷ map (λ e. e.1) l.components
      components_are = ap (components PRIMARY) directory ∙ may-stand-there.components_are ∙ (λ j. body j ∷ kept.held.components j)

      slots_are : (e : Numbered) → Contains (open_slots (directory_of (bytes_of t))) e ↔ Contains ((of.row.plan.slot, described (job_of l of.row)) ∷ open_of l) e
      slots_are e =
          let more : Contains (open_slots (directory_of (bytes_of t))) e ↔ Contains ((of.row.plan.slot, described (job_of l of.row)) ∷ open_slots (directory_of (bytes_of s))) e =
          contains-more (of.row.plan.slot, described (job_of l of.row)) (open_slots (directory_of (bytes_of s))) (open_slots (directory_of (bytes_of t)))
          (subst (λ (d : Directory). HasOneMore (of.row.plan.slot, described (job_of l of.row)) (open_slots (directory_of (bytes_of s))) (open_slots d)) (sym same_directory)
          (open-added pages 0 of.row.plan.slot (described (job_of l of.row)) (directory_of (bytes_of s)) may-be)) e in (
            λ h. head-or (of.row.plan.slot, described (job_of l of.row)) (open_slots (directory_of (bytes_of s))) (open_of l) e (λ there. (kept.held.slots e).0 there) (more.0 h),
            λ h. more.1 (head-or (of.row.plan.slot, described (job_of l of.row)) (open_of l) (open_slots (directory_of (bytes_of s))) e (λ there. (kept.held.slots e).1 there) h),
          )

      kept-installed : IsKept pages log table (installed of.row l) t
      kept-installed = record {
        held = record {
          rests = rests;
          components = components_are;
          slots = slots_are;
          frozen_writes = [];
          active_writes = kept.held.active_writes;
          writes = ap (λ (segments : Segments). later l.cut (records_of segments)) same_segments ∙ active-later pages log table l s of.row kept lists numbered of.is own-rules none-left sound back;
          frozen_is = refl;
          active_is = kept.held.active_is;
          active_count = kept.held.active_count;
          rows_are = kept.held.rows_are;
          cut_rows_are = newest-counts (described (job_of l of.row)) (primary_of (bytes_of t)) (map (λ e. e.1) l.components) rests.recovers.lists components_are rests.recovers.counted;
        };
        under_way = tt;
      }

  -- The install, whether one of its calls failed or not. The premises behind the calls are what the directory says of it.
  module _ (log : Log) (old now : DeviceState) (m : Lists) (numbered : IsNumbered log l) (on_device : l.space.pages ≤ old.pages) (below : l.cut < LSN_LIMIT) (is_sound : IsPlaceable old.pages job → IsSound old.pages 0 slot) (ranges : HasRanges slot)
      (directories : WhereTold old.story (λ s. DirectoryAtRest s → IsClosed n s → LeavesOnly s now.story (λ image. IsOneOf (directory_of (bytes_of s)) (with_slot n slot (directory_of (bytes_of s))) (directory_of image)))) where
    may : (table : Table) (s : Story) (kept : IsKept old.pages log table l s) → MayStand old.pages s n slot kept.held.frozen_writes kept.held.rests.recovers.lists
    may table s kept = may-stand-there old.pages log table s kept numbered on_device below is_sound ranges

    shut : (table : Table) (s : Story) → IsKept old.pages log table l s → IsClosed n s
    shut table s kept = closed-there old.pages log table s kept numbered on_device below is_sound ranges

    written : (table : Table) (s : Story) → IsKept old.pages log table l s → IsWritten slot s
    written table s kept = written-there old.pages log table s kept numbered on_device below is_sound ranges

    leaves : {X E : Type 0} (r : Result X E) → Did (install_calls n slot) old.story now.story r → (table : Table) (s : Story) → old.story ≡ Some s → IsKept old.pages log table l s → LeavesOnly s now.story (Recovers old.pages table)
    leaves r did table s is kept =
        install-leaves old.pages log table s n slot kept.held.frozen_writes kept.held.rests.recovers.lists kept.held.rests (may table s kept) (shut table s kept) (written table s kept) old.story now.story r is did
        (directories s is kept.held.rests.directory_rest (shut table s kept))

    legible : {X E : Type 0} (r : Result X E) → Did (install_calls n slot) old.story now.story r → (table : Table) (disk : List (List PrimRow)) (s : Story) → old.story ≡ Some s → IsLegible table disk l s
        → (t : Story) → now.story ≡ Some t → IsLegible table disk l t
    legible r did table disk s is before t told = legible-before table disk l s t (slot_start n) SLOT_BYTES now.story lists before (install-within n slot s old.story now.story r is did) told low

    pub install-fails : {X E : Type 0} (r : Result X E) → IsErr r → Did (install_calls n slot) old.story now.story r → KeepsTable (λ disk. job.rows ∷ disk) old now log log l m r
    install-fails (Ok x) err did = absurd (let no : false ≡ true = err in cc)
    install-fails {X = X} (Err e) err did = record { any_moment = leaves {X = X} (Err e) did; kept = λ table. tt; legible = legible {X = X} (Err e) did; grows = λ table disk. tt }

    -- after the last of them
    pub install-keeps : {X E : Type 0} (x : X) → Did {E = E} (install_calls n slot) old.story now.story (Ok x) → m ≡ installed of.row l → IsLists m
        → WhereTold old.story (λ s. DirectoryAtRest s → IsClosed n s → WhereTold now.story DirectoryAtRest)
        → WhereTold old.story (λ s. DirectoryAtRest s → IsClosed n s → WhereTold now.story (λ t. directory_of (bytes_of t) ≡ with_slot n slot (directory_of (bytes_of s))))
        → KeepsTable {E = E} (λ disk. job.rows ∷ disk) old now log log l m (Ok x)
    install-keeps {E = E} x did after_it sound at_rest opened = record { any_moment = leaves {E = E} (Ok x) did; kept = kept_then; legible = legible {E = E} (Ok x) did; grows = grown }
      where
        within : (s t : Story) → old.story ≡ Some s → now.story ≡ Some t → WritesWithin (slot_start n) SLOT_BYTES s (Some t)
        within s t is told = subst (WritesWithin (slot_start n) SLOT_BYTES s) told (install-within {E = E} n slot s old.story now.story (Ok x) is did)

        kept_then : (table : Table) (s : Story) → old.story ≡ Some s → IsKept old.pages log table l s → (t : Story) → now.story ≡ Some t → IsKept old.pages log table m t
        kept_then table s is kept t told =
            let closed : IsClosed n s = shut table s kept in
            let directory : directory_of (bytes_of t) ≡ with_slot n slot (directory_of (bytes_of s)) = opened s is kept.held.rests.directory_rest closed t told in
            subst (λ (other : Lists). IsKept old.pages log table other t) (sym after_it)
            (kept-installed old.pages log table s kept numbered on_device below is_sound ranges t
            (install-rests {E = E} old.pages log table s n slot kept.held.frozen_writes kept.held.rests.recovers.lists kept.held.rests (may table s kept) closed (written table s kept) old.story now.story (Ok x) is did t told
            (same_Some _ _ (sym (did ∙ all_noted-told s (install_calls n slot) old.story is) ∙ told)) (at_rest s is kept.held.rests.directory_rest closed t told) directory)
            (segments-apart (slot_start n) SLOT_BYTES s t (Some t) (within s t is told) refl (inl (omega (arith, number, planned.slot)))) directory)

        grown : (table : Table) (disk : List (List PrimRow)) (s : Story) → old.story ≡ Some s → IsKept old.pages log table l s × IsLegible table disk l s → (t : Story) → now.story ≡ Some t → IsLegible table (job.rows ∷ disk) m t
        grown table disk s is both t told =
            subst (λ (j : Job). IsLegible table (j.rows ∷ disk) m t) (sym of.same)
            (legible-before table (frozen_rows l.frozen ∷ disk) m s t (slot_start n) SLOT_BYTES (Some t) sound
            (subst (λ (other : Lists). IsLegible table (frozen_rows l.frozen ∷ disk) other s) (sym after_it) (legible-ahead old.pages log table s both.0 disk both.1)) (within s t is told) refl low)
