-- What stays legible, and what reads leave of a store. No public contract needs these laws.
use Rattle.std.proofs.Common.{◌≡◌, ◌⊎◌, inl, inr, ⊎_elim, ℕ, suc, ◌+◌, ◌*◌, ◌<◌, ◌≤◌, true, false, List, [], ◌∷◌, ◌++◌, length, map, get_or, All, Option, Some, None, refl, sym, ◌∙◌, ap, subst, arith, zero}
use Rattle.std.proofs.lemmas.Option.{same_Some}
use Rattle.std.specs.Prelude.{IsTrue, Bool, Contains, ◌↔◌}
use Rattle.std.specs.Option.{option_to_list}
use Rattle.space_map.specs.declared.space.Extent.{Extent}
use Rattle.space_map.specs.Space.{is_in}
use Rattle.dev_model.specs.Story.{Bytes, Read, Write as Written, Sync, FailedWrite, FailedCall, Calls, Story, with_call, after, clock_of, bytes_of, IsReadable, IsOutside, IsImageNow}
use Rattle.dev_model.specs.Moments.{EachMoment, LeavesOnly, AreReadsWithin, ReadsWithin}
use Rattle.dev_model.specs.Writes.{AreSpared, WritesWithin}
use Rattle.dev_model.specs.Laws.Images.{IsImage-at_now}
use Rattle.dev_model.specs.Laws.Reads.{bytes_of-reads, IsReadable-reads, LeavesOnly-reads, WritesWithin-reads}
use Rattle.dev_model.specs.Laws.Runs.{EachMoment-join}
use Rattle.table_model.specs.Table.{Table, rows_of}
use Rattle.table_model.specs.Commands.{Write}
use Rattle.table_model.specs.Answers.{after_write}
use Rattle.wal_log.specs.Later.{later}
use Rattle.wal_log.specs.Rules.{records_of}
use Rattle.wal_log.specs.Segments.{segments_of}
use Rattle.wal_log.specs.declared.log.Log.{Log}
use Rattle.format_numbers.specs.declared.TheConstants.{LOG_START}
use Rattle.component_image.specs.Replayed.{replayed}
use Rattle.comp_dir.specs.Directory.{Numbered, directory_of, open_slots}
use Rattle.comp_dir.specs.declared.places.TheConstants.{FIRST_DATA_PAGE}
use Rattle.comp_dir.specs.declared.slots.Slot.{Slot}
use Rattle.page_codec.specs.declared.pages.TheConstants.{PAGE_BYTES}
use Rattle.btree_image.specs.Image.{ShowsTree}
use Rattle.btree_image.specs.Shown.{IsShown}
use Rattle.order_merge.specs.Fitting.{Fits}
use Rattle.order_merge.specs.Views.{lists_of}
use Rattle.order_merge.specs.laws.Living.{Fits-frozen}
use Rattle.device_pages.specs.Lending.{page_bytes, contents_of}
use Rattle.device_pages.specs.Lent.{is_lent}
use Rattle.device_pages.specs.LentPlaces.{IsLentPlace}
use Rattle.device_pages.specs.Laws.Lending.{contents-readable, contents-settled, contents-told, contents-spared, page_bytes-spared}
use Rattle.primary_ix.specs.Components.{AreShown}
use Rattle.primary_ix.specs.Laws.Fitting.{Fits-write}
use Rattle.primary_ix.specs.Rows.{prim_layout}
use Rattle.primary_ix.specs.Reading.{prim_reading}
use Rattle.primary_ix.specs.Wanted.{wanted_rows, written_row}
use Rattle.primary_ix.specs.declared.component.PrimComp.{PrimComp}
use Rattle.primary_ix.specs.declared.rows.PrimRow.{PrimRow}
use Rattle.build_job.specs.Jobs.{described}
use Rattle.build_job.specs.Written.{AreWritten}
use Rattle.component_image.specs.Components.{end_of, IsInExtents}
use Rattle.component_image.specs.Content.{page_at, ShowAll}
use Rattle.component_image.specs.Laid.{table_of}
use Rattle.component_image.specs.Recovered.{primary_of, Recovers}
use Rattle.component_image.specs.Resting.{Rests}
use Rattle.component_image.specs.Laws.Fitting.{fits-logged}
use Rattle.component_image.specs.Laws.Keeping.{elsewhere-rests, elsewhere-images}
use Rattle.component_image.specs.Laws.Showing.{same_lists_shown}
use Rattle.store_state.specs.declared.jobs.JobRow.{JobRow}
use Rattle.store_state.specs.Lists.{Lists, extent_of, frozen_rows, extents_of, trees_of, open_of, placed_up_to, job_of}
use Rattle.store_state.specs.EveryList.{IsLists, IsOpenSlot}
use Rattle.store_state.specs.Steps.{added, begun, frozen_at, installed, one_written}
use Rattle.store_state.specs.Keeping.{IsKept, IsUnderWayIf}
use Rattle.store_state.specs.Reading.{IsLegible}
use Rattle.store_state.specs.Laws.ReadingPages.{one_or_other, lent-first, lent-inside, shown-told, components-open, trees-lent, shown-same}

-- the newest component's last write
end_of-placed : (comps : List Numbered) → end_of (map (λ e. e.1) comps) ≡ placed_up_to comps
end_of-placed [] = refl
end_of-placed (e ∷ comps) = refl

-- a store that nothing has stopped can be read
pub kept-legible : (pages : ℕ) (log : Log) (table : Table) (l : Lists) (s : Story) (kept : IsKept pages log table l s) → IsLegible table kept.held.rests.recovers.lists l s
kept-legible pages log table l s kept =
    let told : contents_of (extents_of l.components) (Some s) ≡ Some (page_bytes s) =
    contents-settled (extents_of l.components) s (λ i place. kept.held.rests.content_calm i (subst (λ (slots : List Slot). IsInExtents slots i) (sym kept.held.components) (lent-inside l.components i place))) in
    let shown : ShowAll (bytes_of s) (map (λ e. e.1) l.components) kept.held.rests.recovers.lists = subst (λ (slots : List Slot). ShowAll (bytes_of s) slots kept.held.rests.recovers.lists) kept.held.components kept.held.rests.recovers.shown in
    let end : end_of (primary_of (bytes_of s)) ≡ placed_up_to l.components = ap end_of kept.held.components ∙ end_of-placed l.components in
    let writes : table ≡ replayed (table_of kept.held.rests.recovers.lists) (kept.held.frozen_writes ++ kept.held.active_writes) =
    kept.held.rests.recovers.table_is ∙ ap (replayed (table_of kept.held.rests.recovers.lists)) (ap (λ (n : ℕ). later n (records_of (segments_of LOG_START (bytes_of s)))) end ∙ kept.held.writes) in
    record {
      shown = shown-told l.components kept.held.rests.recovers.lists (bytes_of s) (contents_of (extents_of l.components) (Some s)) told shown;
      fits = fits-logged table l.active l.frozen kept.held.rests.recovers.lists kept.held.frozen_writes kept.held.active_writes kept.held.frozen_is kept.held.active_is writes;
    }

-- what the components' pages hold is told
told-of : (comps : List PrimComp) (disk : List (List PrimRow)) (contents : Option (ℕ → List ℕ)) → AreShown contents comps disk → (i : ℕ) → i < length comps → (bytes : ℕ → List ℕ) × (contents ≡ Some bytes)
told-of comps disk contents shown i lt =
    let none : PrimComp = record { tree = record { first = 0; rows = 0 } } in
    ((shown.each i none [] lt).bytes, (shown.each i none [] lt).told)

-- calls that touch no page of a component leave the store legible
pub legible-spared : (table : Table) (disk : List (List PrimRow)) (l : Lists) (s : Story) (calls : Calls) → IsLists l → IsLegible table disk l s → ((i : ℕ) → IsLentPlace (extents_of l.components) i → AreSpared calls i)
    → IsLegible table disk l (after s calls)
legible-spared table disk l s calls is legible spared = record {
  shown = shown_after l.components (components-open l is) legible.shown spared;
  fits = legible.fits;
}
  where
    shown_after : (comps : List Numbered) → All (IsOpenSlot l.space.pages) comps → AreShown (contents_of (extents_of comps) (Some s)) (trees_of comps) disk
        → ((i : ℕ) → IsLentPlace (extents_of comps) i → AreSpared calls i) → AreShown (contents_of (extents_of comps) (Some (after s calls))) (trees_of comps) disk
    shown_after [] all shown spared = record { count = shown.count; each = λ i comp list lt. absurd (omega (arith, lt)) }
    shown_after (e ∷ comps) all shown spared =
        let told : (bytes : ℕ → List ℕ) × (contents_of (extents_of (e ∷ comps)) (Some s) ≡ Some bytes) = told-of (trees_of (e ∷ comps)) disk (contents_of (extents_of (e ∷ comps)) (Some s)) shown 0 (omega arith) in
        shown-same (is_lent (extents_of (e ∷ comps))) told.0 (page_bytes (after s calls)) (contents_of (extents_of (e ∷ comps)) (Some s)) (contents_of (extents_of (e ∷ comps)) (Some (after s calls)))
        (trees_of (e ∷ comps)) disk (trees-lent l.space.pages (e ∷ comps) all) told.1
        (contents-spared (extents_of (e ∷ comps)) s calls told.0 told.1 spared)
        (λ page lent. page_bytes-spared (extents_of (e ∷ comps)) s calls page lent spared ∙ ap (λ (f : ℕ → List ℕ). f page) (contents-told (extents_of (e ∷ comps)) s told.0 told.1).1)
        shown

-- nor do calls that write in a range with no page of a component
pub legible-within : (table : Table) (disk : List (List PrimRow)) (l : Lists) (s t : Story) (at count : ℕ) (now : Option Story) → IsLists l → IsLegible table disk l s → WritesWithin at count s now → now ≡ Some t
    → ((i : ℕ) → IsLentPlace (extents_of l.components) i → IsOutside at count i) → IsLegible table disk l t
legible-within table disk l s t at count now is legible within told outside =
    subst (λ (u : Story). IsLegible table disk l u) (same_Some _ _ (sym within.told ∙ told))
    (legible-spared table disk l s within.calls is legible (λ i place. within.spared i (outside i place)))

extents-behind : (pages : ℕ) (comps : List Numbered) → All (IsOpenSlot pages) comps → (i : ℕ) → IsInExtents (map (λ e. e.1) comps) i → FIRST_DATA_PAGE * PAGE_BYTES ≤ i
extents-behind pages [] all i inside = absurd inside
extents-behind pages (e ∷ comps) all i (inl here) = let first : IsOpenSlot pages e = all 0 e (omega arith) in omega (arith, first.sound.extent.from, here.from)
extents-behind pages (e ∷ comps) all i (inr others) = extents-behind pages comps (λ k d lt. all (suc k) d (omega (arith, lt))) i others

-- the pages of the components stand behind the superblock, the slots and the log, so calls that write there leave the store legible
pub legible-before : (table : Table) (disk : List (List PrimRow)) (l : Lists) (s t : Story) (at count : ℕ) (now : Option Story) → IsLists l → IsLegible table disk l s → WritesWithin at count s now → now ≡ Some t
    → at + count ≤ FIRST_DATA_PAGE * PAGE_BYTES → IsLegible table disk l t
legible-before table disk l s t at count now is legible within told low =
    legible-within table disk l s t at count now is legible within told
    (λ i place. let behind : FIRST_DATA_PAGE * PAGE_BYTES ≤ i = extents-behind l.space.pages l.components (components-open l is) i (lent-inside l.components i place) in inr (omega (arith, low, behind)))

sides : (n m : ℕ) → (n < m) ⊎ (m ≤ n)
sides n m = grind arith

-- a place of a lent page is none of a page that isn't lent
other-page : (extents : List Extent) (page i : ℕ) → is_lent extents page ≡ false → IsLentPlace extents i → IsOutside (page * PAGE_BYTES) PAGE_BYTES i
other-page extents page i free place =
    let from : place.page * PAGE_BYTES ≤ i = place.from in
    let to : i < place.page * PAGE_BYTES + PAGE_BYTES = place.to in
    ⊎_elim
    (λ below. inl (omega (arith, below, to)))
    (λ le. ⊎_elim (λ above. inr (omega (arith, above, from))) (λ ge. absurd (both place.page (omega (arith, le, ge)) place.lent)) (sides page place.page))
    (sides place.page page)
  where
    both : (other : ℕ) → other ≡ page → IsTrue (is_lent extents other) → ⊥
    both other same lent = let is : is_lent extents page ≡ true = subst (λ (n : ℕ). is_lent extents n ≡ true) same lent in cc

-- and so do calls that write on a page that no component has
pub legible-elsewhere : (table : Table) (disk : List (List PrimRow)) (l : Lists) (s t : Story) (page : ℕ) (now : Option Story) → IsLists l → IsLegible table disk l s → WritesWithin (page * PAGE_BYTES) PAGE_BYTES s now → now ≡ Some t
    → is_lent (extents_of l.components) page ≡ false → IsLegible table disk l t
legible-elsewhere table disk l s t page now is legible within told free =
    legible-within table disk l s t (page * PAGE_BYTES) PAGE_BYTES now is legible within told (λ i place. other-page (extents_of l.components) page i free place)

-- a row that a write lays
pub legible-added : (table : Table) (disk : List (List PrimRow)) (l : Lists) (s : Story) (write : Write) (had : Bool) → IsLegible table disk l s → IsLegible (after_write table write) disk (added (written_row write) had l) s
legible-added table disk l s write had legible = record {
  shown = legible.shown;
  fits = Fits-write table l.active (option_to_list l.frozen ++ disk) write legible.fits;
}

-- a freeze of the active list
pub legible-frozen : (table : Table) (disk : List (List PrimRow)) (l : Lists) (s : Story) (last : ℕ) → l.frozen ≡ None → IsLegible table disk l s → IsLegible table disk (frozen_at last l) s
legible-frozen table disk l s last none legible = record {
  shown = legible.shown;
  fits = Fits-frozen prim_reading l.active disk (wanted_rows table)
      (subst (λ (frozen : Option (List PrimRow)). Fits prim_reading (lists_of l.active frozen disk) (wanted_rows table)) none legible.fits);
}

-- a job that begins, and a page of it that is written
pub legible-begun : (table : Table) (disk : List (List PrimRow)) (l : Lists) (s : Story) (row : JobRow) → IsLegible table disk l s → IsLegible table disk (begun row l) s
legible-begun table disk l s row legible = record { shown = legible.shown; fits = legible.fits }

pub kept-begun : (pages : ℕ) (log : Log) (table : Table) (l : Lists) (s : Story) (row : JobRow) → IsKept pages log table l s → row.written ≡ 0 → IsKept pages log table (begun row l) s
kept-begun pages log table l s row kept none = record {
  held = record {
    rests = kept.held.rests;
    components = kept.held.components;
    slots = kept.held.slots;
    frozen_writes = kept.held.frozen_writes;
    active_writes = kept.held.active_writes;
    writes = kept.held.writes;
    frozen_is = kept.held.frozen_is;
    active_is = kept.held.active_is;
    active_count = kept.held.active_count;
    rows_are = kept.held.rows_are;
    cut_rows_are = kept.held.cut_rows_are;
  };
  under_way = record { pages = λ n lt. absurd (omega (arith, lt, none)); readable = λ page i lt on. absurd (omega (arith, lt, none)) };
}

pub legible-one_written : (table : Table) (disk : List (List PrimRow)) (l : Lists) (s : Story) → IsLegible table disk l s → IsLegible table disk (one_written l) s
legible-one_written table disk l s legible = record { shown = legible.shown; fits = legible.fits }

-- the pages of two lists of extents are told together
told-together : (e : Extent) (extents : List Extent) (s : Story) (one others : ℕ → List ℕ) → contents_of (e ∷ []) (Some s) ≡ Some one → contents_of extents (Some s) ≡ Some others
    → contents_of (e ∷ extents) (Some s) ≡ Some (page_bytes s)
told-together e extents s one others first rest =
    contents-readable (e ∷ extents) s (λ i place. by_side i place (one_or_other e extents place.page place.lent))
  where
    by_side : (i : ℕ) (place : IsLentPlace (e ∷ extents) i) → IsTrue (is_in place.page e) ⊎ IsTrue (is_lent extents place.page) → IsReadable s.past i
    by_side i place (inl here) = (contents-told (e ∷ []) s one first).0 i (record { page = place.page; lent = lent-first e [] place.page here; from = place.from; to = place.to })
    by_side i place (inr there) = (contents-told extents s others rest).0 i (record { page = place.page; lent = there; from = place.from; to = place.to })

-- one component more in front, whose pages show its list
shown-with : (new : Numbered) (comps : List Numbered) (rows : List PrimRow) (disk : List (List PrimRow)) (s : Story) → IsShown prim_layout (contents_of (extent_of new.1 ∷ []) (Some s)) new.1.first new.1.main_rows rows
    → AreShown (contents_of (extents_of comps) (Some s)) (trees_of comps) disk → AreShown (contents_of (extents_of (new ∷ comps)) (Some s)) (trees_of (new ∷ comps)) (rows ∷ disk)
shown-with new comps rows disk s pages shown = by_rest comps shown
  where
    bytes_are : page_bytes s ≡ pages.bytes
    bytes_are = (contents-told (extent_of new.1 ∷ []) s pages.bytes pages.told).1

    in_front : (comps : List Numbered) → contents_of (extents_of (new ∷ comps)) (Some s) ≡ Some (page_bytes s) → AreShown (contents_of (extents_of (new ∷ comps)) (Some s)) (trees_of comps) disk
        → AreShown (contents_of (extents_of (new ∷ comps)) (Some s)) (trees_of (new ∷ comps)) (rows ∷ disk)
    in_front comps told rest = record { count = ap suc rest.count; each = each }
      where
        each : (i : ℕ) (comp : PrimComp) (list : List PrimRow) → i < length (trees_of (new ∷ comps))
            → IsShown prim_layout (contents_of (extents_of (new ∷ comps)) (Some s)) (get_or (trees_of (new ∷ comps)) i comp).tree.first (get_or (trees_of (new ∷ comps)) i comp).tree.rows (get_or (rows ∷ disk) i list)
        each zero comp list lt = record {
          bytes = page_bytes s;
          told = told;
          is = pages.is;
          shows = subst (λ (bytes : ℕ → List ℕ). ShowsTree prim_layout rows new.1.first bytes) (sym bytes_are) pages.shows;
        }
        each (suc i) comp list lt = rest.each i comp list (omega (arith, lt))

    by_rest : (comps : List Numbered) → AreShown (contents_of (extents_of comps) (Some s)) (trees_of comps) disk → AreShown (contents_of (extents_of (new ∷ comps)) (Some s)) (trees_of (new ∷ comps)) (rows ∷ disk)
    by_rest [] shown = in_front [] (pages.told ∙ ap (λ (bytes : ℕ → List ℕ). Some bytes) (sym bytes_are)) (record { count = shown.count; each = λ i comp list lt. absurd (omega (arith, lt)) })
    by_rest (e ∷ comps) shown =
        let others : (bytes : ℕ → List ℕ) × (contents_of (extents_of (e ∷ comps)) (Some s) ≡ Some bytes) = told-of (trees_of (e ∷ comps)) disk (contents_of (extents_of (e ∷ comps)) (Some s)) shown 0 (omega arith) in
        let told : contents_of (extents_of (new ∷ e ∷ comps)) (Some s) ≡ Some (page_bytes s) = told-together (extent_of new.1) (extents_of (e ∷ comps)) s pages.bytes others.0 pages.told others.1 in
        let same : contents_of (extents_of (e ∷ comps)) (Some s) ≡ Some (page_bytes s) = others.1 ∙ ap (λ (bytes : ℕ → List ℕ). Some bytes) (sym (contents-told (extents_of (e ∷ comps)) s others.0 others.1).1) in
        in_front (e ∷ comps) told (subst (λ (contents : Option (ℕ → List ℕ)). AreShown contents (trees_of (e ∷ comps)) disk) (same ∙ sym told) shown)

-- an install of the frozen list, whose pages show it
pub legible-installed : (table : Table) (disk : List (List PrimRow)) (l : Lists) (s : Story) (row : JobRow) (rows : List PrimRow) → l.frozen ≡ Some rows
    → IsShown prim_layout (contents_of (row.plan.extent ∷ []) (Some s)) row.plan.extent.first (length rows) rows → IsLegible table disk l s → IsLegible table (rows ∷ disk) (installed row l) s
legible-installed table disk l s row rows waits pages legible =
    let count : length rows ≡ length (frozen_rows l.frozen) = ap (λ (frozen : Option (List PrimRow)). length (frozen_rows frozen)) (sym waits) in
    record {
      shown = shown-with (row.plan.slot, described (job_of l row)) l.components rows disk s
          (subst (λ (n : ℕ). IsShown prim_layout (contents_of (row.plan.extent ∷ []) (Some s)) row.plan.extent.first n rows) count pages) legible.shown;
      fits = placed (subst (λ (frozen : Option (List PrimRow)). Fits prim_reading (lists_of l.active frozen disk) (wanted_rows table)) waits legible.fits);
    }
  where
    placed : Fits prim_reading (lists_of l.active (Some rows) disk) (wanted_rows table) → Fits prim_reading (lists_of l.active None (rows ∷ disk)) (wanted_rows table)
    placed fits = fits

-- what pages of the components hold is told behind reads as before them
contents-read : (Within : ℕ → ℕ → Type 0) (extents : List Extent) (s : Story) (calls : Calls) → AreReadsWithin Within calls → contents_of extents (Some (after s calls)) ≡ contents_of extents (Some s)
contents-read Within extents s [] reads = refl
contents-read Within extents s (Read at count ∷ calls) reads = contents-read Within extents (with_call s (Read at count)) calls reads.1
contents-read Within extents s (FailedCall ∷ calls) reads = contents-read Within extents (with_call s FailedCall) calls reads
contents-read Within extents s (Written at new ∷ calls) reads = absurd reads
contents-read Within extents s (Sync ∷ calls) reads = absurd reads
contents-read Within extents s (FailedWrite at new ∷ calls) reads = absurd reads

-- and so a store that is legible behind reads was so before them
pub legible-before_reads : (Within : ℕ → ℕ → Type 0) (table : Table) (disk : List (List PrimRow)) (l : Lists) (s t : Story) (now : Option Story) → ReadsWithin Within s now → now ≡ Some t → IsLegible table disk l t → IsLegible table disk l s
legible-before_reads Within table disk l s t now run told legible =
    let there : after s run.calls ≡ t = same_Some _ _ (sym run.told ∙ told) in
    record {
      shown = subst (λ (contents : Option (ℕ → List ℕ)). AreShown contents (trees_of l.components) disk)
          (ap (λ (u : Story). contents_of (extents_of l.components) (Some u)) (sym there) ∙ contents-read Within (extents_of l.components) s run.calls run.reads) legible.shown;
      fits = legible.fits;
    }

-- Calls that only read leave a store at rest, with what it keeps.
module _ (Within : ℕ → ℕ → Type 0) (s : Story) (now : Option Story) (run : ReadsWithin Within s now) where
  nowhere : WritesWithin 0 0 s now
  nowhere = WritesWithin-reads Within 0 0 s now run

  module _ (t : Story) (told : now ≡ Some t) where
    there : after s run.calls ≡ t
    there = same_Some _ _ (sym run.told ∙ told)

    bytes_same : bytes_of t ≡ bytes_of s
    bytes_same = ap bytes_of (sym there) ∙ bytes_of-reads Within s run.calls run.reads

    pub legible-reads : (table : Table) (disk : List (List PrimRow)) (l : Lists) → IsLists l → IsLegible table disk l s → IsLegible table disk l t
    legible-reads table disk l is legible = legible-within table disk l s t 0 0 now is legible nowhere told (λ i place. inr (omega arith))

    rests-reads : (pages : ℕ) (log : Log) (table : Table) → Rests pages log table s → Rests pages log table t
    rests-reads pages log table rest = elsewhere-rests pages log table s t 0 0 now rest nowhere told (λ i is. inr (omega arith)) (inl (omega arith))

    under_way-reads : (l : Lists) (job : Option JobRow) → IsUnderWayIf l job s → IsUnderWayIf l job t
    under_way-reads l None is = tt
    under_way-reads l (Some row) is = record {
      pages = subst (λ (bytes : Bytes). AreWritten (job_of l row) (page_at bytes)) (sym bytes_same) is.pages;
      readable = λ page i lt on. subst (λ (u : Story). IsReadable u.past i) there (IsReadable-reads Within s run.calls i run.reads (is.readable page i lt on));
    }

    pub kept-reads : (pages : ℕ) (log : Log) (table : Table) (l : Lists) → IsKept pages log table l s → IsKept pages log table l t
    kept-reads pages log table l kept =
        let rests : Rests pages log table t = rests-reads pages log table kept.held.rests in
        let lists : kept.held.rests.recovers.lists ≡ rests.recovers.lists =
        same_lists_shown (bytes_of s) (primary_of (bytes_of s)) kept.held.rests.recovers.lists rests.recovers.lists kept.held.rests.recovers.shown
        (subst (λ (bytes : Bytes). ShowAll bytes (primary_of bytes) rests.recovers.lists) bytes_same rests.recovers.shown) in
        record {
          held = record {
            rests = rests;
            components = ap primary_of bytes_same ∙ kept.held.components;
            slots = subst (λ (bytes : Bytes). (e : Numbered) → Contains (open_slots (directory_of bytes)) e ↔ Contains (open_of l) e) (sym bytes_same) kept.held.slots;
            frozen_writes = kept.held.frozen_writes;
            active_writes = kept.held.active_writes;
            writes = ap (λ (bytes : Bytes). later (placed_up_to l.components) (records_of (segments_of LOG_START bytes))) bytes_same ∙ kept.held.writes;
            frozen_is = kept.held.frozen_is;
            active_is = kept.held.active_is;
            active_count = kept.held.active_count;
            rows_are = kept.held.rows_are;
            cut_rows_are = kept.held.cut_rows_are ∙ ap (λ (disk : List (List PrimRow)). length (rows_of (replayed (table_of disk) kept.held.frozen_writes))) lists;
          };
          under_way = under_way-reads l l.job kept.under_way;
        }

  -- each crash during them leaves the table
  pub images-reads : (pages : ℕ) (log : Log) (table : Table) → Rests pages log table s → LeavesOnly s now (Recovers pages table)
  images-reads pages log table rest = record {
    calls = run.calls;
    told = run.told;
    each = elsewhere-images pages log table s (after s run.calls) 0 0 now rest nowhere run.told (λ i is. inr (omega arith)) (inl (omega arith));
  }

-- What each image of each moment so far has, it has at each moment of calls that only read, where it doesn't go with time.
pub moments-reads : (Within : ℕ → ℕ → Type 0) (from : ℕ) (s t : Story) (now : Option Story) (P : ℕ → Bytes → Type 0) → ReadsWithin Within s now → now ≡ Some t → from ≤ clock_of s
    → ((m : ℕ) (image : Bytes) → clock_of s ≤ m → P (clock_of s) image → P m image) → EachMoment from s P → EachMoment from t P
moments-reads Within from s t now P run told before later each =
    let left : LeavesOnly s now (IsImageNow s) = LeavesOnly-reads Within s now run in
    subst (λ (u : Story). EachMoment from u P) (same_Some _ _ (sym left.told ∙ told))
    (EachMoment-join from s left.calls P each
    (λ m le_from le_to image is. later m image le_from (each (clock_of s) before (omega arith) image (IsImage-at_now s image (left.each m le_from le_to image is)))))
