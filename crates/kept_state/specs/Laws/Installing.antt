-- A component whose pages are written may be installed. No public contract needs these laws.
use Rattle.std.proofs.Common.{◌≡◌, ◌≢◌, ◌⊎◌, inl, inr, ℕ, zero, suc, ◌+◌, ◌<◌, ◌≤◌, ◌==◌, List, [], ◌∷◌, ◌++◌, length, map, get_or, Option, Some, None, Bool, true, false, IsTrue, ◌||◌, if◌then◌else◌, All, Any, Contains, max, refl, sym, ◌∙◌, ap, subst, arith, nat_le}
use Rattle.std.proofs.lemmas.Bool.Decides.{nat_tests}
use Rattle.std.proofs.lemmas.List.{length-map}
use Rattle.std.proofs.lemmas.List.Elements.{All-contains, All-contains_itself}
use Rattle.std.specs.List.{filter}
use Rattle.dev_model.specs.Story.{Bytes, Story, bytes_of}
use Rattle.table_model.specs.Table.{Table, rows_of}
use Rattle.wal_log.specs.Later.{later}
use Rattle.wal_log.specs.Laws.Later.{opens-newest}
use Rattle.wal_log.specs.Rules.{records_of}
use Rattle.wal_log.specs.Segments.{segments_of}
use Rattle.wal_log.specs.declared.log.Log.{Log}
use Rattle.wal_log.specs.declared.records.Record.{Record}
use Rattle.format_numbers.specs.declared.TheConstants.{LOG_START}
use Rattle.space_map.specs.Space.{is_in, is_reserved}
use Rattle.comp_dir.specs.Adding.{MayBeAdded}
use Rattle.comp_dir.specs.Choosing.{live_slots, same_index, shares_page}
use Rattle.comp_dir.specs.Directory.{Directory, Numbered, directory_of, open_from, open_slots}
use Rattle.comp_dir.specs.Laws.Adding.{opens-with_slot}
use Rattle.comp_dir.specs.Laws.Agreeing.{length-slots_from}
use Rattle.comp_dir.specs.Rules.{IsSound}
use Rattle.comp_dir.specs.Slots.{slot_bytes, slot_of}
use Rattle.comp_dir.specs.declared.places.TheConstants.{MOST_LIVE, PRIMARY, SLOTS}
use Rattle.comp_dir.specs.declared.slots.Slot.{Slot}
use Rattle.btree_image.specs.Image.{ShowsTree}
use Rattle.btree_image.specs.Rows.{Ascends, IsStored}
use Rattle.primary_ix.specs.Rows.{prim_layout}
use Rattle.primary_ix.specs.declared.rows.PrimRow.{PrimRow}
use Rattle.build_job.specs.Jobs.{described}
use Rattle.build_job.specs.Steps.{IsJob, steps_left}
use Rattle.build_job.specs.Laws.Showing.{AreWritten-shows}
use Rattle.component_image.specs.Changes.{changed}
use Rattle.component_image.specs.Components.{placed, newest_first, components, end_of}
use Rattle.component_image.specs.Content.{page_at}
use Rattle.component_image.specs.Laid.{table_of}
use Rattle.component_image.specs.Recovered.{primary_of}
use Rattle.component_image.specs.Standing.{MayStand}
use Rattle.component_image.specs.Laws.Added.{added-newest}
use Rattle.component_image.specs.Laws.Components.{AllOf, AllOf-weaker, AllOf-filter, newest_first-all}
use Rattle.component_image.specs.Laws.Laid.{laid-changed}
use Rattle.component_image.specs.Laws.Newest.{All-of, open-behind}
use Rattle.store_state.specs.declared.jobs.JobRow.{JobRow}
use Rattle.store_state.specs.Lists.{Lists, open_of, extent_of, extents_of, frozen_rows, job_of, placed_up_to}
use Rattle.store_state.specs.EveryList.{IsLists, IsPlanned, IsPlannedIf, IsCut}
use Rattle.kept_state.specs.Laws.Records.{newest-are}
use Rattle.store_state.specs.Keeping.{IsKept, IsFrozenOf, IsUnderWay, IsUnderWayIf}
use Rattle.store_state.specs.Numbered.{IsNumbered}

pub length-directory : (bytes : Bytes) → length (directory_of bytes) ≡ SLOTS
unfolding directory_of
length-directory bytes = length-slots_from SLOTS 0 bytes

-- a number that no open slot has is closed
shut-at : (first n : ℕ) (slots : Directory) → AllOf (λ e. e.0 ≢ first + n) (open_from first slots) → get_or slots n None ≡ None
shut-at first n [] all = refl
shut-at first zero (None ∷ slots) all = refl
shut-at first zero (Some body ∷ slots) all = absurd (all.0 (omega arith))
shut-at first (suc n) (None ∷ slots) all =
    let e : first + suc n ≡ first + 1 + n = omega arith in
    shut-at (first + 1) n slots (subst (λ (m : ℕ). AllOf (λ e. e.0 ≢ m) (open_from (first + 1) slots)) e all)
shut-at first (suc n) (Some body ∷ slots) all =
    let e : first + suc n ≡ first + 1 + n = omega arith in
    shut-at (first + 1) n slots (subst (λ (m : ℕ). AllOf (λ e. e.0 ≢ m) (open_from (first + 1) slots)) e all.1)

AllOf-from : {X : Type 0} (P : X → Type 0) (xs : List X) → All P xs → AllOf P xs
AllOf-from P [] all = tt
AllOf-from P (x ∷ xs) all = (all 0 x (omega arith), AllOf-from P xs (λ k d lt. all (suc k) d (omega (arith, lt))))

-- what holds of each element of a list holds of each of one whose elements are among them
among : {X : Type 0} (P : X → Type 0) (xs ys : List X) → ((x : X) → Contains xs x → Contains ys x) → All P ys → All P xs
among P xs ys inside all k d lt = All-contains P ys _ all (inside _ (All-contains_itself xs k d lt))

-- an extent of free pages shares none with those of open slots
apart-all : (new : Slot) (es : List Numbered) → 1 ≤ new.pages → ((page : ℕ) → IsTrue (is_in page (extent_of new)) → is_reserved (extents_of es) page ≡ false)
    → AllOf (λ e. shares_page e.1 new ≡ false) es
apart-all new [] some free = tt
apart-all new (e ∷ es) some free = (
  by_test (shares_page e.1 new) refl,
  apart-all new es some (λ page inside. or_right (is_in page (extent_of e.1)) (is_reserved (extents_of es) page) (free page inside)),
)
  where
    or_right : (a b : Bool) → (a || b) ≡ false → b ≡ false
    or_right true b is = absurd (let no : true ≡ false = is in cc)
    or_right false b is = is

    or_left : (a b : Bool) → (a || b) ≡ false → a ≡ false
    or_left true b is = is
    or_left false b is = refl

    by_test : (b : Bool) → shares_page e.1 new ≡ b → b ≡ false
    by_test false is = refl
    by_test true is =
        let page : ℕ = max e.1.first new.first in
        let ours : is_in page (extent_of new) ≡ true = grind (arith, nat_tests, is) in
        let theirs : is_in page (extent_of e.1) ≡ true = grind (arith, nat_tests, is) in
        let none : is_in page (extent_of e.1) ≡ false = or_left (is_in page (extent_of e.1)) (is_reserved (extents_of es) page) (free page ours) in
        sym theirs ∙ none

-- the last write of the components
ends-up_to : (es : List Numbered) → end_of (map (λ e. e.1) es) ≡ placed_up_to es
ends-up_to [] = refl
ends-up_to (e ∷ es) = refl

length-behind : (s : Slot) (slots : List Slot) → length (placed s slots) ≡ suc (length slots)
length-behind s [] = refl
length-behind s (t ∷ slots) = go (nat_le t.last_lsn s.last_lsn) (length-behind s slots)
  where
    go : (b : Bool) → length (placed s slots) ≡ suc (length slots) → length (if b then s ∷ t ∷ slots else t ∷ placed s slots) ≡ suc (suc (length slots))
    go true rest = refl
    go false rest = ap suc rest

length-placed : (es : List Numbered) → length (newest_first es) ≡ length es
length-placed [] = refl
length-placed (e ∷ es) = length-behind e.1 (newest_first es) ∙ ap suc (length-placed es)

module _ (pages : ℕ) (log : Log) (table : Table) (l : Lists) (s : Story) (row : JobRow) (kept : IsKept pages log table l s) (lists : IsLists l) (numbered : IsNumbered log l) (is : l.job ≡ Some row)
    (job : IsJob (job_of l row)) (done : steps_left (job_of l row) ≡ 0) (sound : IsSound pages 0 (described (job_of l row)))
    (back : slot_of (slot_bytes (described (job_of l row))) ≡ described (job_of l row)) where
  abbrev new : Slot
  new = described (job_of l row)

  abbrev slots : Directory
  slots = directory_of (bytes_of s)

  planned : IsPlanned l row
  planned = subst (IsPlannedIf l) is lists.planned

  under_way : IsUnderWay l row s
  under_way = subst (λ (j : Option JobRow). IsUnderWayIf l j s) is kept.under_way

  to_lists : (e : Numbered) → Contains (open_slots slots) e → Contains (open_of l) e
  to_lists e here = (kept.held.slots e).0 here

  primary_end : end_of (primary_of (bytes_of s)) ≡ placed_up_to l.components
  primary_end = ap end_of kept.held.components ∙ ends-up_to l.components

  apart : All (λ e. shares_page e.1 new ≡ false) (open_slots slots)
  apart =
      among (λ e. shares_page e.1 new ≡ false) (open_slots slots) (open_of l) to_lists
      (All-of (λ e. shares_page e.1 new ≡ false) (open_of l) (apart-all new (open_of l) sound.extent.some planned.free))

  newer : All (λ e. e.1.index ≡ new.index → e.1.last_lsn < new.first_lsn) (open_slots slots)
  newer k d lt primary =
      let ends : _ = open-behind pages 0 PRIMARY slots kept.held.rests.recovers.opens.directory k d lt primary in
      omega (arith, ends, primary_end)

  -- a component of the primary is live
  live-component : (of_list : List Slot) → components PRIMARY slots ≡ of_list → AllOf (λ t. Any (λ e. (e.1.index ≡ PRIMARY) × (e.1 ≡ t)) (live_slots (open_slots slots))) of_list
  live-component of_list are =
      subst (AllOf (λ t. Any (λ e. (e.1.index ≡ PRIMARY) × (e.1 ≡ t)) (live_slots (open_slots slots)))) are
      (newest_first-all (λ t. Any (λ e. (e.1.index ≡ PRIMARY) × (e.1 ≡ t)) (live_slots (open_slots slots))) (filter (λ e. e.1.index == PRIMARY) (live_slots (open_slots slots)))
      (AllOf-weaker (λ e. ((e.1.index == PRIMARY) ≡ true) × Contains (live_slots (open_slots slots)) e) (λ e. Any (λ f. (f.1.index ≡ PRIMARY) × (f.1 ≡ e.1)) (live_slots (open_slots slots)))
      (filter (λ e. e.1.index == PRIMARY) (live_slots (open_slots slots)))
      (λ e both. (both.1.0, e, both.1.1, both.1.2, (grind (arith, nat_tests, both.0), refl)))
      (AllOf-filter (Contains (live_slots (open_slots slots))) (λ e. e.1.index == PRIMARY) (live_slots (open_slots slots))
      (AllOf-from (Contains (live_slots (open_slots slots))) (live_slots (open_slots slots)) (All-contains_itself (live_slots (open_slots slots)))))))

  follows : (new.first_lsn ≡ 1) ⊎ Any (λ e. (e.1.index ≡ new.index) × (e.1.last_lsn + 1 ≡ new.first_lsn)) (live_slots (open_slots slots))
  follows = by_first l.components refl
    where
      by_first : (es : List Numbered) → l.components ≡ es → (new.first_lsn ≡ 1) ⊎ Any (λ e. (e.1.index ≡ new.index) × (e.1.last_lsn + 1 ≡ new.first_lsn)) (live_slots (open_slots slots))
      by_first [] are = inl (ap (λ (es : List Numbered). placed_up_to es + 1) are)
      by_first (e ∷ es) are =
          let found : Any (λ f. (f.1.index ≡ PRIMARY) × (f.1 ≡ e.1)) (live_slots (open_slots slots)) = (live-component (e.1 ∷ map (λ f. f.1) es) (kept.held.components ∙ ap (map (λ f. f.1)) are)).0 in
          inr (found.0, found.1, found.2, found.3, (found.4.0, ap (λ (t : Slot). t.last_lsn + 1) found.4.1 ∙ sym (ap (λ (fs : List Numbered). placed_up_to fs + 1) are)))

  room : length (filter (λ e. same_index e.1 new) (live_slots (open_slots slots))) < MOST_LIVE
  room =
      let placed_all : length (components PRIMARY slots) ≡ length (filter (λ e. e.1.index == PRIMARY) (live_slots (open_slots slots))) = length-placed (filter (λ e. e.1.index == PRIMARY) (live_slots (open_slots slots))) in
      let are : length (components PRIMARY slots) ≡ length l.components = ap length kept.held.components ∙ length-map l.components (λ e. e.1) in
      omega (arith, placed_all, are, planned.room)

  pub may-be-added : MayBeAdded pages 0 row.plan.slot new slots
  may-be-added = record {
    opens = kept.held.rests.recovers.opens.directory;
    inside = inside;
    closed = shut-at 0 row.plan.slot slots (AllOf-from (λ e. e.0 ≢ 0 + row.plan.slot) (open_slots slots) closed);
    sound = sound;
    read_back = back;
    addable = record { apart = apart; newer = newer; follows = follows; room = room };
  }
    where
      inside : row.plan.slot < length slots
      inside = omega (arith, planned.slot, length-directory (bytes_of s))

      closed : All (λ e. e.0 ≢ 0 + row.plan.slot) (open_slots slots)
      closed k d lt same = among (λ e. e.0 ≢ row.plan.slot) (open_slots slots) (open_of l) to_lists planned.closed k d lt (omega (arith, same))

  -- the records behind the cut are those of the active list
  pub active-later : later l.cut (records_of (segments_of LOG_START (bytes_of s))) ≡ kept.held.active_writes
  active-later =
      newest-are log (segments_of LOG_START (bytes_of s)) (placed_up_to l.components) l.cut kept.held.frozen_writes kept.held.active_writes kept.held.rests.log_of below numbered.next kept.held.writes kept.held.active_count
    where
      below : placed_up_to l.components ≤ l.cut
      below = by_list l.frozen lists.is_cut
        where
          by_list : (rows : Option (List PrimRow)) → IsCut rows (placed_up_to l.components) l.cut → placed_up_to l.components ≤ l.cut
          by_list None is_cut = omega (arith, is_cut)
          by_list (Some rows) is_cut = omega (arith, is_cut)

  pub may-stand : MayStand pages s row.plan.slot new kept.held.frozen_writes kept.held.rests.recovers.lists
  may-stand = record {
    below = planned.slot;
    behind = planned.from;
    directory = opens-with_slot pages 0 row.plan.slot new slots may-be-added;
    components_are = added-newest pages row.plan.slot new slots may-be-added refl;
    shown = kept.held.rests.recovers.shown;
    shows = record {
      is = record { count = ap length (sym rows_are); ascends = subst (Ascends prim_layout) rows_are lists.frozen_ascends; stored = subst (All (IsStored prim_layout)) rows_are lists.frozen_stored };
      shows = subst (λ (rows : List PrimRow). ShowsTree prim_layout rows new.first (page_at (bytes_of s))) rows_are (AreWritten-shows (job_of l row) (page_at (bytes_of s)) job done under_way.pages);
    };
    counts = kept.held.cut_rows_are ∙ ap (λ (t : Table). length (rows_of t)) (sym (laid-changed [] kept.held.frozen_writes (table_of kept.held.rests.recovers.lists)));
    log = opens-newest log (segments_of LOG_START (bytes_of s)) l.cut kept.held.rests.log_of numbered.next;
    split = ap (λ (n : ℕ). later n (records_of (segments_of LOG_START (bytes_of s)))) primary_end ∙ kept.held.writes ∙ ap (λ (rs : List Record). kept.held.frozen_writes ++ rs) (sym active-later);
  }
    where
      rows_are : frozen_rows l.frozen ≡ changed [] kept.held.frozen_writes
      rows_are = by_list l.frozen refl
        where
          by_list : (rows : Option (List PrimRow)) → l.frozen ≡ rows → frozen_rows l.frozen ≡ changed [] kept.held.frozen_writes
          by_list None none = absurd (planned.frozen none)
          by_list (Some rows) some = ap frozen_rows some ∙ subst (λ (o : Option (List PrimRow)). IsFrozenOf o kept.held.frozen_writes) some kept.held.frozen_is
