-- Each step keeps what is true of the lists.
use Rattle.std.proofs.Common.{◌≡◌, ℕ, ◌<◌, ◌≤◌, List, ◌∷◌, ◌++◌, length, Option, Some, None, All, arith, ap, refl, sym, ◌∙◌, subst}
use Rattle.std.proofs.lemmas.List.Elements.{All-cons}
use Rattle.btree_image.specs.Rows.{IsStored}
use Rattle.order_merge.specs.Adding.{with_entry}
use Rattle.order_merge.specs.Ascending.{Ascends}
use Rattle.space_map.specs.Space.{Space, is_reserved}
use Rattle.space_map.specs.Calls.{IsSpace}
use Rattle.space_map.specs.declared.space.TheConstants.{LEAST_PAGES, MOST_PAGES}
use Rattle.order_merge.specs.laws.Adding.{Ascends-with_entry, All-with_entry}
use Rattle.comp_dir.specs.Directory.{Numbered}
use Rattle.comp_dir.specs.declared.places.TheConstants.{LSN_LIMIT, MOST_LIVE}
use Rattle.comp_dir.specs.declared.slots.Slot.{Slot}
use Rattle.primary_ix.specs.Kinds.{prim_key_order}
use Rattle.primary_ix.specs.Rows.{prim_layout}
use Rattle.primary_ix.specs.Reading.{prim_reading}
use Rattle.primary_ix.specs.declared.rows.PrimRow.{PrimRow}
use Rattle.build_job.specs.Jobs.{described}
use Rattle.store_state.specs.declared.jobs.JobRow.{JobRow}
use Rattle.store_state.specs.Laws.Planned.{job-IsPlanned, planned-IsSound}
use Rattle.store_state.specs.Lists.{Lists, job_of, extents_of, open_of}
use Rattle.store_state.specs.EveryList.{IsLists, IsPlanned, IsPlannedIf, IsOpenSlot, job_extents}
use Rattle.store_state.specs.Opened.{opened}
use Rattle.store_state.specs.Steps.{installed}

-- the lists with other rows in memory
abbrev pub with_active : List PrimRow → ℕ → Lists → Lists
with_active active rows l = record l { active = active; rows = rows }

planned-kept : (l : Lists) (active : List PrimRow) (rows : ℕ) (job : Option JobRow) → IsPlannedIf l job → IsPlannedIf (with_active active rows l) job
planned-kept l active rows None planned = tt
planned-kept l active rows (Some row) planned = record {
  frozen = planned.frozen;
  index = planned.index;
  pages = planned.pages;
  from = planned.from;
  to = planned.to;
  free = planned.free;
  slot = planned.slot;
  closed = planned.closed;
  room = planned.room;
  written = planned.written;
}

-- a row that is laid
pub laid-IsLists : (l : Lists) (row : PrimRow) (active : List PrimRow) (rows : ℕ) → active ≡ with_entry prim_reading row l.active → IsStored prim_layout row → IsLists l
    → IsLists (with_active active rows l)
laid-IsLists l row active rows is stored lists = record {
  active_ascends = subst (λ es. Ascends prim_reading es) (sym is) (Ascends-with_entry prim_reading prim_key_order row l.active lists.active_ascends);
  active_stored = subst (All (IsStored prim_layout)) (sym is) (All-with_entry prim_reading prim_key_order (IsStored prim_layout) row l.active stored lists.active_stored);
  frozen_ascends = lists.frozen_ascends;
  frozen_stored = lists.frozen_stored;
  is_cut = lists.is_cut;
  few = lists.few;
  slots = lists.slots;
  least = lists.least;
  most = lists.most;
  space = lists.space;
  reserved = lists.reserved;
  planned = planned-kept l active rows l.job lists.planned;
}

-- a component that is installed
installed-IsLists : (l : Lists) (row : JobRow) (lists : IsLists l) (planned : IsPlanned l row) → l.job ≡ Some row → l.cut < LSN_LIMIT → IsLists (installed row l)
installed-IsLists l row lists planned is below = record {
  active_ascends = lists.active_ascends;
  active_stored = lists.active_stored;
  frozen_ascends = λ i j d h k. absurd (omega arith);
  frozen_stored = λ k d h. absurd (omega arith);
  is_cut = refl;
  few = let room = planned.room in omega arith;
  slots =
      All-cons (IsOpenSlot l.space.pages) (row.plan.slot, described (job_of l row)) (open_of l)
      (record { number = planned.slot; sound = planned-IsSound l row lists planned 0 below }) lists.slots;
  least = lists.least;
  most = lists.most;
  space = lists.space;
  reserved = λ page. lists.reserved page ∙ ap (λ job. is_reserved (job_extents job ++ extents_of (open_of l)) page) is;
  planned = tt;
}

-- and so are the lists to which its slot is handed
pub installed-as : (l : Lists) (row : JobRow) (components : List Numbered) (slot : Slot) → IsLists l → l.job ≡ Some row → l.cut < LSN_LIMIT
    → slot ≡ described (job_of l row) → components ≡ (row.plan.slot, slot) ∷ l.components → IsLists (record (installed row l) { components = components })
installed-as l row components slot lists is below slot_is to =
    let same : components ≡ (row.plan.slot, described (job_of l row)) ∷ l.components = to ∙ ap (λ (s : Slot). (row.plan.slot, s) ∷ l.components) slot_is in
    subst (λ (all : List Numbered). IsLists (record (installed row l) { components = all })) (sym same)
    (installed-IsLists l row lists (job-IsPlanned l row lists is) is below)

-- the lists of a store that is opened
pub opened-IsLists : (components ignored : List Numbered) (space : Space) → length components ≤ MOST_LIVE → All (IsOpenSlot space.pages) (components ++ ignored)
    → LEAST_PAGES ≤ space.pages → space.pages ≤ MOST_PAGES → IsSpace space
    → ((page : ℕ) → is_reserved space.reserved page ≡ is_reserved (extents_of (components ++ ignored)) page)
    → IsLists (opened components ignored space)
opened-IsLists components ignored space few slots least most is reserved = record {
  active_ascends = λ i j d h k. absurd (omega arith);
  active_stored = λ k d h. absurd (omega arith);
  frozen_ascends = λ i j d h k. absurd (omega arith);
  frozen_stored = λ k d h. absurd (omega arith);
  is_cut = refl;
  few = few;
  slots = slots;
  least = least;
  most = most;
  space = is;
  reserved = reserved;
  planned = tt;
}
