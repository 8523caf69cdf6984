-- What is true of the lists of every store.
use Rattle.std.specs.Prelude.{◌≡◌, ◌≢◌, ℕ, ◌+◌, ◌<◌, ◌≤◌, false, IsTrue, List, [], ◌∷◌, ◌++◌, length, Option, Some, None, All}
use Rattle.btree_image.specs.Rows.{IsStored}
use Rattle.btree_image.specs.Image.{shape_of}
use Rattle.order_merge.specs.Ascending.{Ascends}
use Rattle.space_map.specs.Space.{is_in, is_reserved}
use Rattle.space_map.specs.Calls.{IsSpace}
use Rattle.space_map.specs.declared.space.Extent.{Extent}
use Rattle.space_map.specs.declared.space.TheConstants.{LEAST_PAGES, MOST_PAGES}
use Rattle.comp_dir.specs.Directory.{Numbered}
use Rattle.comp_dir.specs.Parts.{HasPages}
use Rattle.comp_dir.specs.Rules.{IsSound}
use Rattle.comp_dir.specs.declared.places.TheConstants.{FIRST_DATA_PAGE, MOST_LIVE, PRIMARY, SLOTS}
use Rattle.primary_ix.specs.Rows.{prim_layout}
use Rattle.primary_ix.specs.Reading.{prim_reading}
use Rattle.primary_ix.specs.declared.rows.PrimRow.{PrimRow}
use Rattle.store_state.specs.declared.jobs.JobRow.{JobRow}
use Rattle.store_state.specs.Lists.{Lists, open_of, extents_of, placed_up_to, frozen_rows}

-- the extent of the job
abbrev pub job_extents : Option JobRow → List Extent
job_extents None = []
job_extents (Some row) = row.plan.extent ∷ []

-- where nothing is frozen the components have each write up to the cut, and else they have fewer
abbrev pub IsCut : Option (List PrimRow) → (placed cut : ℕ) → Type 0
IsCut None placed cut = cut ≡ placed
IsCut (Some rows) placed cut = placed < cut

-- An open slot of a device of so many pages. The primary alone has components yet.
pub record IsOpenSlot (pages : ℕ) (e : Numbered) : Type 0 where
  pub number : e.0 < SLOTS
  pub sound : IsSound pages 0 e.1

-- Where a job writes: an extent of free pages that has the image of the frozen list, and a slot that is closed.
pub record IsPlanned (l : Lists) (row : JobRow) : Type 0 where
  pub frozen : l.frozen ≢ None
  pub index : row.plan.index ≡ PRIMARY
  pub pages : HasPages (shape_of prim_layout (length (frozen_rows l.frozen))) row.plan.extent.pages
  pub from : FIRST_DATA_PAGE ≤ row.plan.extent.first
  pub to : row.plan.extent.first + row.plan.extent.pages ≤ l.space.pages
  pub free : (page : ℕ) → IsTrue (is_in page row.plan.extent) → is_reserved (extents_of (open_of l)) page ≡ false
  pub slot : row.plan.slot < SLOTS
  pub closed : All (λ e. e.0 ≢ row.plan.slot) (open_of l)
  pub room : length l.components < MOST_LIVE
  pub written : row.written ≤ row.plan.extent.pages

abbrev pub IsPlannedIf : Lists → Option JobRow → Type 0
IsPlannedIf l None = Unit {0}
IsPlannedIf l (Some row) = IsPlanned l row

-- what is true of the lists of every store
pub record IsLists (l : Lists) : Type 0 where
  pub active_ascends : Ascends prim_reading l.active
  pub active_stored : All (IsStored prim_layout) l.active
  pub frozen_ascends : Ascends prim_reading (frozen_rows l.frozen)
  pub frozen_stored : All (IsStored prim_layout) (frozen_rows l.frozen)
  pub is_cut : IsCut l.frozen (placed_up_to l.components) l.cut
  pub few : length l.components ≤ MOST_LIVE
  pub slots : All (IsOpenSlot l.space.pages) (open_of l)
  pub least : LEAST_PAGES ≤ l.space.pages
  pub most : l.space.pages ≤ MOST_PAGES
  pub space : IsSpace l.space
  pub reserved : (page : ℕ) → is_reserved l.space.reserved page ≡ is_reserved (job_extents l.job ++ extents_of (open_of l)) page
  pub planned : IsPlannedIf l l.job
