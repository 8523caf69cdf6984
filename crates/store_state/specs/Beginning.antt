-- When a job may begin, and what it is then.
use Rattle.std.specs.Prelude.{◌≡◌, ◌≢◌, ◌⊎◌, ℕ, ◌<◌, ◌≤◌, Bool, true, false, ◌==◌, min, List, ◌++◌, length, None}
use Rattle.std.specs.List.{list_any}
use Rattle.btree_image.specs.Image.{shape_of}
use Rattle.space_map.specs.Space.{Space, IsFreeRun, IsFirstFit, IsLongest}
use Rattle.comp_dir.specs.Directory.{Numbered}
use Rattle.comp_dir.specs.Parts.{HasPages}
use Rattle.comp_dir.specs.declared.places.TheConstants.{MOST_LIVE, PRIMARY, SLOTS}
use Rattle.primary_ix.specs.Rows.{prim_layout}
use Rattle.primary_ix.specs.declared.rows.PrimRow.{PrimRow}
use Rattle.build_job.specs.declared.plan.JobPlan.{JobPlan}
use Rattle.store_state.specs.declared.faults.BeginFault.{BeginFault}
use Rattle.store_state.specs.declared.faults.BeginFault.TheVariants.{Held, Full, OutOfMemory}
use Rattle.store_state.specs.declared.jobs.JobRow.{JobRow}
use Rattle.store_state.specs.declared.planning.TheConstants.{MOST_ROWS}
use Rattle.store_state.specs.Lists.{Lists, frozen_rows, open_of}

-- The image of a list needs so many pages. A component has a limit of rows; a longer list is taken for one of that many, for which
-- no device has the pages.
abbrev pub ImageNeeds : List PrimRow → ℕ → Type 0
ImageNeeds rows pages = HasPages (shape_of prim_layout (min (length rows) MOST_ROWS)) pages

-- a slot with this number is open
abbrev pub is_taken : List Numbered → ℕ → Bool
is_taken slots n = list_any (λ e. e.0 == n) slots

-- the lowest slot that is closed
pub record IsLowestClosed (slots : List Numbered) (n : ℕ) : Type 0 where
  pub inside : n < SLOTS
  pub closed : is_taken slots n ≡ false
  pub lowest : (m : ℕ) → m < n → is_taken slots m ≡ true

-- no slot is closed
abbrev pub AreAllTaken : List Numbered → Type 0
AreAllTaken slots = (n : ℕ) → n < SLOTS → is_taken slots n ≡ true

-- there is room for a component with so many pages
pub record HasRoom (components ignored : List Numbered) (space : Space) (pages : ℕ) : Type 0 where
  pub few : length components < MOST_LIVE
  pub run : (from : ℕ) × IsFreeRun space from pages
  pub slot : (n : ℕ) × IsLowestClosed (components ++ ignored) n

-- there are as many components as there may be
pub record IsCrowded (components : List Numbered) (need longest : ℕ) : Type 0 where
  pub many : MOST_LIVE ≤ length components
  pub need_is : need ≡ 1
  pub longest_is : longest ≡ 0

-- or no free run has the pages
pub record IsShort (components : List Numbered) (space : Space) (pages need longest : ℕ) : Type 0 where
  pub few : length components < MOST_LIVE
  pub need_is : need ≡ pages
  pub longest_is : IsLongest space longest
  pub short : longest < need

-- or no slot is closed
pub record IsUnlisted (components ignored : List Numbered) (space : Space) (pages need longest : ℕ) : Type 0 where
  pub few : length components < MOST_LIVE
  pub run : (from : ℕ) × IsFreeRun space from pages
  pub taken : AreAllTaken (components ++ ignored)
  pub need_is : need ≡ 1
  pub longest_is : longest ≡ 0

-- why there is no room
abbrev pub IsFull : (components ignored : List Numbered) (space : Space) (pages : ℕ) → BeginFault → Type 0
IsFull components ignored space pages Held = ⊥
IsFull components ignored space pages (Full need longest) =
    IsCrowded components need longest ⊎ (IsShort components space pages need longest ⊎ IsUnlisted components ignored space pages need longest)
IsFull components ignored space pages OutOfMemory = ⊥

-- why no job begins though a list is frozen: there is one, there is no room, or memory is wanting though there is room
abbrev pub IsRefused : Lists → BeginFault → Type 0
IsRefused l Held = l.job ≢ None
IsRefused l (Full need longest) =
    (l.job ≡ None) × ((pages : ℕ) × ImageNeeds (frozen_rows l.frozen) pages × IsFull l.components l.ignored l.space pages (Full need longest))
IsRefused l OutOfMemory = (l.job ≡ None) × ((pages : ℕ) × ImageNeeds (frozen_rows l.frozen) pages × HasRoom l.components l.ignored l.space pages)

-- Where the component of a job is to stand: in the first run of free pages that has its image, and in the lowest slot that is closed.
pub record MayBegin (l : Lists) (plan : JobPlan) : Type 0 where
  pub frozen : l.frozen ≢ None
  pub none : l.job ≡ None
  pub few : length l.components < MOST_LIVE
  pub index : plan.index ≡ PRIMARY
  pub pages : HasPages (shape_of prim_layout (length (frozen_rows l.frozen))) plan.extent.pages
  pub first_fit : IsFirstFit l.space plan.extent.pages plan.extent.first
  pub slot : IsLowestClosed (open_of l) plan.slot

-- a job of which no page is written
abbrev pub fresh : (owner : ℕ) → JobPlan → JobRow
fresh owner plan = record { owner = owner; plan = plan; written = 0 }
