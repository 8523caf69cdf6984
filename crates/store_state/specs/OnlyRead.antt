-- What readers of a store's lists ask for, and what they leave behind.
use Rattle.std.specs.Prelude.{◌≡◌, ℕ, ◌*◌, IsTrue, List, All, Option, Result}
use Rattle.dev_model.specs.Moments.{LeavesOnly, ReadsWithin}
use Rattle.dev_model.specs.Story.{DeviceState, Story, WhereTold, IsImageNow}
use Rattle.table_model.specs.Table.{Table}
use Rattle.wal_log.specs.declared.log.Log.{Log}
use Rattle.dev_model.specs.Asked.{Went, fault_of, reads_of, GoesBy, OnDamaged, OnGiven}
use Rattle.device_pages.specs.Asked.{Asked}
use Rattle.device_pages.specs.Claims.{MadeReads}
use Rattle.device_pages.specs.Lending.{contents_of}
use Rattle.device_pages.specs.Lent.{is_lent}
use Rattle.dev_model.specs.declared.page_faults.PageFault.{PageFault}
use Rattle.page_codec.specs.declared.pages.TheConstants.{PAGE_BYTES}
use Rattle.primary_ix.specs.Components.{AreShown}
use Rattle.primary_ix.specs.Roots.{AreRoots}
use Rattle.primary_ix.specs.Pages.{IsTestedIn}
use Rattle.primary_ix.specs.Damage.{IsDamagedIn}
use Rattle.primary_ix.specs.declared.rows.PrimRow.{PrimRow}
use Rattle.component_image.specs.Recovered.{Recovers}
use Rattle.store_state.specs.Lists.{Lists, extents_of, trees_of}
use Rattle.store_state.specs.Keeping.{IsKept}
use Rattle.store_state.specs.Reading.{IsLegible}

-- this range is a page of a component
pub record IsPageIn (l : Lists) (at count : ℕ) : Type 0 where
  pub page : ℕ
  pub lent : IsTrue (is_lent (extents_of l.components) page)
  pub place : at ≡ page * PAGE_BYTES
  pub size : count ≡ PAGE_BYTES

-- A reader asked for these pages of the components, in one list, stopped at the first that it could not use, and did nothing
-- else. Where the device tells, the calls that succeeded are the reads of the pages that were given. A page that it gives as
-- damaged is none for its place, and without a fault each page has the header of its place.
pub record HasRead {X : Type 0} (l : Lists) (old new : DeviceState) (result : Result X PageFault) (pages : List ℕ) : Type 0 where
  pub went : Went (is_lent (extents_of l.components)) (λ asked. Asked asked old new) result pages
  pub made : WhereTold old.story (λ s. MadeReads (reads_of result pages) s new.story)
  pub damaged : OnDamaged (fault_of result) (λ page. WhereTold (contents_of (extents_of l.components) old.story) (λ contents. IsDamagedIn (trees_of l.components) contents page))
  pub tested : OnGiven (fault_of result) (WhereTold (contents_of (extents_of l.components) old.story) (λ contents. All (IsTestedIn (trees_of l.components) contents) pages))

-- And where the pages show lists, those of a way, or with a fault the first few of them.
abbrev pub HasReadAlong : {X : Type 0} → Lists → (old new : DeviceState) → Result X PageFault → (way : List (List PrimRow) → (roots : List ℕ) → List ℕ) → Type 0
HasReadAlong l old new result way = (pages : List ℕ) × HasRead l old new result pages
    × ((disk : List (List PrimRow)) (roots : List ℕ) → AreShown (contents_of (extents_of l.components) old.story) (trees_of l.components) disk → AreRoots (trees_of l.components) roots → GoesBy result pages (way disk roots))

-- The story went on by reads of pages of the components alone. So the store is legible as it was, and where nothing had stopped
-- it nothing has; and a crash at each moment leaves what one before might have left, the table where that was kept.
pub record IsOnlyRead (pages : ℕ) (l : Lists) (s : Story) (now : Option Story) : Type 0 where
  pub reads : ReadsWithin (IsPageIn l) s now
  pub images : LeavesOnly s now (IsImageNow s)
  pub legible : (table : Table) (disk : List (List PrimRow)) → IsLegible table disk l s → WhereTold now (IsLegible table disk l)
  pub kept : (log : Log) (table : Table) → IsKept pages log table l s → WhereTold now (IsKept pages log table l)
  pub any_moment : (log : Log) (table : Table) → IsKept pages log table l s → LeavesOnly s now (Recovers pages table)
