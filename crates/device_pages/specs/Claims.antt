-- What asking for lent pages makes of a device.
use Rattle.std.specs.Prelude.{◌≡◌, ◌↔◌, ℕ, ◌+◌, ◌*◌, Bool, true, List, length, map, Contains, Option, Some, None, IsTrue}
use Rattle.space_map.specs.declared.space.Extent.{Extent}
use Rattle.dev_model.specs.Story.{DeviceState, FailedWrite, Calls, Story, clock_of, after, IsInside, IsReadable, IsCalmAt}
use Rattle.dev_model.specs.Doing.{noted}
use Rattle.dev_model.specs.Moments.{ReadsWithin}
use Rattle.dev_model.specs.Writes.{AreSpared}
use Rattle.dev_model.specs.DeviceCalls.{ok_calls}
use Rattle.device_pages.specs.declared.lending.TheConstants.{PAGE_BYTES}
use Rattle.device_pages.specs.Asked.{Asked, pages_of}
use Rattle.device_pages.specs.ReadsMade.{reads_made}
use Rattle.device_pages.specs.Lending.{page_bytes, contents_of}
use Rattle.device_pages.specs.Lent.{is_lent}
use Rattle.device_pages.specs.LentPlaces.{IsLentPlace}

-- a device that tells made these reads and no other call that succeeded
pub record MadeReads (asked : List (ℕ × Bool)) (s : Story) (now : Option Story) : Type 0 where
  pub calls : Calls
  pub told : now ≡ Some (after s calls)
  pub made : ok_calls (clock_of s) calls ≡ reads_made (clock_of s) asked

abbrev pub ReadsAreMade : Type 0
ReadsAreMade = (asked : List (ℕ × Bool)) (old new : DeviceState) (s : Story) → Asked asked old new → old.story ≡ Some s → old.clock ≡ clock_of s
    → MadeReads asked s new.story

-- this range is a page that was asked for
pub record IsPageAsked (asked : List (ℕ × Bool)) (at count : ℕ) : Type 0 where
  pub page : ℕ
  pub is_asked : Contains (pages_of asked) page
  pub place : at ≡ page * PAGE_BYTES
  pub size : count ≡ PAGE_BYTES

abbrev pub NothingElseIsDone : Type 0
NothingElseIsDone = (asked : List (ℕ × Bool)) (old new : DeviceState) (s : Story) → Asked asked old new → old.story ≡ Some s
    → ReadsWithin (IsPageAsked asked) s new.story

abbrev pub ClockCounts : Type 0
ClockCounts = (pages : List ℕ) (old new : DeviceState) → Asked (map (λ page. (page, true)) pages) old new → new.clock ≡ old.clock + length pages

abbrev pub ReadablePagesAreTold : Type 0
ReadablePagesAreTold = (extents : List Extent) (s : Story)
    → (contents_of extents (Some s) ≡ Some (page_bytes s)) ↔ ((i : ℕ) → IsLentPlace extents i → IsReadable s.past i)

abbrev pub CalmPagesAreTold : Type 0
CalmPagesAreTold = (extents : List Extent) (s : Story) → IsCalmAt (IsLentPlace extents) s → contents_of extents (Some s) ≡ Some (page_bytes s)

-- a write that failed on a lent page
abbrev pub FailedWritesAreNotTold : Type 0
FailedWritesAreNotTold = (extents : List Extent) (s : Story) (at : ℕ) (new : List ℕ) (i : ℕ) → IsLentPlace extents i → IsInside at (length new) i
    → contents_of extents (noted (FailedWrite at new) (Some s)) ≡ None

abbrev pub ContentsStay : Type 0
ContentsStay = (extents : List Extent) (asked : List (ℕ × Bool)) (old new : DeviceState) → Asked asked old new
    → contents_of extents new.story ≡ contents_of extents old.story

-- what is told of lent pages after calls that spare them, page by page
pub record StillHold (extents : List Extent) (contents : ℕ → List ℕ) (s : Story) : Type 0 where
  pub told : contents_of extents (Some s) ≡ Some (page_bytes s)
  pub same : (page : ℕ) → IsTrue (is_lent extents page) → page_bytes s page ≡ contents page

abbrev pub SparedPagesStay : Type 0
SparedPagesStay = (extents : List Extent) (contents : ℕ → List ℕ) (s : Story) (calls : Calls) → contents_of extents (Some s) ≡ Some contents
    → ((i : ℕ) → IsLentPlace extents i → AreSpared calls i) → StillHold extents contents (after s calls)
