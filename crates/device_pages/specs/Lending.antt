-- What is on lent pages of a device.
use Rattle.std.specs.Prelude.{ℕ, zero, suc, ◌+◌, ◌*◌, Bool, true, ◌&&◌, ◌||◌, not, nat_le, nat_lt, if◌then◌else◌, List, [], ◌∷◌, length, Option, Some, None}
use Rattle.std.specs.List.{list_all}
use Rattle.space_map.specs.declared.space.Extent.{Extent}
use Rattle.dev_model.specs.Story.{DeviceState, Write, FailedWrite, Past, Story, bytes_of, part}
use Rattle.dev_model.specs.Lending.{Lending}
use Rattle.device_pages.specs.Lent.{is_lent}
use Rattle.device_pages.specs.declared.lending.TheConstants.{PAGE_BYTES}

abbrev pub is_inside : (at count i : ℕ) → Bool
is_inside at count i = nat_le at i && nat_lt i (at + count)

-- no write has failed at this place since it was last written
abbrev pub is_readable : Past → ℕ → Bool
is_readable [] i = true
is_readable (Write at new ∷ past) i = is_inside at (length new) i || is_readable past i
is_readable (FailedWrite at new ∷ past) i = not (is_inside at (length new) i) && is_readable past i
is_readable (other ∷ past) i = is_readable past i

-- each place of a range passes a test
unfoldable pub each_place : (at count : ℕ) → (ℕ → Bool) → Bool
each_place at zero test = true
each_place at (suc count) test = test at && each_place (at + 1) count test

-- each place of each page of the extents is readable
abbrev pub are_readable : Past → List Extent → Bool
are_readable past extents = list_all (λ e. each_place (e.first * PAGE_BYTES) (e.pages * PAGE_BYTES) (is_readable past)) extents

abbrev pub page_bytes : Story → ℕ → List ℕ
page_bytes s page = part (page * PAGE_BYTES) PAGE_BYTES (bytes_of s)

-- the bytes of each lent page, where they are told and readable
abbrev pub contents_of : List Extent → Option Story → Option (ℕ → List ℕ)
contents_of extents None = None
contents_of extents (Some s) = if are_readable s.past extents then Some (page_bytes s) else None

-- these pages, lent of a device
abbrev pub lending_of : List Extent → DeviceState → Lending
lending_of extents device = record { lent = is_lent extents; contents = contents_of extents device.story; faults = device.faults }
