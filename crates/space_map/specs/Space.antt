-- The pages of a device that are reserved, and the runs of pages that are free between them.
use Rattle.std.specs.Prelude.{◌≡◌, ℕ, ◌+◌, ◌<◌, ◌≤◌, Bool, false, ◌&&◌, nat_le, nat_lt, if◌then◌else◌, List, [], ◌∷◌}
use Rattle.std.specs.List.{list_any}
use Rattle.space_map.specs.declared.space.Extent.{Extent}
use Rattle.space_map.specs.declared.space.TheConstants.{FIRST_DATA_PAGE}

-- a map as its callers see it: the reserved extents, ascending, and the number of the device's pages
pub record Space : Type 0 where
  pub reserved : List Extent
  pub pages : ℕ

-- the page behind an extent
abbrev pub end_of : Extent → ℕ
end_of e = e.first + e.pages

abbrev pub is_in : ℕ → Extent → Bool
is_in page e = nat_le e.first page && nat_lt page (end_of e)

abbrev pub is_reserved : List Extent → ℕ → Bool
is_reserved extents page = list_any (is_in page) extents

-- the pages `from` to `from + count` lie in the pages from `low` to `end`, and none of them is reserved
pub record IsFreeIn (low end : ℕ) (extents : List Extent) (from count : ℕ) : Type 0 where
  pub above : low ≤ from
  pub within : from + count ≤ end
  pub free : (page : ℕ) → from ≤ page → page < from + count → is_reserved extents page ≡ false

abbrev pub IsFreeRun : Space → (from count : ℕ) → Type 0
IsFreeRun space from count = IsFreeIn FIRST_DATA_PAGE space.pages space.reserved from count

-- the first run of so many free pages begins at `from`
pub record IsFirstFit (space : Space) (count from : ℕ) : Type 0 where
  pub free : IsFreeRun space from count
  pub first : (before : ℕ) → before < from → ¬ (IsFreeRun space before count)

-- so many pages has the longest free run
pub record IsLongest (space : Space) (longest : ℕ) : Type 0 where
  pub found : (from : ℕ) × IsFreeRun space from longest
  pub no_longer : (from count : ℕ) → IsFreeRun space from count → count ≤ longest

-- one extent more, at its place
abbrev pub with_extent : Extent → List Extent → List Extent
with_extent e [] = e ∷ []
with_extent e (x ∷ xs) = if nat_lt x.first e.first then x ∷ with_extent e xs else (e ∷ x ∷ xs)

abbrev pub reserved_with : Extent → Space → Space
reserved_with e space = record { reserved = with_extent e space.reserved; pages = space.pages }
