-- What is true of every map, why pages are refused, and what a release makes of it.
use Rattle.std.specs.Prelude.{◌≡◌, ℕ, ◌<◌, ◌≤◌, ◌==◌, if◌then◌else◌, max, List, [], ◌∷◌}
use Rattle.space_map.specs.declared.space.Extent.{Extent}
use Rattle.space_map.specs.declared.space.SpaceFault.{SpaceFault}
use Rattle.space_map.specs.declared.space.SpaceFault.TheVariants.{NoRun, OutOfMemory}
use Rattle.space_map.specs.declared.space.TheConstants.{FIRST_DATA_PAGE}
use Rattle.space_map.specs.Space.{Space, end_of, IsFreeRun, IsLongest}

-- the extents ascend, share no page, and lie in the pages from `low` to `end`
abbrev pub AreApart : (low end : ℕ) → List Extent → Type 0
AreApart low end [] = low ≤ end
AreApart low end (e ∷ es) = (low ≤ e.first) × (1 ≤ e.pages) × AreApart (end_of e) end es

-- what is true of every map
abbrev pub IsSpace : Space → Type 0
IsSpace space = AreApart FIRST_DATA_PAGE space.pages space.reserved

-- why `count` pages are refused: no free run has them, or memory is wanting though one has
abbrev pub IsRefusal : Space → ℕ → SpaceFault → Type 0
IsRefusal space count (NoRun need longest) = (need ≡ count) × IsLongest space longest × (longest < count)
IsRefusal space count OutOfMemory = (from : ℕ) × IsFreeRun space from count

-- one extent less
abbrev pub without_extent : Extent → List Extent → List Extent
without_extent e [] = []
without_extent e (x ∷ xs) = if x.first == e.first then xs else (x ∷ without_extent e xs)

abbrev pub released_from : Extent → Space → Space
released_from e space = record { reserved = without_extent e space.reserved; pages = space.pages }

-- the page behind all that is reserved, the first data page where nothing is
abbrev pub reserved_end : List Extent → ℕ
reserved_end [] = FIRST_DATA_PAGE
reserved_end (e ∷ es) = max (end_of e) (reserved_end es)
