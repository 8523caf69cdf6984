-- The live components of an index, in order.
use Rattle.std.specs.Prelude.{◌⊎◌, ℕ, ◌+◌, ◌*◌, ◌<◌, ◌≤◌, ◌==◌, List, [], ◌∷◌, nat_le, if◌then◌else◌}
use Rattle.std.specs.List.{filter}
use Rattle.page_codec.specs.declared.pages.TheConstants.{PAGE_BYTES}
use Rattle.comp_dir.specs.Directory.{Directory, Numbered, open_slots}
use Rattle.comp_dir.specs.Choosing.{live_slots}
use Rattle.comp_dir.specs.declared.slots.Slot.{Slot}

-- before the first that ends no later
abbrev pub placed : Slot → List Slot → List Slot
placed s [] = s ∷ []
placed s (t ∷ ts) = if nat_le t.last_lsn s.last_lsn then s ∷ t ∷ ts else t ∷ placed s ts

-- by the last number of a write, the newest first
abbrev pub newest_first : List Numbered → List Slot
newest_first [] = []
newest_first (e ∷ es) = placed e.1 (newest_first es)

-- the live components of an index, the newest first
abbrev pub components : (index : ℕ) → Directory → List Slot
components index directory = newest_first (filter (λ e. e.1.index == index) (live_slots (open_slots directory)))

-- the number of the last write that the index has in components, 0 where it has none
abbrev pub end_of : List Slot → ℕ
end_of [] = 0
end_of (s ∷ older) = s.last_lsn

-- a place of the pages of a component
pub record IsInExtent (s : Slot) (i : ℕ) : Type 0 where
  pub from : s.first * PAGE_BYTES ≤ i
  pub to : i < (s.first + s.pages) * PAGE_BYTES

-- a place of the pages of one of these components
abbrev pub IsInExtents : List Slot → ℕ → Type 0
IsInExtents [] i = ⊥
IsInExtents (s ∷ slots) i = IsInExtent s i ⊎ IsInExtents slots i
