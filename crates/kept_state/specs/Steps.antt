-- What is asked of the places at which a store writes. No public contract needs it.
use Rattle.std.specs.Prelude.{◌≡◌, ◌+◌, ◌*◌, ◌<◌, ◌≤◌, ℕ, List}
use Rattle.dev_model.specs.Story.{Bytes, Story, bytes_of, IsReadable, IsOutside}
use Rattle.page_codec.specs.declared.pages.TheConstants.{PAGE_BYTES}
use Rattle.comp_dir.specs.declared.slots.Slot.{Slot}
use Rattle.component_image.specs.Components.{IsInExtent}
use Rattle.component_image.specs.Content.{page_at}
use Rattle.component_image.specs.Recovered.{IsContent}

-- no component of the primary has the page
abbrev pub IsFree : ℕ → Bytes → Type 0
IsFree page bytes = (i : ℕ) → IsContent bytes i → IsOutside (page * PAGE_BYTES) PAGE_BYTES i

-- all pages of a component were written, so that the next sync puts them on the disk
abbrev pub IsWritten : Slot → Story → Type 0
IsWritten slot s = (i : ℕ) → IsInExtent slot i → IsReadable s.past i

-- The page was written with these bytes, so that they can be read, and the next sync puts them on the disk.
pub record HasPage (page : ℕ) (bytes : List ℕ) (s : Story) : Type 0 where
  pub bytes_are : page_at (bytes_of s) page ≡ bytes
  pub readable : (i : ℕ) → page * PAGE_BYTES ≤ i → i < page * PAGE_BYTES + PAGE_BYTES → IsReadable s.past i
