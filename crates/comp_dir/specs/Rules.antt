-- What is asked of each open slot alone.
use Rattle.std.specs.Prelude.{◌≡◌, ◌≢◌, ◌⊎◌, ℕ, ◌+◌, ◌<◌, ◌≤◌, List, get_or, Some, None, IsTrue}
use Rattle.geo_base.specs.Indexes.{bit_of, has_index}
use Rattle.geo_base.specs.declared.points.IndexKind.{IndexKind}
use Rattle.comp_dir.specs.Slots.{slot_bytes, slot_of}
use Rattle.comp_dir.specs.Directory.{Directory}
use Rattle.comp_dir.specs.Parts.{HasParts}
use Rattle.comp_dir.specs.declared.places.TheConstants.{FIRST_DATA_PAGE, LSN_LIMIT, PRIMARY}
use Rattle.comp_dir.specs.declared.slots.Slot.{Slot}

-- the number of an index in a slot
abbrev pub number_of : IndexKind → ℕ
number_of kind = bit_of kind + 1

-- the primary, or an index that is declared
abbrev pub IsDeclared : (declared index : ℕ) → Type 0
IsDeclared declared index = (index ≡ PRIMARY) ⊎ ((kind : IndexKind) × (index ≡ number_of kind) × IsTrue (has_index declared kind))

-- the extent has a page, and lies behind the log and on the device
pub record HasExtent (pages : ℕ) (s : Slot) : Type 0 where
  pub some : 1 ≤ s.pages
  pub from : FIRST_DATA_PAGE ≤ s.first
  pub to : s.first + s.pages ≤ pages

pub record HasInterval (s : Slot) : Type 0 where
  pub from : 1 ≤ s.first_lsn
  pub ordered : s.first_lsn ≤ s.last_lsn
  pub below : s.last_lsn < LSN_LIMIT

-- No component has a filter yet, and the primary's alone have a number of the table's rows.
pub record HasNoMore (s : Slot) : Type 0 where
  pub no_place : s.filter_at ≡ 0
  pub no_bits : s.filter_bits ≡ 0
  pub table_rows : s.index ≢ PRIMARY → s.table_rows ≡ 0

-- a sound slot of a device of so many pages with these declared indexes
pub record IsSound (pages declared : ℕ) (s : Slot) : Type 0 where
  pub index : IsDeclared declared s.index
  pub extent : HasExtent pages s
  pub interval : HasInterval s
  pub parts : HasParts s
  pub no_more : HasNoMore s

-- these are the bytes of a sound slot, so those that have to be 0 are
pub record IsSlot (pages declared : ℕ) (body : List ℕ) : Type 0 where
  pub spelled : slot_bytes (slot_of body) ≡ body
  pub sound : IsSound pages declared (slot_of body)

-- where this slot is open, its bytes are those of a sound one
abbrev pub Obeys : (pages declared : ℕ) → Directory → ℕ → Type 0
Obeys pages declared slots n = (body : List ℕ) → get_or slots n None ≡ Some body → IsSlot pages declared body

-- that holds of each slot
abbrev pub AllObey : (pages declared : ℕ) → Directory → Type 0
AllObey pages declared slots = (n : ℕ) → Obeys pages declared slots n
