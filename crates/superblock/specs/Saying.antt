-- What a read of the superblock answers.
use Rattle.std.specs.Prelude.{◌≡◌, ℕ, ◌≤◌, List, Option, Some, None, drop, slice_index}
use Rattle.dev_model.specs.Story.{Bytes}
use Rattle.gate.specs.declared.gates.TheConstants.{OPEN}
use Rattle.geo_base.specs.declared.indexes.TheConstants.{ALL_INDEXES}
use Rattle.superblock.specs.Superblock.{IsFormatted, declared, superblock_bytes}

-- the declared indexes of a device that is formatted, or that it isn't
abbrev pub Says : (pages : ℕ) → Bytes → Option ℕ → Type 0
Says pages bytes (Some indexes) = IsFormatted pages bytes × (declared bytes ≡ indexes)
Says pages bytes None = IsFormatted pages bytes → ⊥

-- these sixteen bytes are a superblock of a device of so many pages
pub record IsSuperblock (pages : ℕ) (bytes : List ℕ) : Type 0 where
  pub gate : slice_index bytes 0 ≡ OPEN
  pub fields : drop 1 bytes ≡ superblock_bytes (slice_index bytes 2) pages
  pub indexes : slice_index bytes 2 ≤ ALL_INDEXES

-- the same answer, of the sixteen bytes that were read
abbrev pub SaysOf : (pages : ℕ) → List ℕ → Option ℕ → Type 0
SaysOf pages bytes (Some indexes) = IsSuperblock pages bytes × (slice_index bytes 2 ≡ indexes)
SaysOf pages bytes None = IsSuperblock pages bytes → ⊥
