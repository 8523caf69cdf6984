-- The first page of a device.
use Rattle.std.specs.Prelude.{◌≡◌, ◌⊎◌, ℕ, ◌<◌, ◌≤◌, List, ◌∷◌, ◌++◌, ◌-◌}
use Rattle.std.specs.Int.{to_be_bytes, w32}
use Rattle.dev_model.specs.Story.{Bytes, part}
use Rattle.gate.specs.declared.gates.TheConstants.{OPEN}
use Rattle.geo_base.specs.declared.indexes.TheConstants.{ALL_INDEXES}
use Rattle.superblock.specs.declared.places.TheConstants.{FORMAT, MAGIC, SUPERBLOCK_BYTES}

-- the bytes behind the gate: the version of the format, the declared indexes, a byte 0, the device's pages and a text
unfoldable pub superblock_bytes : (indexes pages : ℕ) → List ℕ
superblock_bytes indexes pages = FORMAT ∷ indexes ∷ 0 ∷ to_be_bytes w32 pages ++ MAGIC

-- where the declared indexes stand, as bits
abbrev pub declared : Bytes → ℕ
declared bytes = bytes 2

-- the bytes are those of a device of so many pages that was formatted
pub record IsFormatted (pages : ℕ) (bytes : Bytes) : Type 0 where
  pub gate : bytes 0 ≡ OPEN
  pub fields : part 1 (SUPERBLOCK_BYTES - 1) bytes ≡ superblock_bytes (declared bytes) pages
  pub indexes : declared bytes ≤ ALL_INDEXES

-- the places of the superblock that an opening looks at
abbrev pub IsLookedInSuperblock : Bytes → ℕ → Type 0
IsLookedInSuperblock bytes i = (i ≡ 0) ⊎ ((bytes 0 ≡ OPEN) × (i < SUPERBLOCK_BYTES))
