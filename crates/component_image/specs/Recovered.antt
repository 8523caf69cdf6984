-- When an image opens, what an opening looks at, and the table that the image recovers to.
use Rattle.std.specs.Prelude.{◌≡◌, ◌⊎◌, ℕ, ◌+◌, ◌<◌, ◌≤◌, List, [], ◌∷◌}
use Rattle.dev_model.specs.Story.{Bytes}
use Rattle.table_model.specs.Table.{Table}
use Rattle.wal_log.specs.Later.{later}
use Rattle.wal_log.specs.Rules.{Opens as LogOpens, records_of}
use Rattle.wal_log.specs.Places.{IsInLog}
use Rattle.wal_log.specs.Segments.{segments_of, IsLooked as LogLooked}
use Rattle.format_numbers.specs.declared.TheConstants.{LOG_START}
use Rattle.superblock.specs.Superblock.{IsFormatted, IsLookedInSuperblock}
use Rattle.component_image.specs.Replayed.{replayed}
use Rattle.comp_dir.specs.Places.{slot_start}
use Rattle.comp_dir.specs.Directory.{directory_of, IsLooked}
use Rattle.comp_dir.specs.Choosing.{Opens as DirectoryOpens}
use Rattle.comp_dir.specs.declared.places.TheConstants.{PRIMARY, SLOTS}
use Rattle.comp_dir.specs.declared.slots.Slot.{Slot}
use Rattle.primary_ix.specs.declared.rows.PrimRow.{PrimRow}
use Rattle.component_image.specs.Components.{components, end_of, IsInExtents}
use Rattle.component_image.specs.Content.{ShowAll, Count}
use Rattle.component_image.specs.Laid.{table_of}
use Rattle.component_image.specs.Told.{AreTold}

-- the live components of the primary, the newest first
abbrev pub primary_of : Bytes → List Slot
primary_of bytes = components PRIMARY (directory_of bytes)

-- The number of the last write that each index has in components. The primary alone has components yet.
abbrev pub ends_of : List Slot → List ℕ
ends_of slots = end_of slots ∷ []

-- the image of a device of so many pages opens; no index is declared that has components beside the primary
pub record Opens (pages : ℕ) (bytes : Bytes) : Type 0 where
  pub formatted : IsFormatted pages bytes
  pub directory : DirectoryOpens pages 0 (directory_of bytes)
  pub log : LogOpens (ends_of (primary_of bytes)) (segments_of LOG_START bytes)

-- a place of the log that an opening looks at
abbrev pub IsLookedInLog : Bytes → ℕ → Type 0
IsLookedInLog bytes i = (k : ℕ) × (k < 4) × LogLooked LOG_START k bytes i

-- the places that an opening looks at
abbrev pub IsLookedAt : Bytes → ℕ → Type 0
IsLookedAt bytes i = IsLookedInSuperblock bytes i ⊎ (IsLooked bytes i ⊎ IsLookedInLog bytes i)

-- a range that an opening may read: in the superblock, in the directory, or in the log
abbrev pub IsOpeningRange : (at count : ℕ) → Type 0
IsOpeningRange at count = (at + count ≤ slot_start SLOTS) ⊎ IsInLog LOG_START at count

-- the places at which the rows of components stand
abbrev pub IsContent : Bytes → ℕ → Type 0
IsContent bytes i = IsInExtents (primary_of bytes) i

-- The image of a device of so many pages opens, each live component shows a list, and the table is that of these lists with the
-- later writes of the log behind them. Each of these says truly at which point its key stood before it.
pub record Recovers (pages : ℕ) (table : Table) (bytes : Bytes) : Type 0 where
  pub opens : Opens pages bytes
  pub lists : List (List PrimRow)
  pub shown : ShowAll bytes (primary_of bytes) lists
  pub counted : Count (primary_of bytes) lists
  pub table_is : table ≡ replayed (table_of lists) (later (end_of (primary_of bytes)) (records_of (segments_of LOG_START bytes)))
  pub told : AreTold (table_of lists) (later (end_of (primary_of bytes)) (records_of (segments_of LOG_START bytes)))
