-- Why an opening is refused.
use Rattle.std.specs.Prelude.{ℕ}
use Rattle.dev_model.specs.Counts.{Rose}
use Rattle.dev_model.specs.Story.{Bytes}
use Rattle.wal_log.specs.Segments.{segments_of}
use Rattle.wal_log.specs.Bad.{IsBad}
use Rattle.superblock.specs.Superblock.{IsFormatted}
use Rattle.format_numbers.specs.declared.TheConstants.{LOG_START}
use Rattle.comp_dir.specs.Directory.{directory_of}
use Rattle.comp_dir.specs.Choosing.{Opens as DirectoryOpens}
use Rattle.comp_dir.specs.Bad.{IsBadSlot}
use Rattle.component_image.specs.Recovered.{primary_of, ends_of}
use Rattle.store_opening.specs.declared.opening.OpenFault.{OpenFault}
use Rattle.store_opening.specs.declared.opening.OpenFault.TheVariants.{NotFormatted, BadSlot, BadLog, Fault, OutOfMemory}

-- What a refusal says of the bytes of a device of so many pages. The first that holds is the one that is answered. Faults and
-- want of memory say nothing of them.
abbrev pub IsRefusal : (pages : ℕ) → OpenFault → Bytes → Type 0
IsRefusal pages NotFormatted bytes = IsFormatted pages bytes → ⊥
IsRefusal pages (BadSlot n) bytes = IsFormatted pages bytes × IsBadSlot pages 0 (directory_of bytes) n
IsRefusal pages (BadLog k) bytes = IsFormatted pages bytes × DirectoryOpens pages 0 (directory_of bytes) × IsBad (ends_of (primary_of bytes)) (segments_of LOG_START bytes) k
IsRefusal pages Fault bytes = Unit {0}
IsRefusal pages OutOfMemory bytes = Unit {0}

-- a fault of the device has a count that rose
abbrev pub HasFaulted : (before now : ℕ) → OpenFault → Type 0
HasFaulted before now Fault = Rose before now
HasFaulted before now NotFormatted = Unit {0}
HasFaulted before now (BadSlot n) = Unit {0}
HasFaulted before now (BadLog k) = Unit {0}
HasFaulted before now OutOfMemory = Unit {0}
