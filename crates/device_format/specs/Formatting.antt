-- What a device is once it is formatted, and what a crash leaves before.
use Rattle.std.specs.Prelude.{◌≡◌, ◌≢◌, ◌⊎◌, ℕ, []}
use Rattle.std.specs.FinMap.{empty}
use Rattle.dev_model.specs.Story.{Bytes, Story, bytes_of, IsCalmAt, IsSettled}
use Rattle.wal_log.specs.Segments.{segments_of}
use Rattle.wal_log.specs.Rules.{records_of}
use Rattle.gate.specs.declared.gates.TheConstants.{OPEN}
use Rattle.superblock.specs.Superblock.{declared}
use Rattle.comp_dir.specs.Directory.{directory_of, open_slots}
use Rattle.format_numbers.specs.declared.TheConstants.{LOG_START}
use Rattle.component_image.specs.Recovered.{IsLookedAt, Recovers}

-- the image of a store of so many pages that has no component and no record, with these declared indexes
pub record IsEmptyStore (pages indexes : ℕ) (bytes : Bytes) : Type 0 where
  pub recovers : Recovers pages empty bytes
  pub declares : declared bytes ≡ indexes
  pub no_slots : open_slots (directory_of bytes) ≡ []
  pub no_records : records_of (segments_of LOG_START bytes) ≡ []

-- such a store is what is read, and what each crash leaves where an opening looks
pub record IsFreshStore (pages indexes : ℕ) (s : Story) : Type 0 where
  pub calm : IsCalmAt (IsLookedAt (bytes_of s)) s
  pub store : IsEmptyStore pages indexes (bytes_of s)

-- an image has all that was on the disk as it was read
abbrev pub LooksAs : (old : Story) → (image : Bytes) → Type 0
LooksAs old image = (i : ℕ) → IsSettled old.past i → image i ≡ bytes_of old i

-- an opening finds no store
abbrev pub IsUnformatted : Bytes → Type 0
IsUnformatted image = image 0 ≢ OPEN

-- no store is what is read, and what each crash leaves
pub record HasNoStore (s : Story) : Type 0 where
  pub settled : IsSettled s.past 0
  pub closed : IsUnformatted (bytes_of s)

-- what a crash may leave once the superblock is closed
abbrev pub IsNoneOrEmpty : (pages indexes : ℕ) → Bytes → Type 0
IsNoneOrEmpty pages indexes image = IsUnformatted image ⊎ IsEmptyStore pages indexes image

-- what a crash may leave while a device is formatted
abbrev pub IsBeforeOrAfter : (pages indexes : ℕ) → (old : Story) → (image : Bytes) → Type 0
IsBeforeOrAfter pages indexes old image = LooksAs old image ⊎ IsNoneOrEmpty pages indexes image
