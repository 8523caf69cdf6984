-- The places beside the log that belong to a store.
use Rattle.std.specs.Prelude.{◌⊎◌, ℕ}
use Rattle.dev_model.specs.Story.{Bytes}
use Rattle.superblock.specs.Superblock.{IsLookedInSuperblock}
use Rattle.comp_dir.specs.Directory.{IsLooked}
use Rattle.component_image.specs.Recovered.{IsContent}

-- a place that is looked at, or a page of a component, but no place of the log
abbrev pub IsBeside : Bytes → ℕ → Type 0
IsBeside bytes i = IsLookedInSuperblock bytes i ⊎ (IsLooked bytes i ⊎ IsContent bytes i)
