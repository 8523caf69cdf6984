-- Which slot is named where the directory doesn't open.
use Rattle.std.specs.Prelude.{ℕ, ◌<◌, ◌≡◌, ◌⊎◌, Some}
use Rattle.comp_dir.specs.Directory.{Directory, open_slots}
use Rattle.comp_dir.specs.Rules.{Obeys, AllObey}
use Rattle.comp_dir.specs.Choosing.{bad_slot}

-- each lower slot is sound where it is open, and this one is open and isn't
pub record IsFirstUnsound (pages declared : ℕ) (slots : Directory) (n : ℕ) : Type 0 where
  pub breaks : Obeys pages declared slots n → ⊥
  pub before : (m : ℕ) → m < n → Obeys pages declared slots m

-- the slot that is named where the directory may not be opened: the first that isn't sound by itself, or else one that clashes with others
abbrev pub IsBadSlot : (pages declared : ℕ) → Directory → ℕ → Type 0
IsBadSlot pages declared slots n = IsFirstUnsound pages declared slots n ⊎ (AllObey pages declared slots × (bad_slot (open_slots slots) ≡ Some n))
