-- The tests of two slots in words, and what a list of slots is chosen to be.
use Rattle.std.specs.Prelude.{◌≡◌, ℕ, ◌+◌, ◌<◌, ◌≤◌, List, None}
use Rattle.comp_dir.specs.Directory.{Numbered}
use Rattle.comp_dir.specs.Choosing.{bad_slot, live_slots}
use Rattle.comp_dir.specs.Ignored.{ignored_slots}
use Rattle.comp_dir.specs.declared.slots.Slot.{Slot}

-- a page of the extent
pub record IsPageOf (s : Slot) (p : ℕ) : Type 0 where
  pub from : s.first ≤ p
  pub to : p < s.first + s.pages

-- the number of a write in the interval
pub record IsLsnOf (s : Slot) (n : ℕ) : Type 0 where
  pub from : s.first_lsn ≤ n
  pub to : n ≤ s.last_lsn

-- no slot is bad, and these are the live and the ignored ones
pub record Chooses (all live ignored : List Numbered) : Type 0 where
  pub sound : bad_slot all ≡ None
  pub live_are : live ≡ live_slots all
  pub ignored_are : ignored ≡ ignored_slots all
