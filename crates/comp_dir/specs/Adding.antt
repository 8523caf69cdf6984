-- When one more slot may be opened, and when one may be closed.
use Rattle.std.specs.Prelude.{◌≡◌, ◌⊎◌, ℕ, ◌+◌, ◌<◌, List, ◌∷◌, ◌++◌, length, get_or, None, false, All, Any, Contains}
use Rattle.std.specs.List.{filter}
use Rattle.comp_dir.specs.Slots.{slot_bytes, slot_of}
use Rattle.comp_dir.specs.Directory.{Directory, Numbered, open_slots}
use Rattle.comp_dir.specs.Rules.{IsSound}
use Rattle.comp_dir.specs.Choosing.{shares_page, same_index, live_slots, Opens}
use Rattle.comp_dir.specs.Ignored.{ignored_slots, numbers}
use Rattle.comp_dir.specs.declared.places.TheConstants.{MOST_LIVE}
use Rattle.comp_dir.specs.declared.slots.Slot.{Slot}

-- What is asked of a slot that is to be opened beside these: its extent shares no page with theirs. Its interval lies behind
-- each of its index, and begins with the first write of all or right behind a live one. Its index has room for a live one.
pub record IsAddable (new : Slot) (all : List Numbered) : Type 0 where
  pub apart : All (λ e. shares_page e.1 new ≡ false) all
  pub newer : All (λ e. e.1.index ≡ new.index → e.1.last_lsn < new.first_lsn) all
  pub follows : (new.first_lsn ≡ 1) ⊎ Any (λ e. (e.1.index ≡ new.index) × (e.1.last_lsn + 1 ≡ new.first_lsn)) (live_slots all)
  pub room : length (filter (λ e. same_index e.1 new) (live_slots all)) < MOST_LIVE

-- A sound slot may be opened at this number of the directory, which is closed.
pub record MayBeAdded (pages declared n : ℕ) (new : Slot) (slots : Directory) : Type 0 where
  pub opens : Opens pages declared slots
  pub inside : n < length slots
  pub closed : get_or slots n None ≡ None
  pub sound : IsSound pages declared new
  pub read_back : slot_of (slot_bytes new) ≡ new
  pub addable : IsAddable new (open_slots slots)

-- The slot at this number is an ignored one.
pub record MayBeClosed (pages declared n : ℕ) (slots : Directory) : Type 0 where
  pub opens : Opens pages declared slots
  pub ignored : Contains (numbers (ignored_slots (open_slots slots))) n

-- The one list is the other with this element put in somewhere.
pub record HasOneMore {X : Type 0} (x : X) (old new : List X) : Type 0 where
  pub before : List X
  pub after : List X
  pub was : old ≡ before ++ after
  pub is : new ≡ before ++ x ∷ after
