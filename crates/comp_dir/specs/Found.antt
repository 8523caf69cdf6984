-- What is found on the pages of the directory. No public contract needs this file but for `AreLawful`.
use Rattle.std.specs.Prelude.{◌≡◌, ℕ, ◌+◌, ◌*◌, ◌<◌, List, [], ◌∷◌, ◌++◌, take, drop, get_or, Option, Some, None, if◌then◌else◌, ◌==◌, All, AllPairs}
use Rattle.dev_model.specs.Story.{Bytes}
use Rattle.comp_dir.specs.Directory.{Numbered, slot_at, slots_from, open_from}
use Rattle.comp_dir.specs.Rules.{IsSound, IsSlot}
use Rattle.gate.specs.declared.gates.TheConstants.{OPEN}
use Rattle.comp_dir.specs.declared.places.TheConstants.{SLOTS, PAGE_SLOTS, SLOT_BODY_BYTES}

-- the slots of a list that was found, below a number, ascend, and each of them is sound
pub record AreLawful (pages declared below : ℕ) (found : List Numbered) : Type 0 where
  pub each : All (λ e. (e.0 < below) × IsSound pages declared e.1) found
  pub ascend : AllPairs (λ e f. e.0 < f.0) found

-- a slot on a page, where its gate is open
abbrev pub slot_in : ℕ → List ℕ → Option (List ℕ)
slot_in place page = if get_or page (place * 64) 0 == OPEN then Some (take SLOT_BODY_BYTES (drop (place * 64 + 1) page)) else None

-- the page has the slots from this one on
abbrev pub Shows : ℕ → List ℕ → Bytes → Type 0
Shows first page bytes = (place : ℕ) → place < PAGE_SLOTS → slot_in place page ≡ slot_at (first + place) bytes

-- what is asked of a slot, where it is open
abbrev pub IsFine : (pages declared : ℕ) → Option (List ℕ) → Type 0
IsFine pages declared None = Unit {0}
IsFine pages declared (Some body) = IsSlot pages declared body

-- one slot more, where it is open
abbrev pub with_open : ℕ → Option (List ℕ) → List Numbered → List Numbered
with_open n slot found = found ++ open_from n (slot ∷ [])

-- so many slots were read, and are sound
pub record HasFound (pages declared count : ℕ) (bytes : Bytes) (found : List Numbered) : Type 0 where
  pub items : found ≡ open_from 0 (slots_from count 0 bytes)
  pub sound : (m : ℕ) → m < count → IsFine pages declared (slot_at m bytes)

-- the lowest slot that isn't sound
pub record IsUnsoundAt (pages declared : ℕ) (bytes : Bytes) (n : ℕ) : Type 0 where
  pub below : n < SLOTS
  pub breaks : IsFine pages declared (slot_at n bytes) → ⊥
  pub before : (m : ℕ) → m < n → IsFine pages declared (slot_at m bytes)
