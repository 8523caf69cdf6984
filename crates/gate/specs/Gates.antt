-- What stands at a gate while bytes are written behind it, and afterwards.
use Rattle.std.specs.Prelude.{◌≡◌, ◌≢◌, ◌⊎◌, ℕ, ◌+◌, ◌<◌, List, ◌∷◌, length, get_or}
use Rattle.dev_model.specs.Story.{Bytes, Story, bytes_of, IsInside, IsOutside, IsReadable, IsSettled}
use Rattle.gate.specs.declared.gates.TheConstants.{OPEN}

-- these bytes stand from a place on
abbrev pub Holds : ℕ → List ℕ → Bytes → Type 0
Holds at xs bytes = (i : ℕ) → i < length xs → bytes (at + i) ≡ get_or xs i 0

-- The gate is closed, and elsewhere stands what was on the disk.
pub record IsLeftClosed (at : ℕ) (body : List ℕ) (s : Story) (image : Bytes) : Type 0 where
  pub closed : image at ≢ OPEN
  pub elsewhere : (i : ℕ) → IsOutside at (length (OPEN ∷ body)) i → IsSettled s.past i → image i ≡ bytes_of s i

-- The gate is open with these bytes behind it, and elsewhere stands what could be read.
pub record IsOpened (at : ℕ) (body : List ℕ) (s : Story) (image : Bytes) : Type 0 where
  pub stands : Holds at (OPEN ∷ body) image
  pub elsewhere : (i : ℕ) → IsOutside at (length (OPEN ∷ body)) i → IsReadable s.past i → image i ≡ bytes_of s i

-- what each crash leaves: the gate closed, or open with exactly these bytes
abbrev pub IsGated : ℕ → List ℕ → Story → Bytes → Type 0
IsGated at body s image = IsLeftClosed at body s image ⊎ IsOpened at body s image

-- These bytes were put at a place, and all that could be read is on the disk.
pub record HasPut (at : ℕ) (xs : List ℕ) (s t : Story) : Type 0 where
  pub stands : Holds at xs (bytes_of t)
  pub elsewhere : (i : ℕ) → IsOutside at (length xs) i → bytes_of t i ≡ bytes_of s i
  pub settled : (i : ℕ) → IsInside at (length xs) i ⊎ IsReadable s.past i → IsSettled t.past i
