-- What some calls spare, and calls that write within a range.
use Rattle.std.specs.Prelude.{◌≡◌, ℕ, [], ◌∷◌, Option, Some}
use Rattle.dev_model.specs.Story.{Bytes, Calls, Story, after, bytes_of, IsOutside, IsSettled, IsSpared}

-- none of these calls touches the place
abbrev pub AreSpared : Calls → ℕ → Type 0
AreSpared [] i = Unit {0}
AreSpared (call ∷ calls) i = IsSpared call i × AreSpared calls i

-- what a crash may leave while any of these calls is under way or not yet synced
abbrev pub IsImageAmid : Story → Calls → Bytes → Type 0
IsImageAmid s calls image = (i : ℕ) → AreSpared calls i → IsSettled s.past i → image i ≡ bytes_of s i

-- The story went on from s by calls that write no place outside this range.
pub record WritesWithin (at count : ℕ) (s : Story) (now : Option Story) : Type 0 where
  pub calls : Calls
  pub told : now ≡ Some (after s calls)
  pub spared : (i : ℕ) → IsOutside at count i → AreSpared calls i
