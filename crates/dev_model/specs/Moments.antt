-- What holds at each moment of a run of calls, and where these calls read and write.
use Rattle.std.specs.Prelude.{◌≡◌, ℕ, ◌≤◌, [], ◌∷◌, Option, Some}
use Rattle.dev_model.specs.Story.{Bytes, Read, Write, Sync, FailedWrite, FailedCall, Calls, Story, clock_of, after, IsImage}

-- each image of each moment from a clock value on has P
abbrev pub EachMoment : ℕ → Story → (ℕ → Bytes → Type 0) → Type 0
EachMoment from s P = (m : ℕ) → from ≤ m → m ≤ clock_of s → (image : Bytes) → IsImage s m image → P m image

-- The story went on from s by some calls, and each image of each moment since then has P.
pub record LeavesOnly (s : Story) (now : Option Story) (P : Bytes → Type 0) : Type 0 where
  pub calls : Calls
  pub told : now ≡ Some (after s calls)
  pub each : EachMoment (clock_of s) (after s calls) (λ _. P)

-- reads alone, each of a range of this kind, and calls that failed and changed nothing
abbrev pub AreReadsWithin : (ℕ → ℕ → Type 0) → Calls → Type 0
AreReadsWithin Within [] = Unit {0}
AreReadsWithin Within (Read at count ∷ calls) = Within at count × AreReadsWithin Within calls
AreReadsWithin Within (FailedCall ∷ calls) = AreReadsWithin Within calls
AreReadsWithin Within (Write at new ∷ calls) = ⊥
AreReadsWithin Within (FailedWrite at new ∷ calls) = ⊥
AreReadsWithin Within (Sync ∷ calls) = ⊥

-- The story went on from s by reads alone, each of a range of this kind.
pub record ReadsWithin (Within : ℕ → ℕ → Type 0) (s : Story) (now : Option Story) : Type 0 where
  pub calls : Calls
  pub told : now ≡ Some (after s calls)
  pub reads : AreReadsWithin Within calls
