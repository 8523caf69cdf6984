-- What the steps of the code promise. No public contract needs this file.
use Rattle.std.specs.Prelude.{◌≡◌, ℕ, ◌+◌, ◌<◌, ◌≤◌, ◌↔◌, ◌⊎◌, List, All}
use Rattle.hilbert_key.specs.Curve.{curve_value}
use Rattle.region_cover.specs.Cover.{IsAmong, AreRuns}
use Rattle.region_cover.specs.declared.ranges.Range.{Range}
use Rattle.region_cover.specs.declared.parts.Span.{Span}
use Rattle.region_cover.specs.declared.parts.Part.{Part}

-- runs of values that are all below a number
pub record AreRunsBelow (n : ℕ) (ranges : List Range) : Type 0 where
  pub runs : AreRuns ranges
  pub below : All (λ range. range.hi < n) ranges

-- the new ranges have the values of the old ones and some more
abbrev pub Adds : (ℕ → Type 0) → List Range → List Range → Type 0
Adds more old new = (v : ℕ) → IsAmong new v ↔ (IsAmong old v ⊎ more v)

abbrev pub IsIn : Span → ℕ → Type 0
IsIn s n = (s.first ≤ n) × (n ≤ s.last)

-- not empty, and within a side
abbrev pub IsSpan : ℕ → Span → Type 0
IsSpan side s = (s.first ≤ s.last) × (s.last < side)

abbrev pub Has : Part → ℕ × ℕ → Type 0
Has part p = IsIn part.x p.0 × IsIn part.y p.1

-- not empty, and within the square of a side
abbrev pub IsPart : ℕ → Part → Type 0
IsPart side part = IsSpan side part.x × IsSpan side part.y

-- the value of a point of the part, in a square of the curve that begins at a value
abbrev pub HasValue : (order first : ℕ) → Part → ℕ → Type 0
HasValue order first part v = (p : ℕ × ℕ) × Has part p × (first + curve_value order p.0 p.1 ≡ v)
