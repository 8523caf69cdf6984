-- Which segment is named where the log can't be read.
use Rattle.std.specs.Prelude.{◌≡◌, ◌⊎◌, ℕ, List, [], ◌∷◌, Option, Some, None}
use Rattle.wal_log.specs.Segments.{Segments}
use Rattle.wal_log.specs.Rules.{Numbered, in_order, IsSound}

-- the first that isn't sound has this number
abbrev pub IsFirstUnsound : List ℕ → Option Numbered → List Numbered → ℕ → Type 0
IsFirstUnsound ends before [] number = ⊥
IsFirstUnsound ends before (n ∷ ns) number =
    ((IsSound ends before n ns → ⊥) × (number ≡ n.number))
    ⊎ (IsSound ends before n ns × IsFirstUnsound ends (Some n) ns number)

-- the segment that is named where it may not be read; 0 where none is open
abbrev pub IsBadFrom : List ℕ → List Numbered → ℕ → Type 0
IsBadFrom ends [] number = number ≡ 0
IsBadFrom ends (n ∷ ns) number = IsFirstUnsound ends None (n ∷ ns) number

abbrev pub IsBad : List ℕ → Segments → ℕ → Type 0
IsBad ends segments number = IsBadFrom ends (in_order segments) number
