-- How segments begin and grow.
use Rattle.std.specs.Prelude.{◌≡◌, ℕ, ◌<◌, ◌≤◌, List, [], ◌∷◌, ◌++◌, length, Option, Some, None}
use Rattle.wal_log.specs.Places.{segment_start, record_start}
use Rattle.gate.specs.declared.gates.TheConstants.{OPEN}
use Rattle.wal_log.specs.declared.places.TheConstants.{RECORD_BODY_BYTES}
use Rattle.wal_log.specs.Segments.{Segment}

-- a segment with these records more
abbrev pub with_records : List (List ℕ) → Option Segment → Option Segment
with_records bodies None = None
with_records bodies (Some segment) = Some (record { header = segment.header; records = segment.records ++ bodies })

-- with one record more
abbrev pub with_record : List ℕ → Option Segment → Option Segment
with_record bytes segment = with_records (bytes ∷ []) segment

-- records one behind another, each with its gate open before it, and then a closed gate
abbrev pub gated : List (List ℕ) → List ℕ
gated [] = 0 ∷ []
gated (body ∷ bodies) = OPEN ∷ body ++ gated bodies

-- what stands of them behind the first gate
abbrev pub behind_gate : List (List ℕ) → List ℕ
behind_gate [] = []
behind_gate (body ∷ bodies) = body ++ gated bodies

-- each is as wide as a record without its gate
abbrev pub AreWide : List (List ℕ) → Type 0
AreWide [] = Unit {0}
AreWide (body ∷ bodies) = (length body ≡ RECORD_BODY_BYTES) × AreWide bodies

-- a segment that has no record yet
abbrev pub started_segment : List ℕ → Segment
started_segment header = record { header = header; records = [] }

-- the places of a segment's header and of these records
pub record IsRecorded (log_start k : ℕ) (segment : Segment) (i : ℕ) : Type 0 where
  pub from : segment_start log_start k ≤ i
  pub to : i < record_start log_start k (length segment.records)

-- an open segment has this header and these records, and perhaps more behind them
abbrev pub StartsWith : Segment → Option Segment → Type 0
StartsWith old None = ⊥
StartsWith old (Some now) = (now.header ≡ old.header) × ((more : List (List ℕ)) × (now.records ≡ old.records ++ more))
