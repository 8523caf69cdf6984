-- What stays in a segment until something is written over it. No public contract needs these laws.
use Rattle.std.proofs.Common.{◌≡◌, inl, inr, ℕ, ◌-◌, ◌++◌, length, refl, sym, ◌∙◌, subst, arith, Option, Some, None}
use Rattle.std.proofs.lemmas.Bool.{cases_eq}
use Rattle.std.proofs.lemmas.Option.{same_Some}
use Rattle.dev_model.specs.Story.{Bytes, Story, Calls, bytes_of, after, clock_of}
use Rattle.dev_model.specs.Moments.{EachMoment}
use Rattle.dev_model.specs.Writes.{AreSpared}
use Rattle.dev_model.specs.Laws.Frame.{EachMoment-spared}
use Rattle.dev_model.specs.Laws.Runs.{EachMoment-weaker}
use Rattle.wal_log.specs.Places.{segment_start, record_start}
use Rattle.wal_log.specs.State.{IsSegmentStill}
use Rattle.wal_log.specs.Segments.{Segment, open_records, segment_records, segment_header, segment_at, IsLooked}
use Rattle.wal_log.specs.Growing.{IsRecorded, StartsWith}
use Rattle.wal_log.specs.Laws.Agreeing.{segment_at-open, segment_at-shut, segment_header-same, segment_records-front, segment_records-few}

-- the segment that bytes have
abbrev whole_of : (log_start : ℕ) → ℕ → Bytes → Segment
whole_of log_start k a = record { header = segment_header log_start k a; records = segment_records log_start k a }

-- an open segment is the one that its bytes have
opened : (log_start k : ℕ) (a : Bytes) (segment : Segment) → segment_at log_start k a ≡ Some segment → (a (segment_start log_start k) ≡ 165) × (whole_of log_start k a ≡ segment)
opened log_start k a segment is = elim (cases_eq (a (segment_start log_start k)) 165) [
  | inl started ↦ (started, same_Some _ _ (sym (segment_at-open log_start k a started) ∙ is))
  | inr shut ↦ absurd (let none : ◌≡◌ {A = Option Segment} None (Some segment) = sym (segment_at-shut log_start k a shut) ∙ is in cc)
]

-- bytes that agree at its places have it too
front_of : (log_start k : ℕ) (a b : Bytes) → a (segment_start log_start k) ≡ 165 → ((i : ℕ) → IsRecorded log_start k (whole_of log_start k a) i → b i ≡ a i) → StartsWith (whole_of log_start k a) (segment_at log_start k b)
front_of log_start k a b started same =
    let count : ℕ = length (segment_records log_start k a) in
    let gate : b (segment_start log_start k) ≡ 165 = same (segment_start log_start k) (record { from = omega arith; to = omega arith }) ∙ started in
    let header : segment_header log_start k b ≡ segment_header log_start k a = segment_header-same log_start k a b (λ i low high. same i (record { from = omega arith; to = omega arith })) in
    let records : segment_records log_start k b ≡ segment_records log_start k a ++ open_records (2049 - count) (record_start log_start k count) b =
    segment_records-front log_start k a b count (2049 - count) refl (omega (arith, segment_records-few log_start k a)) (λ i low high. same i (record { from = omega arith; to = high })) in
    subst (λ found. StartsWith (whole_of log_start k a) found) (sym (segment_at-open log_start k b gate)) (header, (open_records (2049 - count) (record_start log_start k count) b, records))

-- the places of its records are looked at
recorded-looked : (log_start k : ℕ) (a : Bytes) (i : ℕ) → a (segment_start log_start k) ≡ 165 → IsRecorded log_start k (whole_of log_start k a) i → IsLooked log_start k a i
recorded-looked log_start k a i started at = inr (started, at.from, omega (arith, at.to))

-- The header and the records of a segment are in each image of each moment of a run that writes nothing over them.
pub records-stay : (log_start k : ℕ) (s : Story) (calls : Calls) (segment : Segment) → segment_at log_start k (bytes_of s) ≡ Some segment → IsSegmentStill log_start k s
    → ((i : ℕ) → IsRecorded log_start k segment i → AreSpared calls i) → EachMoment (clock_of s) (after s calls) (λ _ image. StartsWith segment (segment_at log_start k image))
records-stay log_start k s calls segment is still spared =
    let open_there : (bytes_of s (segment_start log_start k) ≡ 165) × (whole_of log_start k (bytes_of s) ≡ segment) = opened log_start k (bytes_of s) segment is in
    subst (λ (x : Segment). ((i : ℕ) → IsRecorded log_start k x i → AreSpared calls i) → EachMoment (clock_of s) (after s calls) (λ _ image. StartsWith x (segment_at log_start k image))) open_there.1
    (λ spared. EachMoment-weaker (clock_of s) (after s calls)
    (λ _ image. (i : ℕ) → IsRecorded log_start k (whole_of log_start k (bytes_of s)) i → image i ≡ bytes_of s i)
    (λ _ image. StartsWith (whole_of log_start k (bytes_of s)) (segment_at log_start k image))
    (λ m image same. front_of log_start k (bytes_of s) image open_there.0 same)
    (EachMoment-spared s calls (IsRecorded log_start k (whole_of log_start k (bytes_of s))) spared (λ i at. still i (recorded-looked log_start k (bytes_of s) i open_there.0 at)))) spared
