-- What is read of segments from bytes that agree in part, and from each image of a story in which all that is looked at is on the
-- disk. No public contract needs these laws.
use Rattle.std.proofs.Common.{length-append, ◌≡◌, ◌≢◌, ◌⊎◌, inl, inr, ⊎_elim, ℕ, zero, suc, ◌+◌, ◌-◌, ◌*◌, ◌<◌, ◌≤◌, List, [], ◌∷◌, ◌++◌, length, set, get_or, refl, sym, ◌∙◌, ap, subst, arith, Option, Some, None, if◌then◌else◌, ◌==◌}
use Rattle.std.proofs.lemmas.Bool.{cases_eq}
use Rattle.std.proofs.lemmas.Bool.Decides.{nat_tests}
use Rattle.std.proofs.lemmas.List.{nil_from_length, append-nil, get_or_append_left, get_or-append_right}
use Rattle.dev_model.specs.Story.{Bytes, Story, bytes_of, part, IsImageNow}
use Rattle.dev_model.specs.Laws.Ranges.{part-same, part-list}
use Rattle.gate.specs.Gates.{Holds}
use Rattle.wal_log.specs.Places.{segment_start, record_start}
use Rattle.wal_log.specs.State.{IsStill}
use Rattle.wal_log.specs.Segments.{Segment, open_records, segment_records, segment_header, segment_at, segments_of, IsLooked}
use Rattle.wal_log.specs.Growing.{with_records, gated, behind_gate, AreWide}

pub open_records-shut : (places at : ℕ) (a : Bytes) → a at ≢ 165 → open_records places at a ≡ []
unfolding open_records
open_records-shut zero at a shut = refl
open_records-shut (suc places) at a shut = grind (arith, nat_tests)

pub open_records-open : (places at : ℕ) (a : Bytes) → a at ≡ 165 → open_records (suc places) at a ≡ part (at + 1) 95 a ∷ open_records places (at + 96) a
unfolding open_records
open_records-open places at a is = grind (arith, nat_tests)

-- no more records than places
pub open_records-few : (places at : ℕ) (a : Bytes) → length (open_records places at a) ≤ places
unfolding open_records
open_records-few zero at a = omega arith
open_records-few (suc places) at a = elim (cases_eq (a at) 165) [
  | inl is ↦ let from : open_records (suc places) at a ≡ part (at + 1) 95 a ∷ open_records places (at + 96) a = open_records-open places at a is in
      let rest : length (open_records places (at + 96) a) ≤ places = open_records-few places (at + 96) a in
      omega (arith, ap length from, rest)
  | inr shut ↦ omega (arith, ap length (open_records-shut (suc places) at a shut))
]

-- where all bytes of the first records agree, what stands behind them is read as in the second
pub open_records-front : (count places total at : ℕ) (a b : Bytes) → total ≡ count + places → length (open_records total at a) ≡ count
    → ((i : ℕ) → at ≤ i → i < at + 96 * count → b i ≡ a i)
    → open_records total at b ≡ open_records total at a ++ open_records places (at + 96 * count) b
open_records-front zero places total at a b is counts same =
    let none : open_records total at a ≡ [] = nil_from_length (open_records total at a) counts in
    let all : total ≡ places = omega arith in
    let here : at ≡ at + 96 * 0 = omega arith in
    rw none ((λ j. open_records (all j) (here j) b))
open_records-front (suc count) places zero at a b is counts same = absurd (omega arith)
open_records-front (suc count) places (suc total) at a b is counts same = elim (cases_eq (a at) 165) [
  | inl open_gate ↦
      let from : open_records (suc total) at a ≡ part (at + 1) 95 a ∷ open_records total (at + 96) a = open_records-open total at a open_gate in
      let to : open_records (suc total) at b ≡ part (at + 1) 95 b ∷ open_records total (at + 96) b = open_records-open total at b (same at (omega arith) (omega arith) ∙ open_gate) in
      let body : part (at + 1) 95 b ≡ part (at + 1) 95 a = part-same (at + 1) 95 b a (λ i low high. same i (omega arith) (omega arith)) in
      let rest : open_records total (at + 96) b ≡ open_records total (at + 96) a ++ open_records places (at + 96 + 96 * count) b =
      open_records-front count places total (at + 96) a b (omega arith) (omega (arith, ap length from)) (λ i low high. same i (omega arith) (omega arith)) in
      let place : at + 96 + 96 * count ≡ at + 96 * suc count = omega arith in
      to ∙ (λ j. body j ∷ rest j) ∙ (λ j. part (at + 1) 95 a ∷ (open_records total (at + 96) a ++ open_records places (place j) b)) ∙ ap (λ (l : List (List ℕ)). l ++ open_records places (at + 96 * suc count) b) (sym from)
  | inr shut ↦ absurd (omega (arith, ap length (open_records-shut (suc total) at a shut)))
]

-- the gate behind the last record, where there is a place for it, isn't open
pub open_records-end : (places at : ℕ) (a : Bytes) → length (open_records places at a) < places → a (at + 96 * length (open_records places at a)) ≢ 165
open_records-end zero at a less = absurd (omega arith)
open_records-end (suc places) at a less = elim (cases_eq (a at) 165) [
  | inl open_gate ↦
      let from : length (open_records (suc places) at a) ≡ suc (length (open_records places (at + 96) a)) = ap length (open_records-open places at a open_gate) in
      let place : at + 96 + 96 * length (open_records places (at + 96) a) ≡ at + 96 * length (open_records (suc places) at a) = omega (arith, from) in
      λ is. open_records-end places (at + 96) a (omega (arith, from)) (ap a place ∙ is)
  | inr shut ↦
      let none : length (open_records (suc places) at a) ≡ 0 = ap length (open_records-shut (suc places) at a shut) in
      let place : at ≡ at + 96 * length (open_records (suc places) at a) = omega (arith, none) in
      λ is. shut (ap a place ∙ is)
]

pub length-gated : (bodies : List (List ℕ)) → AreWide bodies → length (gated bodies) ≡ 96 * length bodies + 1
length-gated [] wide = refl
length-gated (body ∷ bodies) wide = omega (arith, length-append body (gated bodies), wide.0, length-gated bodies wide.1)

pub gated-behind : (bodies : List (List ℕ)) → 0 < length bodies → 165 ∷ behind_gate bodies ≡ gated bodies
gated-behind [] some = absurd (omega arith)
gated-behind (body ∷ bodies) some = refl

-- records with their gates are read as these records
pub open_records-gated : (bodies : List (List ℕ)) (places at : ℕ) (a : Bytes) → length bodies < places → AreWide bodies → Holds at (gated bodies) a → open_records places at a ≡ bodies
open_records-gated [] places at a less wide there =
    let here : at + 0 ≡ at = omega arith in
    let zero_is : a at ≡ 0 = ap a (sym here) ∙ there 0 (omega arith) in
    open_records-shut places at a (λ is. omega (arith, is, zero_is))
open_records-gated (body ∷ bodies) zero at a less wide there = absurd (omega (arith, less))
open_records-gated (body ∷ bodies) (suc places) at a less wide there =
    let here : at + 0 ≡ at = omega arith in
    let all : length (165 ∷ body ++ gated bodies) ≡ 96 + length (gated bodies) = omega (arith, length-append body (gated bodies), wide.0) in
    let gate : a at ≡ 165 = ap a (sym here) ∙ there 0 (omega (arith, all)) in
    let first : part (at + 1) 95 a ≡ body = part-list (at + 1) 95 a body wide.0 (λ n lt.
    let place : at + 1 + n ≡ at + suc n = omega arith in
    ap a place ∙ there (suc n) (omega (arith, all, lt)) ∙ get_or_append_left body (gated bodies) 0 n (omega (arith, wide.0, lt))) in
    let rest : open_records places (at + 96) a ≡ bodies = open_records-gated bodies places (at + 96) a (omega (arith, less)) wide.1 (λ n lt.
    let place : at + 96 + n ≡ at + suc (95 + n) = omega arith in
    let behind : 95 + n - 95 ≡ n = omega arith in
    ap a place ∙ there (suc (95 + n)) (omega (arith, all, lt)) ∙ get_or-append_right body (gated bodies) 95 (95 + n) 0 wide.0 (omega arith) ∙ ap (λ (m : ℕ). get_or (gated bodies) m 0) behind) in
    open_records-open places at a gate ∙ (λ j. first j ∷ rest j)

-- behind the records there is a closed gate
pub segment_records-end : (log_start k count : ℕ) (a : Bytes) → length (segment_records log_start k a) ≡ count → count ≤ 2048 → a (record_start log_start k count) ≢ 165
unfolding segment_records
segment_records-end log_start k count a counts few is =
    let place : segment_start log_start k + 64 + 96 * length (segment_records log_start k a) ≡ record_start log_start k count = omega (arith, counts) in
    open_records-end 2049 (segment_start log_start k + 64) a (omega (arith, counts)) (ap a place ∙ is)

pub segment_records-few : (log_start k : ℕ) (a : Bytes) → length (segment_records log_start k a) ≤ 2049
unfolding segment_records
segment_records-few log_start k a = open_records-few 2049 (segment_start log_start k + 64) a

pub segment_at-open : (log_start k : ℕ) (a : Bytes) → a (segment_start log_start k) ≡ 165 → segment_at log_start k a ≡ Some (record { header = segment_header log_start k a; records = segment_records log_start k a })
segment_at-open log_start k a is = grind (arith, nat_tests)

pub segment_at-shut : (log_start k : ℕ) (a : Bytes) → a (segment_start log_start k) ≢ 165 → segment_at log_start k a ≡ None
segment_at-shut log_start k a shut = grind (arith, nat_tests)

module _ (log_start k : ℕ) (a b : Bytes) where
  pub segment_header-same : ((i : ℕ) → segment_start log_start k < i → i < segment_start log_start k + 64 → b i ≡ a i) → segment_header log_start k b ≡ segment_header log_start k a
  unfolding segment_header
  segment_header-same same = part-same (segment_start log_start k + 1) 63 b a (λ i low high. same i (omega arith) (omega arith))

  -- what stands behind the records of the first is read as in the second
  pub segment_records-front : (count places : ℕ) → length (segment_records log_start k a) ≡ count → 2049 ≡ count + places
      → ((i : ℕ) → segment_start log_start k + 64 ≤ i → i < record_start log_start k count → b i ≡ a i)
      → segment_records log_start k b ≡ segment_records log_start k a ++ open_records places (record_start log_start k count) b
  unfolding segment_records
  segment_records-front count places counts is same = open_records-front count places 2049 (segment_start log_start k + 64) a b is counts same

  module _ (count : ℕ) (counts : length (segment_records log_start k a) ≡ count) (started : a (segment_start log_start k) ≡ 165)
      (same : (i : ℕ) → segment_start log_start k ≤ i → i < record_start log_start k count → b i ≡ a i) where
    header : segment_header log_start k b ≡ segment_header log_start k a
    header = segment_header-same (λ i low high. same i (omega arith) (omega arith))

    gate : b (segment_start log_start k) ≡ 165
    gate = same (segment_start log_start k) (omega arith) (omega arith) ∙ started

    -- a closed gate behind the records: the segment is the same
    pub segment_at-kept : count ≤ 2048 → b (record_start log_start k count) ≢ 165 → segment_at log_start k b ≡ segment_at log_start k a
    segment_at-kept few shut =
        let front : segment_records log_start k b ≡ segment_records log_start k a ++ open_records (2049 - count) (record_start log_start k count) b = segment_records-front count (2049 - count) counts (omega arith) (λ i low high. same i (omega arith) high) in
        let records : segment_records log_start k b ≡ segment_records log_start k a =
        front ∙ ap (λ (l : List (List ℕ)). segment_records log_start k a ++ l) (open_records-shut (2049 - count) (record_start log_start k count) b shut) ∙ append-nil (segment_records log_start k a) in
        segment_at-open log_start k b gate ∙ (λ j. Some (record { header = header j; records = records j })) ∙ sym (segment_at-open log_start k a started)

    -- records behind them, and a closed gate behind these
    pub segment_records-grown : (bodies : List (List ℕ)) → count + length bodies ≤ 2048 → AreWide bodies → Holds (record_start log_start k count) (gated bodies) b
        → segment_records log_start k b ≡ segment_records log_start k a ++ bodies
    segment_records-grown bodies room wide there =
        let front : segment_records log_start k b ≡ segment_records log_start k a ++ open_records (2049 - count) (record_start log_start k count) b = segment_records-front count (2049 - count) counts (omega (arith, room)) (λ i low high. same i (omega arith) high) in
        front ∙ ap (λ (l : List (List ℕ)). segment_records log_start k a ++ l) (open_records-gated bodies (2049 - count) (record_start log_start k count) b (omega (arith, room)) wide there)

    pub segment_at-grown : (bodies : List (List ℕ)) → count + length bodies ≤ 2048 → AreWide bodies → Holds (record_start log_start k count) (gated bodies) b
        → segment_at log_start k b ≡ with_records bodies (segment_at log_start k a)
    segment_at-grown bodies room wide there =
        let records : segment_records log_start k b ≡ segment_records log_start k a ++ bodies = segment_records-grown bodies room wide there in
        segment_at-open log_start k b gate ∙ (λ j. Some (record { header = header j; records = records j })) ∙ ap (with_records bodies) (sym (segment_at-open log_start k a started))

-- agreement at all that is looked at
open_records-same : (places at : ℕ) (a b : Bytes) → ((i : ℕ) → at ≤ i → i ≤ at + 96 * length (open_records places at a) → b i ≡ a i) → open_records places at b ≡ open_records places at a
unfolding open_records
open_records-same zero at a b same = refl
open_records-same (suc places) at a b same = elim (cases_eq (a at) 165) [
  | inl is ↦
      let from : open_records (suc places) at a ≡ part (at + 1) 95 a ∷ open_records places (at + 96) a = open_records-open places at a is in
      let counts : length (open_records (suc places) at a) ≡ suc (length (open_records places (at + 96) a)) = ap length from in
      let to : open_records (suc places) at b ≡ part (at + 1) 95 b ∷ open_records places (at + 96) b = open_records-open places at b (same at (omega arith) (omega arith) ∙ is) in
      let body : part (at + 1) 95 b ≡ part (at + 1) 95 a = part-same (at + 1) 95 b a (λ i low high. same i (omega arith) (omega (arith, counts))) in
      let rest : open_records places (at + 96) b ≡ open_records places (at + 96) a = open_records-same places (at + 96) a b (λ i low high. same i (omega arith) (omega (arith, counts))) in
      to ∙ (λ j. body j ∷ rest j) ∙ sym from
  | inr shut ↦
      open_records-shut (suc places) at b (λ is. shut (sym (same at (omega arith) (omega arith)) ∙ is)) ∙ sym (open_records-shut (suc places) at a shut)
]

pub segment_at-same : (log_start k : ℕ) (a b : Bytes) → ((i : ℕ) → IsLooked log_start k a i → b i ≡ a i) → segment_at log_start k b ≡ segment_at log_start k a
unfolding segment_records
segment_at-same log_start k a b same = elim (cases_eq (a (segment_start log_start k)) 165) [
  | inl is ↦
      let looked : (i : ℕ) → segment_start log_start k ≤ i → i ≤ record_start log_start k (length (segment_records log_start k a)) → b i ≡ a i = λ i low high. same i (inr (is, low, high)) in
      let header : segment_header log_start k b ≡ segment_header log_start k a = segment_header-same log_start k a b (λ i low high. looked i (omega arith) (omega arith)) in
      let records : segment_records log_start k b ≡ segment_records log_start k a = open_records-same 2049 (segment_start log_start k + 64) a b (λ i low high. looked i (omega arith) high) in
      let gate : b (segment_start log_start k) ≡ a (segment_start log_start k) = looked (segment_start log_start k) (omega arith) (omega arith) in
      (λ j. if gate j == 165 then Some (record { header = header j; records = records j }) else None)
  | inr shut ↦
      segment_at-shut log_start k b (λ is. shut (sym (same (segment_start log_start k) (inl refl)) ∙ is)) ∙ sym (segment_at-shut log_start k a shut)
]

pub segment_records-same : (log_start k : ℕ) (a b : Bytes) → a (segment_start log_start k) ≡ 165 → ((i : ℕ) → IsLooked log_start k a i → b i ≡ a i) → segment_records log_start k b ≡ segment_records log_start k a
unfolding segment_records
segment_records-same log_start k a b started same = open_records-same 2049 (segment_start log_start k + 64) a b (λ i low high. same i (inr (started, omega arith, high)))

-- where all that is looked at agrees, no more is looked at
pub looked-back : (log_start k : ℕ) (a b : Bytes) → ((i : ℕ) → IsLooked log_start k a i → b i ≡ a i) → (i : ℕ) → IsLooked log_start k b i → IsLooked log_start k a i
looked-back log_start k a b same i looked = elim (cases_eq (a (segment_start log_start k)) 165) [
  | inl is ↦
      let records : segment_records log_start k b ≡ segment_records log_start k a = segment_records-same log_start k a b is same in
      ⊎_elim (λ here. inl here) (λ in_it. inr (is, in_it.1, omega (arith, in_it.2, ap length records))) looked
  | inr shut ↦ ⊎_elim (λ here. inl here) (λ in_it. absurd (shut (sym (same (segment_start log_start k) (inl refl)) ∙ in_it.0))) looked
]

-- the four segments, one by one
pub segments_of-same : (log_start : ℕ) (a b : Bytes) → ((j : ℕ) → j < 4 → segment_at log_start j b ≡ segment_at log_start j a) → segments_of log_start b ≡ segments_of log_start a
segments_of-same log_start a b same i = same 0 (omega arith) i ∷ same 1 (omega arith) i ∷ same 2 (omega arith) i ∷ same 3 (omega arith) i ∷ []

pub segments_of-at : (log_start k : ℕ) (a : Bytes) → k < 4 → get_or (segments_of log_start a) k None ≡ segment_at log_start k a
segments_of-at log_start zero a lt = refl
segments_of-at log_start (suc zero) a lt = refl
segments_of-at log_start (suc (suc zero)) a lt = refl
segments_of-at log_start (suc (suc (suc zero))) a lt = refl
segments_of-at log_start (suc (suc (suc (suc k)))) a lt = absurd (omega arith)

pub segments_of-set : (log_start k : ℕ) (a b : Bytes) (new : Option Segment) → k < 4 → segment_at log_start k b ≡ new → ((j : ℕ) → j < 4 → j ≢ k → segment_at log_start j b ≡ segment_at log_start j a) → segments_of log_start b ≡ set (segments_of log_start a) k new
segments_of-set log_start zero a b new lt there same = λ i. there i ∷ same 1 (omega arith) (omega arith) i ∷ same 2 (omega arith) (omega arith) i ∷ same 3 (omega arith) (omega arith) i ∷ []
segments_of-set log_start (suc zero) a b new lt there same = λ i. same 0 (omega arith) (omega arith) i ∷ there i ∷ same 2 (omega arith) (omega arith) i ∷ same 3 (omega arith) (omega arith) i ∷ []
segments_of-set log_start (suc (suc zero)) a b new lt there same = λ i. same 0 (omega arith) (omega arith) i ∷ same 1 (omega arith) (omega arith) i ∷ there i ∷ same 3 (omega arith) (omega arith) i ∷ []
segments_of-set log_start (suc (suc (suc zero))) a b new lt there same = λ i. same 0 (omega arith) (omega arith) i ∷ same 1 (omega arith) (omega arith) i ∷ same 2 (omega arith) (omega arith) i ∷ there i ∷ []
segments_of-set log_start (suc (suc (suc (suc k)))) a b new lt there same = absurd (omega arith)

-- what is looked at in another segment stands before or behind this one
pub looked-elsewhere : (log_start j k i : ℕ) (a : Bytes) → j ≢ k → IsLooked log_start j a i → (i < segment_start log_start k) ⊎ (segment_start log_start k + 262144 ≤ i)
looked-elsewhere log_start j k i a unlike looked =
    let low : segment_start log_start j ≤ i = ⊎_elim (λ here. omega (arith, here)) (λ in_it. in_it.1) looked in
    let high : i < segment_start log_start j + 262144 = ⊎_elim (λ here. omega (arith, here)) (λ in_it. omega (arith, in_it.2, segment_records-few log_start j a)) looked in
    ⊎_elim (λ before. inl (omega arith)) (λ behind. inr (omega arith)) (sides j k unlike)
  where
    sides : (j k : ℕ) → j ≢ k → (j < k) ⊎ (k < j)
    sides j k unlike = grind arith

-- Bytes that agree at what is looked at outside of one segment give the same other segments.
pub segments-elsewhere : (log_start k : ℕ) (a b : Bytes) → ((i : ℕ) → (i < segment_start log_start k) ⊎ (segment_start log_start k + 262144 ≤ i) → (j : ℕ) → j < 4 → IsLooked log_start j a i → b i ≡ a i)
    → (j : ℕ) → j < 4 → j ≢ k → segment_at log_start j b ≡ segment_at log_start j a
segments-elsewhere log_start k a b same j lt unlike = segment_at-same log_start j a b (λ i looked. same i (looked-elsewhere log_start j k i a unlike looked) j lt looked)

pub segments_of-at_one : (log_start k : ℕ) (a b : Bytes) → segment_at log_start k b ≡ segment_at log_start k a → ((j : ℕ) → j < 4 → j ≢ k → segment_at log_start j b ≡ segment_at log_start j a) → segments_of log_start b ≡ segments_of log_start a
segments_of-at_one log_start k a b here rest =
    segments_of-same log_start a b (λ j lt. elim (cases_eq j k) [
      | inl is ↦ subst (λ (n : ℕ). segment_at log_start n b ≡ segment_at log_start n a) (sym is) here
      | inr unlike ↦ rest j lt unlike
    ])

-- a started segment without records
pub segment_at-started : (log_start k : ℕ) (a : Bytes) (header : List ℕ) → a (segment_start log_start k) ≡ 165 → part (segment_start log_start k + 1) 63 a ≡ header → a (segment_start log_start k + 64) ≢ 165
    → (segment_at log_start k a ≡ Some (record { header = header; records = [] })) × (segment_records log_start k a ≡ [])
unfolding segment_header segment_records
segment_at-started log_start k a header is there shut =
    let none : segment_records log_start k a ≡ [] = open_records-shut 2049 (segment_start log_start k + 64) a shut in
    (segment_at-open log_start k a is ∙ (λ j. Some (record { header = there j; records = none j })), none)

-- all that is looked at is on the disk: each image of the present moment has the same segments
pub segments-on_disk : (log_start : ℕ) (s : Story) (image : Bytes) → IsStill log_start s → IsImageNow s image → segments_of log_start image ≡ segments_of log_start (bytes_of s)
segments-on_disk log_start s image still is = segments_of-same log_start (bytes_of s) image (λ j lt. segment_at-same log_start j (bytes_of s) image (λ i looked. is i (still j lt i looked)))
