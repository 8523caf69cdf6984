-- The records of a log behind the first number of its newest segment. No public contract needs these laws.
use Rattle.std.proofs.Common.{◌≡◌, ◌⊎◌, inl, inr, ℕ, ◌+◌, ◌<◌, ◌≤◌, List, [], ◌∷◌, ◌++◌, length, length-append, map, None, Bool, false, drop, if◌then◌else◌, nat_lt, sym, ◌∙◌, ap, arith}
use Rattle.std.proofs.lemmas.Bool.Decides.{nat_tests}
use Rattle.std.proofs.Math.Seq.{drop-append_seam}
use Rattle.wal_log.specs.Later.{later}
use Rattle.wal_log.specs.UpTo.{up_to}
use Rattle.wal_log.specs.Laws.Later.{AreNumbered, length-bodies, numbered, numbered-end, later-split, later-whole}
use Rattle.wal_log.specs.Records.{record_of}
use Rattle.wal_log.specs.Rules.{Numbered, first_lsn_of, AreSound, in_order, records_in, records_of}
use Rattle.wal_log.specs.Segments.{Segments}
use Rattle.wal_log.specs.State.{HasLast, IsLogOf}
use Rattle.wal_log.specs.declared.log.Log.{Log}
use Rattle.wal_log.specs.declared.records.Record.{Record}

-- how many of numbered records come behind a number that is among theirs
length-later : (last first : ℕ) (records : List Record) → AreNumbered first records → first ≤ last + 1 → last + 1 ≤ first + length records
    → length (later last records) + (last + 1) ≡ first + length records
length-later last first [] are low high = omega (arith, low, high)
length-later last first (r ∷ records) are low high =
    by_place (places last first) (λ before. length-later last (first + 1) records are.1 (omega (arith, before)) (omega (arith, high)))
  where
    places : (last first : ℕ) → (first ≤ last) ⊎ (last < first)
    places last first = grind arith

    by_place : (first ≤ last) ⊎ (last < first) → (first ≤ last → length (later last records) + (last + 1) ≡ first + 1 + length records)
        → length (later last (r ∷ records)) + (last + 1) ≡ first + length (r ∷ records)
    by_place (inl before) rest =
        let test : nat_lt last r.lsn ≡ false = grind (arith, nat_tests, are.0) in
        let same : later last (r ∷ records) ≡ later last records = ap (λ (b : Bool). if b then r ∷ later last records else later last records) test in
        let count : length (later last (r ∷ records)) ≡ length (later last records) = ap length same in
        omega (arith, count, rest before)
    by_place (inr behind) rest =
        let count : length (later last (r ∷ records)) ≡ length (r ∷ records) = ap length (later-whole last first (r ∷ records) are behind) in
        omega (arith, low, behind, count)

-- a log has at least the records of its newest segment
last-few : (n : Numbered) (ns : List Numbered) (generation next records : ℕ) → HasLast generation next records (n ∷ ns) → records ≤ length (records_in (n ∷ ns))
last-few n [] generation next records is = omega (arith, is.2, length-append (map record_of n.segment.records) [], length-bodies n.segment.records)
last-few n (m ∷ ns) generation next records is =
    let rest : records ≤ length (records_in (m ∷ ns)) = last-few m ns generation next records is in
    omega (arith, rest, length-append (map record_of n.segment.records) (records_in (m ∷ ns)))

-- behind the number right before its newest segment a log has the records of that segment
pub length-newest : (log : Log) (segments : Segments) (last : ℕ) → IsLogOf log segments → last + 1 + log.records ≡ log.next_lsn → length (later last (records_of segments)) ≡ log.records
length-newest log segments last of there = by_order (in_order segments) of.sound of.newest_is
  where
    by_order : (ns : List Numbered) → AreSound [] None ns → HasLast log.generation log.next_lsn log.records ns → length (later last (records_in ns)) ≡ log.records
    by_order [] sound is = absurd is
    by_order (n ∷ ns) sound is =
        let end : first_lsn_of n + length (records_in (n ∷ ns)) ≡ log.next_lsn = numbered-end [] None n ns log.generation log.next_lsn log.records sound is in
        let few : log.records ≤ length (records_in (n ∷ ns)) = last-few n ns log.generation log.next_lsn log.records is in
        let count : _ = length-later last (first_lsn_of n) (records_in (n ∷ ns)) (numbered [] None n ns sound) (omega (arith, end, few, there)) (omega (arith, end, there)) in
        omega (arith, count, end, there)

-- lists that are equal where they end in as many elements end in the same ones
same-ends : (xs ys us vs : List Record) → xs ++ ys ≡ us ++ vs → length ys ≡ length vs → ys ≡ vs
same-ends xs ys us vs same count =
    let total : length (xs ++ ys) ≡ length (us ++ vs) = ap length same in
    let fronts : length xs ≡ length us = omega (arith, total, length-append xs ys, length-append us vs, count) in
    sym (drop-append_seam xs ys) ∙ (λ j. drop (fronts j) (same j)) ∙ drop-append_seam us vs

-- Records behind a number that are cut in two, of which the second part has as many as the newest segment: that part comes behind
-- the segment's first number.
pub newest-are : (log : Log) (segments : Segments) (last cut : ℕ) (before behind : List Record) → IsLogOf log segments → last ≤ cut → cut + 1 + log.records ≡ log.next_lsn
    → later last (records_of segments) ≡ before ++ behind → length behind ≡ log.records → later cut (records_of segments) ≡ behind
newest-are log segments last cut before behind of le there are count =
    same-ends (up_to cut (later last (records_of segments))) (later cut (records_of segments)) before behind (sym (later-split log segments last cut of le) ∙ are)
    (length-newest log segments cut of there ∙ sym count)
