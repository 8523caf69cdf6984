-- The records of a sound log are numbered one after another, so those behind a number are its last ones. No public contract needs these
-- laws.
use Rattle.std.proofs.Common.{◌≡◌, ◌⊎◌, inl, inr, ℕ, suc, ◌+◌, ◌<◌, ◌≤◌, List, [], ◌∷◌, ◌++◌, length, length-append, get_or, map, Option, Some, None, refl, sym, ◌∙◌, ap, subst, arith, nat_le, nat_lt, Bool, true, false, if◌then◌else◌}
use Rattle.std.proofs.lemmas.Bool.Decides.{nat_tests}
use Rattle.std.proofs.lemmas.List.Elements.{filter-append, All-nil, All-cons}
use Rattle.wal_log.specs.Records.{IsRecord, record_of}
use Rattle.wal_log.specs.Segments.{Segments}
use Rattle.wal_log.specs.Rules.{Numbered, first_lsn_of, AreRecords, IsEnd, AreSound, OpensFrom, Opens, in_order, records_in, records_of}
use Rattle.wal_log.specs.State.{HasLast, IsLogOf}
use Rattle.wal_log.specs.Later.{later}
use Rattle.wal_log.specs.UpTo.{up_to}
use Rattle.wal_log.specs.declared.log.Log.{Log}
use Rattle.wal_log.specs.declared.records.Record.{Record}

-- these numbers, one after another
abbrev pub AreNumbered : ℕ → List Record → Type 0
AreNumbered first [] = Unit {0}
AreNumbered first (r ∷ records) = (r.lsn ≡ first) × AreNumbered (first + 1) records

AreNumbered-append : (first : ℕ) (records more : List Record) → AreNumbered first records → AreNumbered (first + length records) more → AreNumbered first (records ++ more)
AreNumbered-append first [] more these those = let e : first + 0 ≡ first = omega arith in subst (λ (n : ℕ). AreNumbered n more) e those
AreNumbered-append first (r ∷ records) more these those =
    let e : first + suc (length records) ≡ first + 1 + length records = omega arith in
    (these.0, AreNumbered-append (first + 1) records more these.1 (subst (λ (n : ℕ). AreNumbered n more) e those))

-- those of lawful bytes
pub numbered-bodies : (first : ℕ) (bodies : List (List ℕ)) → AreRecords first bodies → AreNumbered first (map record_of bodies)
numbered-bodies first [] are = tt
numbered-bodies first (body ∷ bodies) are = (
  let e : first + 0 ≡ first = omega arith in (are 0 (omega arith)).number ∙ e,
  numbered-bodies (first + 1) bodies
      (λ i lt. let next : first + suc i ≡ first + 1 + i = omega arith in subst (λ (n : ℕ). IsRecord n (get_or bodies i [])) next (are (suc i) (omega (arith, lt)))),
)

pub length-bodies : (bodies : List (List ℕ)) → length (map record_of bodies) ≡ length bodies
length-bodies [] = refl
length-bodies (body ∷ bodies) = ap suc (length-bodies bodies)

-- so are all records of sound segments, and they end before the number of the next one
pub numbered : (ends : List ℕ) (before : Option Numbered) (n : Numbered) (ns : List Numbered) → AreSound ends before (n ∷ ns) → AreNumbered (first_lsn_of n) (records_in (n ∷ ns))
numbered ends before n [] sound =
    AreNumbered-append (first_lsn_of n) (map record_of n.segment.records) [] (numbered-bodies (first_lsn_of n) n.segment.records sound.0.segment.records.lawful) tt
numbered ends before n (m ∷ ns) sound =
    let follows : first_lsn_of m ≡ first_lsn_of n + length (map record_of n.segment.records) = omega (arith, sound.1.0.segment.start.follows.1, length-bodies n.segment.records) in
    AreNumbered-append (first_lsn_of n) (map record_of n.segment.records) (records_in (m ∷ ns)) (numbered-bodies (first_lsn_of n) n.segment.records sound.0.segment.records.lawful)
    (subst (λ (f : ℕ). AreNumbered f (records_in (m ∷ ns))) follows (numbered ends (Some n) m ns sound.1))

pub numbered-end : (ends : List ℕ) (before : Option Numbered) (n : Numbered) (ns : List Numbered) (generation next records : ℕ) → AreSound ends before (n ∷ ns) → HasLast generation next records (n ∷ ns)
    → first_lsn_of n + length (records_in (n ∷ ns)) ≡ next
numbered-end ends before n [] generation next records sound is = omega (arith, is.1, length-append (map record_of n.segment.records) [], length-bodies n.segment.records)
numbered-end ends before n (m ∷ ns) generation next records sound is =
    let rest : first_lsn_of m + length (records_in (m ∷ ns)) ≡ next = numbered-end ends (Some n) m ns generation next records sound.1 is in
    omega (arith, rest, sound.1.0.segment.start.follows.1, length-append (map record_of n.segment.records) (records_in (m ∷ ns)), length-bodies n.segment.records)

-- numbered records behind a number: none, or all
pub later-none : (last first : ℕ) (records : List Record) → AreNumbered first records → first + length records ≤ last + 1 → later last records ≡ []
later-none last first [] are below = refl
later-none last first (r ∷ records) are below =
    let not_behind : nat_lt last r.lsn ≡ false = grind (arith, nat_tests, are.0) in
    ap (λ (b : Bool). if b then r ∷ later last records else later last records) not_behind ∙ later-none last (first + 1) records are.1 (omega (arith, below))

pub later-whole : (last first : ℕ) (records : List Record) → AreNumbered first records → last < first → later last records ≡ records
later-whole last first [] are below = refl
later-whole last first (r ∷ records) are below =
    let behind : nat_lt last r.lsn ≡ true = grind (arith, nat_tests, are.0) in
    ap (λ (b : Bool). if b then r ∷ later last records else later last records) behind ∙ ap (λ (rs : List Record). r ∷ rs) (later-whole last (first + 1) records are.1 (omega (arith, below)))

up_to-none : (cut first : ℕ) (records : List Record) → AreNumbered first records → cut < first → up_to cut records ≡ []
up_to-none cut first [] are below = refl
up_to-none cut first (r ∷ records) are below =
    let not_before : nat_le r.lsn cut ≡ false = grind (arith, nat_tests, are.0) in
    ap (λ (b : Bool). if b then r ∷ up_to cut records else up_to cut records) not_before ∙ up_to-none cut (first + 1) records are.1 (omega (arith, below))

split-numbered : (last cut first : ℕ) (records : List Record) → last ≤ cut → AreNumbered first records → later last records ≡ up_to cut (later last records) ++ later cut records
split-numbered last cut first [] le are = refl
split-numbered last cut first (r ∷ records) le are = by_place (places last cut first) (split-numbered last cut (first + 1) records le are.1)
  where
    places : (last cut first : ℕ) → (first ≤ last) ⊎ ((last < first) × (first ≤ cut)) ⊎ (cut < first)
    places last cut first = grind arith

    by_place : (first ≤ last) ⊎ ((last < first) × (first ≤ cut)) ⊎ (cut < first) → later last records ≡ up_to cut (later last records) ++ later cut records
        → later last (r ∷ records) ≡ up_to cut (later last (r ∷ records)) ++ later cut (r ∷ records)
    by_place (inl before) rest =
        let a : nat_lt last r.lsn ≡ false = grind (arith, nat_tests, are.0) in
        let b : nat_lt cut r.lsn ≡ false = grind (arith, nat_tests, are.0) in
        let x : later last (r ∷ records) ≡ later last records = ap (λ (t : Bool). if t then r ∷ later last records else later last records) a in
        let y : later cut (r ∷ records) ≡ later cut records = ap (λ (t : Bool). if t then r ∷ later cut records else later cut records) b in
        x ∙ rest ∙ (λ j. up_to cut (sym x j) ++ sym y j)
    by_place (inr (inl between)) rest =
        let a : nat_lt last r.lsn ≡ true = grind (arith, nat_tests, are.0) in
        let b : nat_lt cut r.lsn ≡ false = grind (arith, nat_tests, are.0) in
        let c : nat_le r.lsn cut ≡ true = grind (arith, nat_tests, are.0) in
        let x : later last (r ∷ records) ≡ r ∷ later last records = ap (λ (t : Bool). if t then r ∷ later last records else later last records) a in
        let y : later cut (r ∷ records) ≡ later cut records = ap (λ (t : Bool). if t then r ∷ later cut records else later cut records) b in
        let z : up_to cut (r ∷ later last records) ≡ r ∷ up_to cut (later last records) = ap (λ (t : Bool). if t then r ∷ up_to cut (later last records) else up_to cut (later last records)) c in
        x ∙ ap (λ (rs : List Record). r ∷ rs) rest ∙ (λ j. sym z j ++ sym y j) ∙ (λ j. up_to cut (sym x j) ++ later cut (r ∷ records))
    by_place (inr (inr behind)) rest =
        let x : later last (r ∷ records) ≡ r ∷ records = later-whole last first (r ∷ records) are (omega (arith, le, behind)) in
        let y : later cut (r ∷ records) ≡ r ∷ records = later-whole cut first (r ∷ records) are behind in
        let z : up_to cut (r ∷ records) ≡ [] = up_to-none cut first (r ∷ records) are behind in
        x ∙ sym y ∙ (λ j. sym z j ++ later cut (r ∷ records)) ∙ (λ j. up_to cut (sym x j) ++ later cut (r ∷ records))

-- one record more, behind the number
pub later-push : (last : ℕ) (records : List Record) (r : Record) → last < r.lsn → later last (records ++ r ∷ []) ≡ later last records ++ r ∷ []
later-push last records r behind =
    let test : nat_lt last r.lsn ≡ true = grind (arith, nat_tests) in
    filter-append (λ (x : Record). nat_lt last x.lsn) records (r ∷ []) ∙ ap (λ (b : Bool). later last records ++ (if b then r ∷ [] else [])) test

-- no record of a log comes behind its last one
pub none-later : (log : Log) (segments : Segments) (last : ℕ) → IsLogOf log segments → last + 1 ≡ log.next_lsn → later last (records_of segments) ≡ []
none-later log segments last of there = by_order (in_order segments) of.sound of.newest_is
  where
    by_order : (ns : List Numbered) → AreSound [] None ns → HasLast log.generation log.next_lsn log.records ns → later last (records_in ns) ≡ []
    by_order [] sound is = absurd is
    by_order (n ∷ ns) sound is =
        let end : first_lsn_of n + length (records_in (n ∷ ns)) ≡ log.next_lsn = numbered-end [] None n ns log.generation log.next_lsn log.records sound is in
        later-none last (first_lsn_of n) (records_in (n ∷ ns)) (numbered [] None n ns sound) (omega (arith, end, there))

-- the records behind a number are those up to a later one, and those behind that
pub later-split : (log : Log) (segments : Segments) (last cut : ℕ) → IsLogOf log segments → last ≤ cut → later last (records_of segments) ≡ up_to cut (later last (records_of segments)) ++ later cut (records_of segments)
later-split log segments last cut of le = by_order (in_order segments) of.sound of.newest_is
  where
    by_order : (ns : List Numbered) → AreSound [] None ns → HasLast log.generation log.next_lsn log.records ns → later last (records_in ns) ≡ up_to cut (later last (records_in ns)) ++ later cut (records_in ns)
    by_order [] sound is = absurd is
    by_order (n ∷ ns) sound is = split-numbered last cut (first_lsn_of n) (records_in (n ∷ ns)) le (numbered [] None n ns sound)

-- sound segments are sound where an index ends right before the newest
ends-there : (last : ℕ) (before : Option Numbered) (n : Numbered) (ns : List Numbered) (generation next records : ℕ) → AreSound [] before (n ∷ ns) → HasLast generation next records (n ∷ ns) → last + 1 + records ≡ next
    → AreSound (last ∷ []) before (n ∷ ns)
ends-there last before n [] generation next records sound is there =
    (record { segment = sound.0.segment; ends_there = All-cons (IsEnd before n) last [] (by_before before) (All-nil (IsEnd before n)) }, tt)
  where
    first : last + 1 ≡ first_lsn_of n
    first = omega (arith, is.1, is.2, there)

    by_before : (before : Option Numbered) → IsEnd before n last
    by_before None = first
    by_before (Some m) = inl first
ends-there last before n (m ∷ ns) generation next records sound is there =
    (record { segment = sound.0.segment; ends_there = tt }, ends-there last (Some n) m ns generation next records sound.1 is there)

-- where an index ends right before the newest segment, the log may be read with that end
pub opens-newest : (log : Log) (segments : Segments) (last : ℕ) → IsLogOf log segments → last + 1 + log.records ≡ log.next_lsn → Opens (last ∷ []) segments
opens-newest log segments last of there = by_order (in_order segments) of.sound of.newest_is
  where
    by_order : (ns : List Numbered) → AreSound [] None ns → HasLast log.generation log.next_lsn log.records ns → OpensFrom (last ∷ []) ns
    by_order [] sound is = absurd is
    by_order (n ∷ ns) sound is = ends-there last None n ns log.generation log.next_lsn log.records sound is there
