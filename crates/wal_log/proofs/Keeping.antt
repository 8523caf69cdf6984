-- An append keeps the rules: the segments in order, with more records in the newest.
use Rattle.std.proofs.Common.{length-append, ◌-◌, ◌≡◌, ◌≢◌, ◌⊎◌, inl, inr, ⊎_elim, ℕ, zero, suc, ◌+◌, ◌<◌, ◌≤◌, ◌%◌, List, [], ◌∷◌, ◌++◌, length, get_or, set, map, Option, Some, None, refl, sym, ◌∙◌, ap, subst, arith, nat_le, if◌then◌else◌, Bool, true, false, append_assoc, ◌==◌}
use Rattle.std.proofs.lemmas.Bool.Decides.{nat_tests}
use Rattle.std.proofs.lemmas.List.{append-nil, get_or_append_left, get_or-append_right, map-append}
use Rattle.wal_log.specs.Records.{IsRecord, record_of}
use Rattle.wal_log.specs.Segments.{Segments}
use Rattle.wal_log.specs.Growing.{with_records}
use Rattle.wal_log.specs.Rules.{Numbered, generation_of, first_lsn_of, placed, ordered, in_order, AreRecords, HasStart, AreEnds, IsSound, AreSound, Opens, OpensFrom, records_in, records_of}
use Rattle.wal_log.specs.State.{HasLast, IsLogOf, newest}
use Rattle.wal_log.specs.Changes.{OpensAs, HasRecordsOrAll, IsBeforeOrAfterAll}
use Rattle.wal_log.specs.declared.log.Log.{Log}
use Rattle.wal_log.specs.declared.records.Record.{Record}

-- each of a list of segments has P
abbrev pub AllOf : (Numbered → Type 0) → List Numbered → Type 0
AllOf P [] = Unit {0}
AllOf P (n ∷ ns) = P n × AllOf P ns

all-if : (P : Numbered → Type 0) (t : Bool) (xs ys : List Numbered) → AllOf P xs → AllOf P ys → AllOf P (if t then xs else ys)
all-if P true xs ys are_xs are_ys = are_xs
all-if P false xs ys are_xs are_ys = are_ys

pub all-placed : (P : Numbered → Type 0) (n : Numbered) (ns : List Numbered) → P n → AllOf P ns → AllOf P (placed n ns)
all-placed P n [] is are = (is, tt)
all-placed P n (m ∷ ms) is are = all-if P (nat_le (generation_of n) (generation_of m)) (n ∷ m ∷ ms) (m ∷ placed n ms) (is, are) (are.0, all-placed P n ms is are.1)

-- all numbers are above one that is lower than the first
pub above : (k j : ℕ) (segments : Segments) → k < j → AllOf (λ n. k < n.number) (ordered j segments)
above k j [] lt = tt
above k j (None ∷ rest) lt = above k (j + 1) rest (omega (arith, lt))
above k j (Some s ∷ rest) lt = all-placed (λ n. k < n.number) (record { number = j; segment = s }) (ordered (j + 1) rest) lt (above k (j + 1) rest (omega (arith, lt)))

module _ (k : ℕ) (bodies : List (List ℕ)) where
  -- a numbered segment with these records more
  abbrev more : Numbered → Numbered
  more n = record { number = n.number; segment = record { header = n.segment.header; records = n.segment.records ++ bodies } }

  -- the segment with this number gets the records
  abbrev grown : Numbered → Numbered
  grown n = if n.number == k then more n else n

  grown-here : (n : Numbered) → n.number ≡ k → grown n ≡ more n
  grown-here n is = grind (arith, nat_tests)

  grown-other : (n : Numbered) → n.number ≢ k → grown n ≡ n
  grown-other n unlike = grind (arith, nat_tests)

  grown-generation : (n : Numbered) → generation_of (grown n) ≡ generation_of n
  grown-generation n = by_test (n.number == k)
    where
      by_test : (b : Bool) → generation_of (if b then more n else n) ≡ generation_of n
      by_test true = refl
      by_test false = refl

  if-map : (t : Bool) (xs ys : List Numbered) → (if t then map grown xs else map grown ys) ≡ map grown (if t then xs else ys)
  if-map true xs ys = refl
  if-map false xs ys = refl

  placed-grown : (n : Numbered) (ns : List Numbered) → placed (grown n) (map grown ns) ≡ map grown (placed n ns)
  placed-grown n [] = refl
  placed-grown n (m ∷ ms) =
      (λ j. if nat_le (grown-generation n j) (grown-generation m j) then grown n ∷ grown m ∷ map grown ms else grown m ∷ placed-grown n ms j)
      ∙ if-map (nat_le (generation_of n) (generation_of m)) (n ∷ m ∷ ms) (m ∷ placed n ms)

  grown-none : (ns : List Numbered) → AllOf (λ n. k < n.number) ns → map grown ns ≡ ns
  grown-none [] are = refl
  grown-none (n ∷ ns) are = λ i. grown-other n (λ is. omega (arith, is, are.0)) i ∷ grown-none ns are.1 i

-- more records in a segment are more records there in the order
pub ordered-grown : (k i j : ℕ) (bodies : List (List ℕ)) (segments : Segments) → j + i ≡ k → ordered j (set segments i (with_records bodies (get_or segments i None))) ≡ map (grown k bodies) (ordered j segments)
ordered-grown k i j bodies [] is = none i
  where
    none : (i : ℕ) → ordered j (set [] i (with_records bodies (get_or [] i None))) ≡ []
    none zero = refl
    none (suc i) = refl
ordered-grown k zero j bodies (None ∷ rest) is = sym (grown-none k bodies (ordered (j + 1) rest) (above k (j + 1) rest (omega (arith, is))))
ordered-grown k zero j bodies (Some s ∷ rest) is =
    let here : j ≡ k = omega (arith, is) in
    let n : Numbered = record { number = j; segment = s } in
    let same : map (grown k bodies) (ordered (j + 1) rest) ≡ ordered (j + 1) rest = grown-none k bodies (ordered (j + 1) rest) (above k (j + 1) rest (omega (arith, is))) in
    (λ i. placed (sym (grown-here k bodies n here) i) (sym same i)) ∙ placed-grown k bodies n (ordered (j + 1) rest)
ordered-grown k (suc i) j bodies (None ∷ rest) is = ordered-grown k i (j + 1) bodies rest (omega (arith, is))
ordered-grown k (suc i) j bodies (Some s ∷ rest) is =
    let n : Numbered = record { number = j; segment = s } in
    let unlike : j ≢ k = λ e. omega (arith, e, is) in
    ap (placed n) (ordered-grown k i (j + 1) bodies rest (omega (arith, is)))
    ∙ ap (λ (m : Numbered). placed m (map (grown k bodies) (ordered (j + 1) rest))) (sym (grown-other k bodies n unlike)) ∙ placed-grown k bodies n (ordered (j + 1) rest)

length-placed : (n : Numbered) (ns : List Numbered) → length (placed n ns) ≡ suc (length ns)
length-placed n [] = refl
length-placed n (m ∷ ms) = by_test (nat_le (generation_of n) (generation_of m)) (length-placed n ms)
  where
    by_test : (t : Bool) → length (placed n ms) ≡ suc (length ms) → length (if t then n ∷ m ∷ ms else m ∷ placed n ms) ≡ suc (suc (length ms))
    by_test true rest = refl
    by_test false rest = ap suc rest

pub length-ordered : (j : ℕ) (segments : Segments) → length (ordered j segments) ≤ length segments
length-ordered j [] = omega arith
length-ordered j (None ∷ rest) = omega (arith, length-ordered (j + 1) rest)
length-ordered j (Some s ∷ rest) = omega (arith, length-ordered (j + 1) rest, length-placed (record { number = j; segment = s }) (ordered (j + 1) rest))

-- the generations rise by one from each segment to the next
pub generations : (ends : List ℕ) (before : Option Numbered) (n : Numbered) (ns : List Numbered) (generation next records : ℕ) → AreSound ends before (n ∷ ns) → HasLast generation next records (n ∷ ns) → generation_of n + length ns ≡ generation
generations ends before n [] generation next records all last = omega (arith, last.0)
generations ends before n (m ∷ ms) generation next records all last =
    omega (arith, all.1.0.segment.start.follows.0, generations ends (Some n) m ms generation next records all.1 last)

lawful-more : (first : ℕ) (records bodies : List (List ℕ)) → AreRecords first records → AreRecords (first + length records) bodies → AreRecords first (records ++ bodies)
lawful-more first records bodies lawful are i lt = ⊎_elim
    (λ below. subst (IsRecord (first + i)) (sym (get_or_append_left records bodies [] i below)) (lawful i below))
    (λ behind.
    let number : first + length records + (i - length records) ≡ first + i = omega (arith, behind) in
    subst (IsRecord (first + i)) (sym (get_or-append_right records bodies (length records) i [] refl behind))
    (subst (λ (n : ℕ). IsRecord n (get_or bodies (i - length records) [])) number (are (i - length records) (omega (arith, lt, behind, length-append records bodies)))))
    (sides i (length records))
  where
    sides : (i n : ℕ) → (i < n) ⊎ (n ≤ i)
    sides i n = grind arith

module _ (ends : List ℕ) (k : ℕ) (bodies : List (List ℕ)) (generation next records : ℕ) (at : generation % 4 ≡ k) (room : records + length bodies ≤ 2048) (are : AreRecords next bodies) where
  ends-more : (before : Option Numbered) (n : Numbered) → AreEnds ends before n [] → AreEnds ends before (more k bodies n) []
  ends-more None n there = there
  ends-more (Some b) n there = there

  ends-grown : (before : Option Numbered) (n m : Numbered) (ms : List Numbered) → AreEnds ends before n (m ∷ ms)
  ends-grown before n m ms = tt

  -- what is kept of the rest of the order
  pub record Kept (before : Option Numbered) (ns : List Numbered) : Type 0 where
    pub sound : AreSound ends before (map (grown k bodies) ns)
    pub last : HasLast generation (next + length bodies) (records + length bodies) (map (grown k bodies) ns)
    pub read : records_in (map (grown k bodies) ns) ≡ records_in ns ++ map record_of bodies

  start-more : (before : Option Numbered) (n : Numbered) → HasStart before n → HasStart before (more k bodies n)
  start-more None n start = record { place = start.place; reserved = start.reserved; follows = start.follows; generation = start.generation }
  start-more (Some b) n start = record { place = start.place; reserved = start.reserved; follows = start.follows; generation = start.generation }

  -- the newest segment
  newest-kept : (before : Option Numbered) (n : Numbered) → AreSound ends before (n ∷ []) → HasLast generation next records (n ∷ []) → Kept before (n ∷ [])
  newest-kept before n all last =
      let here : grown k bodies n ≡ more k bodies n = grown-here k bodies n (sym all.0.segment.start.place ∙ ap (λ (g : ℕ). g % 4) last.0 ∙ at) in
      let list : map (grown k bodies) (n ∷ []) ≡ more k bodies n ∷ [] = ap (λ (m : Numbered). m ∷ []) here in
      let one : IsSound ends before (more k bodies n) [] = record {
        segment = record {
          start = start-more before n all.0.segment.start;
          records = record {
            few = omega (arith, length-append n.segment.records bodies, last.2, room);
            lawful = lawful-more (first_lsn_of n) n.segment.records bodies all.0.segment.records.lawful (subst (λ (l : ℕ). AreRecords l bodies) (sym last.1) are);
          };
        };
        ends_there = ends-more before n all.0.ends_there;
      } in
      record {
        sound = subst (AreSound ends before) (sym list) (one, tt);
        last = subst (HasLast generation (next + length bodies) (records + length bodies)) (sym list) (last.0, omega (arith, last.1, length-append n.segment.records bodies), omega (arith, last.2, length-append n.segment.records bodies));
        read = ap records_in list ∙ append-nil (map record_of (n.segment.records ++ bodies)) ∙ map-append record_of n.segment.records bodies ∙ ap (λ (l : List Record). l ++ map record_of bodies) (sym (append-nil (map record_of n.segment.records)));
      }

  pub all-kept : (before : Option Numbered) (ns : List Numbered) → length ns ≤ 4 → AreSound ends before ns → HasLast generation next records ns → Kept before ns
  all-kept before [] few all last = absurd last
  all-kept before (n ∷ []) few all last = newest-kept before n all last
  all-kept before (n ∷ m ∷ ms) few all last =
      let far : generation_of n + suc (length ms) ≡ generation = generations ends before n (m ∷ ms) generation next records all last in
      let other : grown k bodies n ≡ n = grown-other k bodies n (λ here. elsewhere (generation_of n) (length ms) generation far (omega (arith, few)) (all.0.segment.start.place ∙ here ∙ sym at)) in
      let rest : Kept (Some n) (m ∷ ms) = all-kept (Some n) (m ∷ ms) (omega (arith, few)) all.1 last in
      let list : map (grown k bodies) (n ∷ m ∷ ms) ≡ n ∷ map (grown k bodies) (m ∷ ms) = ap (λ (l : Numbered). l ∷ map (grown k bodies) (m ∷ ms)) other in
      record {
        sound = subst (AreSound ends before) (sym list) (record { segment = all.0.segment; ends_there = tt }, rest.sound);
        last = subst (HasLast generation (next + length bodies) (records + length bodies)) (sym list) rest.last;
        read = ap records_in list ∙ ap (λ (l : List Record). map record_of n.segment.records ++ l) rest.read ∙ sym (append_assoc (map record_of n.segment.records) (records_in (m ∷ ms)) (map record_of bodies));
      }
    where
      elsewhere : (g d last : ℕ) → g + suc d ≡ last → d ≤ 2 → g % 4 ≡ last % 4 → ⊥
      elsewhere g d last is few same = omega (arith, is, few, same)

pub opens-kept : (ends : List ℕ) (ns : List Numbered) → 0 < length ns → AreSound ends None ns → OpensFrom ends ns
opens-kept ends [] some all = absurd (omega (arith, some))
opens-kept ends (n ∷ ns) some all = all

pub sound-from : (ends : List ℕ) (ns : List Numbered) → OpensFrom ends ns → AreSound ends None ns
sound-from ends [] opens = absurd opens
sound-from ends (n ∷ ns) opens = opens

pub some-last : (generation next records : ℕ) (ns : List Numbered) → HasLast generation next records ns → 0 < length ns
some-last generation next records [] last = absurd last
some-last generation next records (n ∷ ns) last = omega arith

-- a record alone
pub one-record : (lsn : ℕ) (body : List ℕ) → IsRecord lsn body → AreRecords lsn (body ∷ [])
one-record lsn body is zero lt = let number : lsn ≡ lsn + 0 = omega arith in subst (λ (n : ℕ). IsRecord n body) number is
one-record lsn body is (suc i) lt = absurd (omega (arith, lt))

-- an append keeps the rules, and adds the records
module _ (log : Log) (segments : Segments) (four : length segments ≤ 4) (bodies : List (List ℕ)) (room : log.records + length bodies ≤ 2048) (are : AreRecords log.next_lsn bodies) (of : IsLogOf log segments) where
  abbrev after_it : Segments
  after_it = set segments (newest log) (with_records bodies (get_or segments (newest log) None))

  order : in_order after_it ≡ map (grown (newest log) bodies) (in_order segments)
  order = ordered-grown (newest log) (newest log) 0 bodies segments (omega arith)

  kept : (ends : List ℕ) → AreSound ends None (in_order segments) → Kept ends (newest log) bodies log.generation log.next_lsn log.records refl room are None (in_order segments)
  kept ends sound = all-kept ends (newest log) bodies log.generation log.next_lsn log.records refl room are None (in_order segments) (omega (arith, length-ordered 0 segments, four)) sound of.newest_is

  pub log_of-append : (next : Log) → next.generation ≡ log.generation → next.next_lsn ≡ log.next_lsn + length bodies → next.records ≡ log.records + length bodies → IsLogOf next after_it
  log_of-append next generation lsn records =
      let all : Kept [] (newest log) bodies log.generation log.next_lsn log.records refl room are None (in_order segments) = kept [] of.sound in
      record {
        sound = subst (AreSound [] None) (sym order) all.sound;
        newest_is = subst (HasLast next.generation next.next_lsn next.records) (sym order)
            (subst (λ (g : ℕ). HasLast g next.next_lsn next.records (map (grown (newest log) bodies) (in_order segments))) (sym generation)
            (subst (λ (l : ℕ). HasLast log.generation l next.records (map (grown (newest log) bodies) (in_order segments))) (sym lsn)
            (subst (λ (n : ℕ). HasLast log.generation (log.next_lsn + length bodies) n (map (grown (newest log) bodies) (in_order segments))) (sym records) all.last)));
      }

  pub opens-append : (ends : List ℕ) (rs : List Record) → map record_of bodies ≡ rs → Opens ends segments → OpensAs ends (records_of segments ++ rs) after_it
  opens-append ends rs same opens =
      let all : Kept ends (newest log) bodies log.generation log.next_lsn log.records refl room are None (in_order segments) = kept ends (sound-from ends (in_order segments) opens) in
      record {
        opens = subst (OpensFrom ends) (sym order) (opens-kept ends (map (grown (newest log) bodies) (in_order segments)) (some-last log.generation (log.next_lsn + length bodies) (log.records + length bodies) (map (grown (newest log) bodies) (in_order segments)) all.last) all.sound);
        records_are = ap records_in order ∙ all.read ∙ ap (λ (l : List Record). records_of segments ++ l) same;
      }

  -- an image that is as before, or as after it
  pub recovers-append : (ends : List ℕ) (rs : List Record) (image : Segments) → map record_of bodies ≡ rs → Opens ends segments → IsBeforeOrAfterAll (newest log) bodies segments image → HasRecordsOrAll ends (records_of segments) rs image
  recovers-append ends rs image same opens (inl is_old) = inl (record { opens = subst (Opens ends) (sym is_old) opens; records_are = ap records_of is_old })
  recovers-append ends rs image same opens (inr is_new) =
      let all : OpensAs ends (records_of segments ++ rs) after_it = opens-append ends rs same opens in
      inr (record { opens = subst (Opens ends) (sym is_new) all.opens; records_are = ap records_of is_new ∙ all.records_are })
