-- A change of segments keeps the rules: the one in turn leaves the order at its front, and comes back at its end.
use Rattle.std.proofs.Common.{◌≡◌, ◌≢◌, ◌⊎◌, inl, inr, ⊎_elim, ℕ, zero, suc, ◌+◌, ◌<◌, ◌≤◌, ◌^◌, ◌%◌, List, [], ◌∷◌, ◌++◌, length, get_or, set, map, drop, replicate, Option, Some, None, refl, sym, ◌∙◌, ap, subst, arith, nat_le, if◌then◌else◌, Bool, true, false, All}
use Rattle.std.proofs.lemmas.Bool.Decides.{nat_tests}
use Rattle.std.proofs.lemmas.Option.{same_Some}
use Rattle.std.proofs.lemmas.Nat.{from_be_bytes-to_be_bytes_8}
use Rattle.wal_log.specs.Headers.{generation_in, first_lsn_in}
use Rattle.wal_log.specs.State.{header_bytes, HasLast, IsLogOf, following}
use Rattle.wal_log.specs.Records.{record_of}
use Rattle.wal_log.specs.Segments.{Segment, Segments}
use Rattle.wal_log.specs.Growing.{started_segment}
use Rattle.wal_log.specs.Rules.{Numbered, generation_of, first_lsn_of, next_lsn_of, placed, ordered, in_order, HasStart, IsSound, AreSound, Opens, OpensFrom, records_in, records_of}
use Rattle.wal_log.specs.Counted.{IsCounted}
use Rattle.wal_log.specs.Changes.{IsTurning, HasSameRecords, first_header}
use Rattle.wal_log.specs.declared.log.Log.{Log}
use Rattle.wal_log.specs.declared.records.Record.{Record}
use Rattle.wal_log.proofs.Keeping.{AllOf, all-placed, above, length-ordered, generations, opens-kept, sound-from, some-last}

placed-all : (P : Numbered → Type 0) (n : Numbered) (ns : List Numbered) → AllOf P (placed n ns) → P n × AllOf P ns
placed-all P n [] are = (are.0, tt)
placed-all P n (m ∷ ms) are = by_test (nat_le (generation_of n) (generation_of m)) (placed-all P n ms) are
  where
    by_test : (t : Bool) → (AllOf P (placed n ms) → P n × AllOf P ms) → AllOf P (if t then n ∷ m ∷ ms else m ∷ placed n ms) → P n × AllOf P (m ∷ ms)
    by_test true behind all = (all.0, all.1)
    by_test false behind all = let rest : P n × AllOf P ms = behind all.1 in (rest.0, (all.0, rest.1))

all-weaker : (P Q : Numbered → Type 0) (ns : List Numbered) → ((n : Numbered) → P n → Q n) → AllOf P ns → AllOf Q ns
all-weaker P Q [] weaker are = tt
all-weaker P Q (n ∷ ns) weaker are = (weaker n are.0, all-weaker P Q ns weaker are.1)

all-both : (P Q R : Numbered → Type 0) (ns : List Numbered) → ((n : Numbered) → P n → Q n → R n) → AllOf P ns → AllOf Q ns → AllOf R ns
all-both P Q R [] both ps qs = tt
all-both P Q R (n ∷ ns) both ps qs = (both n ps.0 qs.0, all-both P Q R ns both ps.1 qs.1)

-- what holds of all but one holds of all that stay when that one is closed
without-all : (Q : Numbered → Type 0) (k i j : ℕ) (segments : Segments) → j + i ≡ k → AllOf (λ n. n.number ≢ k → Q n) (ordered j segments) → AllOf Q (ordered j (set segments i None))
without-all Q k i j [] is all = none i
  where
    none : (i : ℕ) → AllOf Q (ordered j (set [] i None))
    none zero = tt
    none (suc i) = tt
without-all Q k zero j (None ∷ rest) is all = all-both (λ n. n.number ≢ k → Q n) (λ n. k < n.number) Q (ordered (j + 1) rest) (λ n so behind. so (λ here. omega (arith, here, behind))) all (above k (j + 1) rest (omega (arith, is)))
without-all Q k zero j (Some s ∷ rest) is all =
    all-both (λ n. n.number ≢ k → Q n) (λ n. k < n.number) Q (ordered (j + 1) rest) (λ n so behind. so (λ here. omega (arith, here, behind)))
    (placed-all (λ n. n.number ≢ k → Q n) (record { number = j; segment = s }) (ordered (j + 1) rest) all).1 (above k (j + 1) rest (omega (arith, is)))
without-all Q k (suc i) j (None ∷ rest) is all = without-all Q k i (j + 1) rest (omega (arith, is)) all
without-all Q k (suc i) j (Some s ∷ rest) is all =
    let both : (j ≢ k → Q (record { number = j; segment = s })) × AllOf (λ n. n.number ≢ k → Q n) (ordered (j + 1) rest) = placed-all (λ n. n.number ≢ k → Q n) (record { number = j; segment = s }) (ordered (j + 1) rest) all in
    all-placed Q (record { number = j; segment = s }) (ordered (j + 1) (set rest i None)) (both.0 (λ e. omega (arith, e, is))) (without-all Q k i (j + 1) rest (omega (arith, is)) both.1)

-- an open segment is in the order
in-order : (P : Numbered → Type 0) (k i j : ℕ) (segments : Segments) (x : Segment) → j + i ≡ k → get_or segments i None ≡ Some x → AllOf P (ordered j segments) → P (record { number = k; segment = x })
in-order P k i j [] x is there all = cc
in-order P k zero j (None ∷ rest) x is there all = cc
in-order P k zero j (Some s ∷ rest) x is there all =
    let here : j ≡ k = omega (arith, is) in
    let same : s ≡ x = same_Some s x there in
    subst (λ (n : Numbered). P n) (λ a. record { number = here a; segment = same a }) (placed-all P (record { number = j; segment = s }) (ordered (j + 1) rest) all).0
in-order P k (suc i) j (None ∷ rest) x is there all = in-order P k i (j + 1) rest x (omega (arith, is)) there all
in-order P k (suc i) j (Some s ∷ rest) x is there all = in-order P k i (j + 1) rest x (omega (arith, is)) there (placed-all P (record { number = j; segment = s }) (ordered (j + 1) rest) all).1

placed-first : (n : Numbered) (ns : List Numbered) → AllOf (λ m. generation_of n < generation_of m) ns → placed n ns ≡ n ∷ ns
placed-first n [] all = refl
placed-first n (m ∷ ms) all = first n m ms all.0
  where
    first : (n m : Numbered) (ms : List Numbered) → generation_of n < generation_of m → placed n (m ∷ ms) ≡ n ∷ m ∷ ms
    first n m ms lt = grind (arith, nat_tests)

placed-second : (n m : Numbered) (ms : List Numbered) → generation_of m < generation_of n → placed n (m ∷ ms) ≡ m ∷ placed n ms
placed-second n m ms lt = grind (arith, nat_tests)

placed-last : (n : Numbered) (ns : List Numbered) → AllOf (λ m. generation_of m < generation_of n) ns → placed n ns ≡ ns ++ n ∷ []
placed-last n [] all = refl
placed-last n (m ∷ ms) all = placed-second n m ms all.0 ∙ ap (λ (l : List Numbered). m ∷ l) (placed-last n ms all.1)

placed-push : (n new : Numbered) (ns : List Numbered) → generation_of n < generation_of new → placed n (ns ++ new ∷ []) ≡ placed n ns ++ new ∷ []
placed-push n new [] lt = placed-first n (new ∷ []) (lt, tt)
placed-push n new (m ∷ ms) lt = ap (λ (l : List Numbered). if nat_le (generation_of n) (generation_of m) then n ∷ m ∷ (ms ++ new ∷ []) else m ∷ l) (placed-push n new ms lt) ∙ by_test (nat_le (generation_of n) (generation_of m))
  where
    by_test : (t : Bool) → (if t then n ∷ m ∷ (ms ++ new ∷ []) else m ∷ (placed n ms ++ new ∷ [])) ≡ (if t then n ∷ m ∷ ms else m ∷ placed n ms) ++ new ∷ []
    by_test true = refl
    by_test false = refl

-- the oldest segment stands first
oldest-first : (k i j : ℕ) (segments : Segments) (x : Segment) → j + i ≡ k → get_or segments i None ≡ Some x
    → AllOf (λ m. generation_in x.header < generation_of m) (ordered j (set segments i None)) → ordered j segments ≡ record { number = k; segment = x } ∷ ordered j (set segments i None)
oldest-first k i j [] x is there all = cc
oldest-first k zero j (None ∷ rest) x is there all = cc
oldest-first k zero j (Some s ∷ rest) x is there all =
    let here : j ≡ k = omega (arith, is) in
    let same : s ≡ x = same_Some s x there in
    (λ a. placed (record { number = here a; segment = same a }) (ordered (j + 1) rest)) ∙ placed-first (record { number = k; segment = x }) (ordered (j + 1) rest) all
oldest-first k (suc i) j (None ∷ rest) x is there all = oldest-first k i (j + 1) rest x (omega (arith, is)) there all
oldest-first k (suc i) j (Some s ∷ rest) x is there all =
    let n : Numbered = record { number = j; segment = s } in
    let both : (generation_in x.header < generation_of n) × AllOf (λ m. generation_in x.header < generation_of m) (ordered (j + 1) (set rest i None)) =
    placed-all (λ m. generation_in x.header < generation_of m) n (ordered (j + 1) (set rest i None)) all in
    ap (placed n) (oldest-first k i (j + 1) rest x (omega (arith, is)) there both.1) ∙ placed-second n (record { number = k; segment = x }) (ordered (j + 1) (set rest i None)) both.0

-- a new segment of the greatest generation stands last
newest-last : (k i j : ℕ) (segments : Segments) (new : Segment) → j + i ≡ k → i < length segments
    → AllOf (λ m. generation_of m < generation_in new.header) (ordered j (set segments i None)) → ordered j (set segments i (Some new)) ≡ ordered j (set segments i None) ++ record { number = k; segment = new } ∷ []
newest-last k i j [] new is within all = absurd (omega (arith, within))
newest-last k zero j (o ∷ rest) new is within all =
    let here : j ≡ k = omega (arith, is) in
    (λ a. placed (record { number = here a; segment = new }) (ordered (j + 1) rest)) ∙ placed-last (record { number = k; segment = new }) (ordered (j + 1) rest) all
newest-last k (suc i) j (None ∷ rest) new is within all = newest-last k i (j + 1) rest new (omega (arith, is)) (omega (arith, within)) all
newest-last k (suc i) j (Some s ∷ rest) new is within all =
    let n : Numbered = record { number = j; segment = s } in
    let both : (generation_of n < generation_in new.header) × AllOf (λ m. generation_of m < generation_in new.header) (ordered (j + 1) (set rest i None)) =
    placed-all (λ m. generation_of m < generation_in new.header) n (ordered (j + 1) (set rest i None)) all in
    ap (placed n) (newest-last k i (j + 1) rest new (omega (arith, is)) (omega (arith, within)) both.1) ∙ placed-push n (record { number = k; segment = new }) (ordered (j + 1) (set rest i None)) both.0

-- the generations of a sound log
abbrev IsAmong : ℕ → Numbered → Type 0
IsAmong generation n = (generation_of n ≤ generation) × (generation ≤ generation_of n + 3) × (generation_of n % 4 ≡ n.number)

among : (ends : List ℕ) (before : Option Numbered) (ns : List Numbered) (generation next records : ℕ) → length ns ≤ 4 → AreSound ends before ns → HasLast generation next records ns → AllOf (IsAmong generation) ns
among ends before [] generation next records few all last = absurd last
among ends before (n ∷ []) generation next records few all last = ((omega (arith, last.0), omega (arith, last.0), all.0.segment.start.place), tt)
among ends before (n ∷ m ∷ ms) generation next records few all last =
    let far : generation_of n + suc (length ms) ≡ generation = generations ends before n (m ∷ ms) generation next records all last in
    ((omega (arith, far), omega (arith, far, few), all.0.segment.start.place), among ends (Some n) (m ∷ ms) generation next records (omega (arith, few)) all.1 last)

-- the oldest leaves: what is left is sound
front-leaves : (ends : List ℕ) (x : Numbered) (ns : List Numbered) (generation next records : ℕ) → generation_of x + 3 ≡ generation → AreSound ends None (x ∷ ns) → HasLast generation next records (x ∷ ns) → AreSound ends None ns × HasLast generation next records ns
front-leaves ends x [] generation next records old all last = absurd (omega (arith, old, last.0))
front-leaves ends x (n ∷ []) generation next records old all last = absurd (omega (arith, old, last.0, all.1.0.segment.start.follows.0))
front-leaves ends x (n ∷ m ∷ ms) generation next records old all last =
    let start : HasStart (Some x) n = all.1.0.segment.start in
    let later : generation_of n ≡ generation_of x + 1 = start.follows.0 in
    let first : first_lsn_of n ≡ next_lsn_of x = start.follows.1 in
    let one : IsSound ends None n (m ∷ ms) = record {
      segment = record {
        start = record {
          place = start.place;
          reserved = start.reserved;
          follows = (λ none. absurd (omega (arith, none, later)), omega (arith, first, all.0.segment.start.follows.1));
          generation = start.generation;
        };
        records = all.1.0.segment.records;
      };
      ends_there = tt;
    } in
    ((one, all.1.1), last)

-- a new segment comes behind the last
module _ (ends : List ℕ) (k generation next records : ℕ) (new : Segment) (empty : new.records ≡ []) (is_next : generation_in new.header ≡ generation + 1) (is_first : first_lsn_in new.header ≡ next)
    (reserved : drop 16 new.header ≡ replicate 47 0) (place : (generation + 1) % 4 ≡ k) (later : generation + 1 ≤ next) (there : All (λ last. last + 1 + records ≡ next) ends) where
  abbrev one : Numbered
  one = record { number = k; segment = new }

  none : length new.records ≡ 0
  none = ap length empty

  pub push-sound : (before : Option Numbered) (ns : List Numbered) → AreSound ends before ns → HasLast generation next records ns → AreSound ends before (ns ++ one ∷ [])
  push-sound before [] all last = absurd last
  push-sound before (n ∷ []) all last =
      let start : HasStart (Some n) one = record {
        place = ap (λ (g : ℕ). g % 4) is_next ∙ place;
        reserved = reserved;
        follows = (omega (arith, is_next, last.0), omega (arith, is_first, last.1));
        generation = omega (arith, is_next, is_first, later);
      } in
      let new_one : IsSound ends (Some n) one [] = record {
        segment = record { start = start; records = record { few = omega (arith, none); lawful = λ i lt. absurd (omega (arith, lt, none)) } };
        ends_there = λ i d lt. inr (omega (arith, there i d lt, last.1, last.2));
      } in
      (record { segment = all.0.segment; ends_there = tt }, (new_one, tt))
  push-sound before (n ∷ m ∷ ms) all last = (record { segment = all.0.segment; ends_there = tt }, push-sound (Some n) (m ∷ ms) all.1 last)

  pub push-last : (ns : List Numbered) → HasLast generation next records ns → HasLast (generation + 1) next 0 (ns ++ one ∷ [])
  push-last [] last = absurd last
  push-last (n ∷ []) last = (is_next, omega (arith, is_first, none), none)
  push-last (n ∷ m ∷ ms) last = push-last (m ∷ ms) last

  pub push-records : (ns : List Numbered) → records_in (ns ++ one ∷ []) ≡ records_in ns
  push-records [] = ap (λ (l : List (List ℕ)). map record_of l ++ []) empty
  push-records (n ∷ ns) = ap (λ (l : List Record). map record_of n.segment.records ++ l) (push-records ns)

-- the header of the next segment, read
header-generation : (generation first_lsn : ℕ) → generation < 2 ^ 64 → generation_in (header_bytes generation first_lsn) ≡ generation
unfolding header_bytes
header-generation generation first_lsn below = from_be_bytes-to_be_bytes_8 generation below

header-first_lsn : (generation first_lsn : ℕ) → first_lsn < 2 ^ 64 → first_lsn_in (header_bytes generation first_lsn) ≡ first_lsn
unfolding header_bytes
header-first_lsn generation first_lsn below = from_be_bytes-to_be_bytes_8 first_lsn below

header-reserved : (generation first_lsn : ℕ) → drop 16 (header_bytes generation first_lsn) ≡ replicate 47 0
unfolding header_bytes
header-reserved generation first_lsn = refl

set-same : (segments : Segments) (i : ℕ) → get_or segments i None ≡ None → set segments i None ≡ segments
set-same [] zero is = refl
set-same [] (suc i) is = refl
set-same (o ∷ rest) zero is = ap (λ (p : Option Segment). p ∷ rest) (sym is)
set-same (o ∷ rest) (suc i) is = ap (λ (l : Segments). o ∷ l) (set-same rest i is)

-- a change of segments of a log that is sound
module _ (log : Log) (segments : Segments) (four : length segments ≡ 4) (below : following log < 4) (counted : IsCounted log) (some : 1 ≤ log.records) (of : IsLogOf log segments) where
  abbrev k : ℕ
  k = following log

  abbrev new : Segment
  new = started_segment (first_header log)

  abbrev left : List Numbered
  left = in_order (set segments k None)

  are : AllOf (IsAmong log.generation) (in_order segments)
  are = among [] None (in_order segments) log.generation log.next_lsn log.records (omega (arith, length-ordered 0 segments, four)) of.sound of.newest_is

  is_next : generation_in new.header ≡ log.generation + 1
  is_next = header-generation (log.generation + 1) log.next_lsn (omega (arith, counted.generation, counted.next_lsn))

  is_first : first_lsn_in new.header ≡ log.next_lsn
  is_first = header-first_lsn (log.generation + 1) log.next_lsn (omega (arith, counted.next_lsn))

  all-below : AllOf (λ m. generation_of m < generation_in new.header) left
  all-below = without-all (λ m. generation_of m < generation_in new.header) k k 0 segments (omega arith)
      (all-weaker (IsAmong log.generation) (λ n. n.number ≢ k → generation_of n < generation_in new.header) (in_order segments) (λ n is unlike. omega (arith, is.0, is_next)) are)

  -- the next segment is closed, or it is the oldest
  pub closed-order : (in_order segments ≡ left) ⊎ ((x : Segment) × (generation_in x.header + 3 ≡ log.generation) × (in_order segments ≡ record { number = k; segment = x } ∷ left))
  closed-order = by_case (get_or segments k None) refl
    where
      by_case : (o : Option Segment) → get_or segments k None ≡ o
          → (in_order segments ≡ left) ⊎ ((x : Segment) × (generation_in x.header + 3 ≡ log.generation) × (in_order segments ≡ record { number = k; segment = x } ∷ left))
      by_case None is = inl (ap in_order (sym (set-same segments k is)))
      by_case (Some x) is =
          let x_is : IsAmong log.generation (record { number = k; segment = x }) = in-order (IsAmong log.generation) k k 0 segments x (omega arith) is are in
          let old : generation_in x.header + 3 ≡ log.generation = oldest (generation_in x.header) log.generation x_is.0 x_is.1 x_is.2 in
          inr (
            x,
            old,
            oldest-first k k 0 segments x (omega arith) is
                (without-all (λ m. generation_in x.header < generation_of m) k k 0 segments (omega arith)
                (all-weaker (IsAmong log.generation) (λ n. n.number ≢ k → generation_in x.header < generation_of n) (in_order segments)
                (λ n it unlike. younger (generation_in x.header) (generation_of n) log.generation n.number old it.0 it.1 it.2 unlike) are)),
          )
        where
          oldest : (g last : ℕ) → g ≤ last → last ≤ g + 3 → g % 4 ≡ (last + 1) % 4 → g + 3 ≡ last
          oldest g last low high same = omega (arith, low, high, same)

          younger : (g m last number : ℕ) → g + 3 ≡ last → m ≤ last → last ≤ m + 3 → m % 4 ≡ number → number ≢ (last + 1) % 4 → g < m
          younger g m last number old low high is unlike = ⊎_elim (λ here. absurd (unlike (omega (arith, old, is, here)))) (λ lt. lt) (sides g m (omega (arith, old, high)))
            where
              sides : (g m : ℕ) → g ≤ m → (g ≡ m) ⊎ (g < m)
              sides g m le = grind arith

  -- what is left when the next segment is closed
  pub closed-left : (ends : List ℕ) → AreSound ends None (in_order segments) → AreSound ends None left × HasLast log.generation log.next_lsn log.records left
  closed-left ends sound = by_case closed-order
    where
      by_case : (in_order segments ≡ left) ⊎ ((x : Segment) × (generation_in x.header + 3 ≡ log.generation) × (in_order segments ≡ record { number = k; segment = x } ∷ left))
          → AreSound ends None left × HasLast log.generation log.next_lsn log.records left
      by_case (inl same) = (subst (AreSound ends None) same sound, subst (HasLast log.generation log.next_lsn log.records) same of.newest_is)
      by_case (inr oldest) =
          front-leaves ends (record { number = k; segment = oldest.0 }) left log.generation log.next_lsn log.records oldest.1 (subst (AreSound ends None) oldest.2 sound) (subst (HasLast log.generation log.next_lsn log.records) oldest.2 of.newest_is)

  order : in_order (set segments k (Some new)) ≡ left ++ record { number = k; segment = new } ∷ []
  order = newest-last k k 0 segments new (omega arith) (omega (arith, below, four)) all-below

  pub log_of-turn : (next : Log) → next.generation ≡ log.generation + 1 → next.next_lsn ≡ log.next_lsn → next.records ≡ 0 → IsLogOf next (set segments k (Some new))
  log_of-turn next generation lsn records =
      let closed : AreSound [] None left × HasLast log.generation log.next_lsn log.records left = closed-left [] of.sound in
      let last : HasLast (log.generation + 1) log.next_lsn 0 (left ++ record { number = k; segment = new } ∷ []) =
      push-last [] k log.generation log.next_lsn log.records new refl is_next is_first (header-reserved (log.generation + 1) log.next_lsn) refl (omega (arith, counted.generation, some)) (λ i d lt. absurd (omega (arith, lt))) left closed.1 in
      record {
        sound = subst (AreSound [] None) (sym order)
            (push-sound [] k log.generation log.next_lsn log.records new refl is_next is_first (header-reserved (log.generation + 1) log.next_lsn) refl (omega (arith, counted.generation, some)) (λ i d lt. absurd (omega (arith, lt))) None left closed.0 closed.1);
        newest_is = subst (HasLast next.generation next.next_lsn next.records) (sym order)
            (subst (λ (g : ℕ). HasLast g next.next_lsn next.records (left ++ record { number = k; segment = new } ∷ [])) (sym generation)
            (subst (λ (l : ℕ). HasLast (log.generation + 1) l next.records (left ++ record { number = k; segment = new } ∷ [])) (sym lsn)
            (subst (λ (n : ℕ). HasLast (log.generation + 1) log.next_lsn n (left ++ record { number = k; segment = new } ∷ [])) (sym records) last)));
      }

  -- each image of a change reads the same records, but for those of the segment that is used again
  pub same-records : (ends : List ℕ) (image : Segments) → All (λ last. last + 1 + log.records ≡ log.next_lsn) ends → Opens ends segments → IsTurning k (first_header log) segments image → HasSameRecords ends k segments image
  same-records ends image there opens turning = by_image turning
    where
      closed : AreSound ends None left × HasLast log.generation log.next_lsn log.records left
      closed = closed-left ends (sound-from ends (in_order segments) opens)

      by_image : IsTurning k (first_header log) segments image → HasSameRecords ends k segments image
      by_image (inl is_old) = inl (record { opens = subst (Opens ends) (sym is_old) opens; records_are = ap records_of is_old })
      by_image (inr (inl is_closed)) = inr (record {
        opens = subst (Opens ends) (sym is_closed) (opens-kept ends left (some-last log.generation log.next_lsn log.records left closed.1) closed.0);
        records_are = ap records_of is_closed;
      })
      by_image (inr (inr is_new)) =
          let sound : AreSound ends None (left ++ record { number = k; segment = new } ∷ []) =
          push-sound ends k log.generation log.next_lsn log.records new refl is_next is_first (header-reserved (log.generation + 1) log.next_lsn) refl (omega (arith, counted.generation, some)) there None left closed.0 closed.1 in
          let last : HasLast (log.generation + 1) log.next_lsn 0 (left ++ record { number = k; segment = new } ∷ []) =
          push-last ends k log.generation log.next_lsn log.records new refl is_next is_first (header-reserved (log.generation + 1) log.next_lsn) refl (omega (arith, counted.generation, some)) there left closed.1 in
          inr (record {
            opens = subst (Opens ends) (sym is_new) (subst (OpensFrom ends) (sym order) (opens-kept ends (left ++ record { number = k; segment = new } ∷ []) (some-last (log.generation + 1) log.next_lsn 0 (left ++ record { number = k; segment = new } ∷ []) last) sound));
            records_are = ap records_of is_new ∙ ap records_in order
                ∙ push-records ends k log.generation log.next_lsn log.records new refl is_next is_first (header-reserved (log.generation + 1) log.next_lsn) refl (omega (arith, counted.generation, some)) there left;
          })
