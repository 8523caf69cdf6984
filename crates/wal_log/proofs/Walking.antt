-- A walk over the segments, in order.
use Rattle.std.proofs.Common.{◌≡◌, ◌⊎◌, inl, inr, ⊎_elim, ℕ, zero, suc, ◌+◌, ◌<◌, ◌≤◌, ◌^◌, List, [], ◌∷◌, ◌++◌, length, get_or, take, drop, map, Option, Some, None, refl, sym, ◌∙◌, ap, subst, arith, append_assoc, All, Bool, true, false, nat_le, if◌then◌else◌, ◌%◌}
use Rattle.std.specs.Option.{option_map}
use Rattle.std.proofs.lemmas.List.{drop_more, take_more, get_or-map, length-map, length-drop, append-nil}
use Rattle.std.proofs.Math.Seq.{take-length, drop-length}
use Rattle.dev_model.specs.Story.{Bytes, Story, after, bytes_of, WhereTold}
use Rattle.wal_log.specs.Reads.{ReadsLog}
use Rattle.wal_log.proofs.Finding.{IsOpenStill-after, bytes_of-after}
use Rattle.wal_log.specs.State.{IsStill, HasLast}
use Rattle.wal_log.specs.Found.{IsOpenStill, WhereBad}
use Rattle.wal_log.specs.Records.{record_of}
use Rattle.wal_log.specs.Headers.{first_lsn_in, generation_in}
use Rattle.wal_log.specs.Segments.{Segment, segment_header, segment_records, segments_of}
use Rattle.wal_log.specs.Rules.{Numbered, HasStart, IsSegment, IsEnd, AreEnds, IsSound, AreSound, Opens, OpensFrom, in_order, records_in, records_of, Follows}
use Rattle.wal_log.specs.Bad.{IsFirstUnsound, IsBad, IsBadFrom}
use Rattle.std.proofs.lemmas.Bool.{cases_eq}
use Rattle.wal_log.specs.Places.{segment_start}
use Rattle.wal_log.specs.Heads.{numbered_at, open_heads, heads_above, header_of, with_head, placed_head}
use Rattle.wal_log.specs.Laws.Agreeing.{segment_at-open, segment_at-shut}
use Rattle.wal_log.specs.Walk.{ended_of, GoesOn, StartsAfter, EndsThere, HasReadSegment, IsUnsound, IsNewest, HasEndedBefore, IsEndOf, IsCountedEnd}
use Rattle.wal_log.specs.declared.heads.Head.{Head}
use Rattle.wal_log.specs.declared.walk.Ended.{Ended}
use Rattle.wal_log.specs.declared.records.Record.{Record}
use Rattle.wal_log.specs.declared.reading.LogFault.{LogFault}
use Rattle.wal_log.specs.declared.reading.LogFault.TheVariants.{Failed, BadLog, OutOfMemory}
use Rattle.wal_log.proofs.Keeping.{opens-kept}
use Rattle.wal_log.proofs.Ordering.{in_order-heads}

follows-from : (log_start : ℕ) (b : Bytes) (behind : Option Numbered) (h : Head) → GoesOn (option_map ended_of behind) h → Follows behind (numbered_at log_start b h)
follows-from log_start b None h goes = goes
follows-from log_start b (Some n) h goes = goes

follows-to : (log_start : ℕ) (b : Bytes) (behind : Option Numbered) (h : Head) → Follows behind (numbered_at log_start b h) → GoesOn (option_map ended_of behind) h
follows-to log_start b None h follows = follows
follows-to log_start b (Some n) h follows = follows

ends-from : (log_start : ℕ) (b : Bytes) (behind : Option Numbered) (h : Head) (ends : List ℕ) → All (EndsThere (option_map ended_of behind) h) ends → All (IsEnd behind (numbered_at log_start b h)) ends
ends-from log_start b None h ends there = there
ends-from log_start b (Some n) h ends there = there

ends-to : (log_start : ℕ) (b : Bytes) (behind : Option Numbered) (h : Head) (ends : List ℕ) → All (IsEnd behind (numbered_at log_start b h)) ends → All (EndsThere (option_map ended_of behind) h) ends
ends-to log_start b None h ends there = there
ends-to log_start b (Some n) h ends there = there

ends-later : (ends : List ℕ) (behind : Option Numbered) (n : Numbered) (ms : List Numbered) → 0 < length ms → AreEnds ends behind n ms
ends-later ends behind n [] some = absurd (omega arith)
ends-later ends behind n (m ∷ ms) some = tt

records_in-push : (ns : List Numbered) (n : Numbered) → records_in (ns ++ n ∷ []) ≡ records_in ns ++ map record_of n.segment.records
records_in-push [] n = append-nil (map record_of n.segment.records)
records_in-push (m ∷ ns) n = ap (λ (l : List Record). map record_of m.segment.records ++ l) (records_in-push ns n) ∙ sym (append_assoc (map record_of m.segment.records) (records_in ns) (map record_of n.segment.records))

-- so many segments were read, and what comes behind them decides
pub record Walked (log_start : ℕ) (ends : List ℕ) (b : Bytes) (heads : List Head) (i : ℕ) (before : Option Ended) (records : List Record) : Type 0 where
  pub behind : Option Numbered
  pub same : before ≡ option_map ended_of behind
  pub sound : AreSound ends behind (drop i (map (numbered_at log_start b) heads)) → AreSound ends None (map (numbered_at log_start b) heads)
  pub unsound : (number : ℕ) → IsFirstUnsound ends behind (drop i (map (numbered_at log_start b) heads)) number → IsFirstUnsound ends None (map (numbered_at log_start b) heads) number
  pub read : records ≡ records_in (take i (map (numbered_at log_start b) heads))

pub walked-none : (log_start : ℕ) (ends : List ℕ) (b : Bytes) (heads : List Head) → Walked log_start ends b heads 0 None []
walked-none log_start ends b heads = record { behind = None; same = refl; sound = λ all. all; unsound = λ number first. first; read = refl }

module _ (log_start : ℕ) (ends : List ℕ) (b : Bytes) (heads : List Head) (i : ℕ) (before : Option Ended) (records : List Record) (walked : Walked log_start ends b heads i before records) (within : i < length heads) (h : Head) (here : h ≡ get_or heads i h) where
  abbrev ns : List Numbered
  ns = map (numbered_at log_start b) heads

  abbrev n : Numbered
  n = numbered_at log_start b h

  abbrev rest : List Numbered
  rest = drop (i + 1) ns

  long : length ns ≡ length heads
  long = length-map heads (numbered_at log_start b)

  item : get_or ns i n ≡ n
  item = get_or-map (numbered_at log_start b) heads i h n within ∙ ap (numbered_at log_start b) (sym here)

  split : drop i ns ≡ n ∷ rest
  split = drop_more ns i n (omega (arith, long, within)) ∙ ap (λ (m : Numbered). m ∷ rest) item

  starts : StartsAfter before h → HasStart walked.behind n
  starts start =
      let same : StartsAfter (option_map ended_of walked.behind) h = subst (λ (e : Option Ended). StartsAfter e h) walked.same start in
      record { place = same.place; reserved = same.reserved; follows = follows-from log_start b walked.behind h same.follows; generation = same.generation }

  started : HasStart walked.behind n → StartsAfter before h
  started start =
      subst (λ (e : Option Ended). StartsAfter e h) (sym walked.same)
      (record { place = start.place; reserved = start.reserved; follows = follows-to log_start b walked.behind h start.follows; generation = start.generation })

  -- a segment that isn't sound is the first such
  pub walked-unsound : IsUnsound log_start b before h → IsFirstUnsound ends None ns h.number
  walked-unsound bad =
      walked.unsound h.number (subst (λ (l : List Numbered). IsFirstUnsound ends walked.behind l h.number) (sym split)
      (inl (λ sound. bad (started sound.segment.start) sound.segment.records, refl)))

  module _ (ended : Ended) (later : List Record) (read : HasReadSegment log_start b before h records ended later) where
    sound_segment : IsSegment walked.behind n
    sound_segment = record { start = starts read.start; records = read.records }

    more_read : later ≡ records_in (take (i + 1) ns)
    more_read =
        read.added ∙ ap (λ (l : List Record). l ++ map record_of (segment_records log_start h.number b)) walked.read ∙ sym (records_in-push (take i ns) n)
        ∙ ap records_in (ap (λ (m : Numbered). take i ns ++ m ∷ []) (sym item) ∙ sym (take_more ns i n (omega (arith, long, within))))

    -- a sound segment that isn't the newest
    pub walked-more : i + 1 < length heads → Walked log_start ends b heads (i + 1) (Some ended) later
    walked-more more =
        let one : IsSound ends walked.behind n rest = record { segment = sound_segment; ends_there = ends-later ends walked.behind n rest (omega (arith, length-drop (i + 1) ns, long, more)) } in
        record {
          behind = Some n;
          same = ap (λ (e : Ended). Some e) read.ended;
          sound = λ all. walked.sound (subst (AreSound ends walked.behind) (sym split) (one, all));
          unsound = λ number first. walked.unsound number (subst (λ (l : List Numbered). IsFirstUnsound ends walked.behind l number) (sym split) (inr (one, first)));
          read = more_read;
        }

    module _ (last : i + 1 ≡ length heads) where
      none_behind : rest ≡ []
      none_behind = ap (λ (m : ℕ). drop m ns) (last ∙ sym long) ∙ drop-length ns

      -- the newest, where the indexes end
      pub walked-all : All (EndsThere before h) ends → AreSound ends None ns
      walked-all there =
          walked.sound (subst (AreSound ends walked.behind) (sym (split ∙ ap (λ (l : List Numbered). n ∷ l) none_behind))
          (record { segment = sound_segment; ends_there = ends-from log_start b walked.behind h ends (subst (λ (e : Option Ended). All (EndsThere e h) ends) walked.same there) }, tt))

      -- the newest, where one ends elsewhere
      pub walked-elsewhere : (All (EndsThere before h) ends → ⊥) → IsFirstUnsound ends None ns h.number
      walked-elsewhere elsewhere =
          walked.unsound h.number (subst (λ (l : List Numbered). IsFirstUnsound ends walked.behind l h.number) (sym (split ∙ ap (λ (l : List Numbered). n ∷ l) none_behind))
          (inl (λ sound. elsewhere (subst (λ (e : Option Ended). All (EndsThere e h) ends) (sym walked.same) (ends-to log_start b walked.behind h ends sound.ends_there)), refl)))

      pub walked-records : later ≡ records_in ns
      walked-records = more_read ∙ ap records_in (ap (λ (m : ℕ). take m ns) (last ∙ sym long) ∙ take-length ns)

-- what is said of the headers is said of the segments
module _ (log_start : ℕ) (ends : List ℕ) (b : Bytes) (heads : List Head) (are : heads ≡ open_heads log_start b) where
  same_order : map (numbered_at log_start b) heads ≡ in_order (segments_of log_start b)
  same_order = ap (map (numbered_at log_start b)) are ∙ sym (in_order-heads log_start b)

  bad-some : (ns : List Numbered) (number : ℕ) → 0 < length ns → IsFirstUnsound ends None ns number → IsBadFrom ends ns number
  bad-some [] number some first = absurd (omega arith)
  bad-some (n ∷ ns) number some first = first

  bad-none : (ns : List Numbered) → length ns ≡ 0 → IsBadFrom ends ns 0
  bad-none [] none = refl
  bad-none (n ∷ ns) none = absurd (omega arith)

  pub opens : 0 < length heads → AreSound ends None (map (numbered_at log_start b) heads) → Opens ends (segments_of log_start b)
  opens some all = subst (OpensFrom ends) same_order (opens-kept ends (map (numbered_at log_start b) heads) (omega (arith, some, length-map heads (numbered_at log_start b))) all)

  pub is_bad : (number : ℕ) → 0 < length heads → IsFirstUnsound ends None (map (numbered_at log_start b) heads) number → IsBad ends (segments_of log_start b) number
  is_bad number some first = subst (λ (l : List Numbered). IsBadFrom ends l number) same_order (bad-some (map (numbered_at log_start b) heads) number (omega (arith, some, length-map heads (numbered_at log_start b))) first)

  pub is_bad-empty : length heads ≡ 0 → IsBad ends (segments_of log_start b) 0
  is_bad-empty none = subst (λ (l : List Numbered). IsBadFrom ends l 0) same_order (bad-none (map (numbered_at log_start b) heads) (length-map heads (numbered_at log_start b) ∙ none))

  pub all_records : (records : List Record) → records ≡ records_in (map (numbered_at log_start b) heads) → records ≡ records_of (segments_of log_start b)
  all_records records are_all = are_all ∙ ap records_in same_order

pub halves : (i n : ℕ) → i < n + 1 → (i < n) ⊎ (i ≡ n)
halves i n lt = grind arith

-- what is told after reads alone was so before them
pub told-back-open : (log_start : ℕ) (P : Bytes → Type 0) (k : ℕ) (s : Story) (mid : Option Story) → ReadsLog log_start s mid → WhereTold mid (λ t. IsOpenStill log_start k t → P (bytes_of t)) → IsOpenStill log_start k s → P (bytes_of s)
told-back-open log_start P k s mid reads told still =
    let t : Story = after s reads.calls in
    subst P (bytes_of-after log_start s t mid reads reads.told) (told t reads.told (IsOpenStill-after log_start s t mid reads reads.told k still))

-- another claim on the segment that is named
pub WhereBad-map : (fault : LogFault) (P Q : ℕ → Type 0) → ((number : ℕ) → P number → Q number) → WhereBad fault P → WhereBad fault Q
WhereBad-map Failed P Q map_it bad = tt
WhereBad-map (BadLog number) P Q map_it bad = map_it number bad
WhereBad-map OutOfMemory P Q map_it bad = tt

-- the header is of an open segment
abbrev pub IsOpenHead : (log_start : ℕ) → Bytes → Head → Type 0
IsOpenHead log_start b h = (h.number < 4) × (b (segment_start log_start h.number) ≡ 165)

abbrev pub AreOpen : (log_start : ℕ) → Bytes → List Head → Type 0
AreOpen log_start b [] = Unit {0}
AreOpen log_start b (h ∷ hs) = IsOpenHead log_start b h × AreOpen log_start b hs

open-if : (log_start : ℕ) (b : Bytes) (t : Bool) (xs ys : List Head) → AreOpen log_start b xs → AreOpen log_start b ys → AreOpen log_start b (if t then xs else ys)
open-if log_start b true xs ys are_xs are_ys = are_xs
open-if log_start b false xs ys are_xs are_ys = are_ys

open-placed : (log_start : ℕ) (b : Bytes) (h : Head) (hs : List Head) → IsOpenHead log_start b h → AreOpen log_start b hs → AreOpen log_start b (placed_head h hs)
open-placed log_start b h [] is are = (is, tt)
open-placed log_start b h (m ∷ ms) is are = open-if log_start b (nat_le (generation_in h.bytes) (generation_in m.bytes)) (h ∷ m ∷ ms) (m ∷ placed_head h ms) (is, are) (are.0, open-placed log_start b h ms is are.1)

open-above : (log_start : ℕ) (b : Bytes) (left k : ℕ) → left + k ≤ 4 → AreOpen log_start b (heads_above log_start left k b)
unfolding heads_above
open-above log_start b zero k few = tt
open-above log_start b (suc left) k few = elim (cases_eq (b (segment_start log_start k)) 165) [
  | inl is ↦ subst (λ (o : Option Segment). AreOpen log_start b (with_head k (header_of o) (heads_above log_start left (k + 1) b))) (sym (segment_at-open log_start k b is)) (open-placed log_start b (record { number = k; bytes = segment_header log_start k b }) (heads_above log_start left (k + 1) b) (omega arith, is) (open-above log_start b left (k + 1) (omega arith)))
  | inr shut ↦ subst (λ (o : Option Segment). AreOpen log_start b (with_head k (header_of o) (heads_above log_start left (k + 1) b))) (sym (segment_at-shut log_start k b shut)) (open-above log_start b left (k + 1) (omega arith))
]

open-at : (log_start : ℕ) (b : Bytes) (hs : List Head) (i : ℕ) (d : Head) → i < length hs → AreOpen log_start b hs → IsOpenHead log_start b (get_or hs i d)
open-at log_start b [] i d lt are = absurd (omega arith)
open-at log_start b (h ∷ hs) zero d lt are = are.0
open-at log_start b (h ∷ hs) (suc i) d lt are = open-at log_start b hs i d (omega arith) are.1

-- the segment of a header is open, and what is looked at of it is on the disk
pub head-still : (log_start : ℕ) (s : Story) (heads : List Head) (i : ℕ) (h : Head) → heads ≡ open_heads log_start (bytes_of s) → i < length heads → h ≡ get_or heads i h → IsStill log_start s → IsOpenStill log_start h.number s
head-still log_start s heads i h are lt here still =
    let is_open : IsOpenHead log_start (bytes_of s) h = subst (IsOpenHead log_start (bytes_of s)) (sym here) (open-at log_start (bytes_of s) heads i h lt (subst (AreOpen log_start (bytes_of s)) (sym are) (open-above log_start (bytes_of s) 4 0 (omega arith)))) in
    record { started = is_open.1; still = still h.number is_open.0 }

-- the last of a list
last-at : (ns : List Numbered) (i : ℕ) (n d : Numbered) → i + 1 ≡ length ns → get_or ns i d ≡ n → HasLast (generation_in n.segment.header) (first_lsn_in n.segment.header + length n.segment.records) (length n.segment.records) ns
last-at [] i n d last is = absurd (omega (arith, last))
last-at (m ∷ []) zero n d last is = subst (λ (x : Numbered). HasLast (generation_in n.segment.header) (first_lsn_in n.segment.header + length n.segment.records) (length n.segment.records) (x ∷ [])) (sym is) (refl, refl, refl)
last-at (m ∷ []) (suc i) n d last is = absurd (omega (arith, last))
last-at (m ∷ p ∷ ms) zero n d last is = absurd (omega (arith, last))
last-at (m ∷ p ∷ ms) (suc i) n d last is = last-at (p ∷ ms) i n d (omega (arith, last)) is

-- the last segment that was read
pub newest-there : (log_start : ℕ) (b : Bytes) (heads : List Head) (i : ℕ) (h : Head) (before : Option Ended) (old now : List Record) (at_end : Ended) → heads ≡ open_heads log_start b → i < length heads → h ≡ get_or heads i h → HasReadSegment log_start b before h old at_end now → i + 1 ≡ length heads → IsNewest log_start b at_end
newest-there log_start b heads i h before old now at_end are lt here read last =
    let is_open : IsOpenHead log_start b h = subst (IsOpenHead log_start b) (sym here) (open-at log_start b heads i h lt (subst (AreOpen log_start b) (sym are) (open-above log_start b 4 0 (omega arith)))) in
    let number : h.number ≡ at_end.generation % 4 = sym (ap (λ (e : Ended). e.generation % 4) read.ended ∙ read.start.place) in
    let item : get_or (map (numbered_at log_start b) heads) i (numbered_at log_start b h) ≡ numbered_at log_start b h = get_or-map (numbered_at log_start b) heads i h (numbered_at log_start b h) lt ∙ ap (numbered_at log_start b) (sym here) in
    let whole : HasLast (generation_in h.bytes) (first_lsn_in h.bytes + length (segment_records log_start h.number b)) (length (segment_records log_start h.number b)) (map (numbered_at log_start b) heads) =
    last-at (map (numbered_at log_start b) heads) i (numbered_at log_start b h) (numbered_at log_start b h) (last ∙ sym (length-map heads (numbered_at log_start b))) item in
    record {
      last = subst (λ (l : List Numbered). HasLast at_end.generation (at_end.first_lsn + at_end.records) at_end.records l) (same_order log_start [] b heads are)
          (subst (λ (e : Ended). HasLast e.generation (e.first_lsn + e.records) e.records (map (numbered_at log_start b) heads)) (sym read.ended) whole);
      started = subst (λ (k : ℕ). b (segment_start log_start k) ≡ 165) number is_open.1;
      counts = subst (λ (k : ℕ). length (segment_records log_start k b) ≡ at_end.records) number (sym (ap (λ (e : Ended). e.records) read.ended));
    }

-- the numbers of the newest segment, where some index ends below 2^62 right before it or right before the one before it
pub counted-end : (before : Option Ended) (h : Head) (at_end : Ended) (ends : List ℕ) → HasEndedBefore before → IsEndOf before h at_end → All (EndsThere before h) ends → 1 ≤ length ends → All (λ last. last < 2 ^ 62) ends → IsCountedEnd at_end
counted-end before h at_end ends behind is there some below =
    let first : first_lsn_in h.bytes ≤ 2 ^ 62 = starts_below before (get_or ends 0 0) behind is.follows (there 0 0 (omega arith)) (below 0 0 (omega arith)) in
    record {
      few = is.numbers.few;
      generation = is.numbers.generation;
      next_lsn = ⊎_elim (λ none. omega (arith, none, is.first_lsn, first)) (λ all. all) is.numbers.below;
    }
  where
    starts_below : (before : Option Ended) (last : ℕ) → HasEndedBefore before → GoesOn before h → EndsThere before h last → last < 2 ^ 62 → first_lsn_in h.bytes ≤ 2 ^ 62
    starts_below None last behind goes there lt = omega (arith, there, lt)
    starts_below (Some b) last behind goes (inl here) lt = omega (arith, here, lt)
    starts_below (Some b) last behind goes (inr before_it) lt = ⊎_elim (λ none. omega (arith, none, before_it, lt, goes.1)) (λ all. omega (arith, all, goes.1)) behind.below

-- no index ends behind the first number of the newest segment
pub ends-behind : (before : Option Ended) (h : Head) (at_end : Ended) (ends : List ℕ) → IsEndOf before h at_end → All (EndsThere before h) ends → All (λ last. last + 1 ≤ at_end.first_lsn) ends
ends-behind before h at_end ends is there k d lt = by_before before is.follows (there k d lt)
  where
    by_before : (before : Option Ended) → GoesOn before h → EndsThere before h (get_or ends k d) → get_or ends k d + 1 ≤ at_end.first_lsn
    by_before None goes here = omega (arith, here, is.first_lsn)
    by_before (Some b) goes (inl here) = omega (arith, here, is.first_lsn)
    by_before (Some b) goes (inr earlier) = omega (arith, earlier, is.first_lsn, goes.1)
