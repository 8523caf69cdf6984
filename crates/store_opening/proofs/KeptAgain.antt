-- A store that was opened is at rest, with the lists that were made again.
use Rattle.std.proofs.Common.{◌≡◌, ◌⊎◌, inl, inr, ℕ, suc, ◌+◌, ◌<◌, ◌≤◌, ◌^◌, List, [], ◌∷◌, ◌++◌, length, length-append, map, take, drop, All, Option, Some, None, Bool, true, false, if◌then◌else◌, nat_lt, nat_le, refl, sym, ◌∙◌, ap, subst, arith}
use Rattle.std.specs.Int.{to_be_bytes, from_be_bytes, w32}
use Rattle.std.specs.FinMap.{empty, entries, len-empty, len-entries}
use Rattle.std.specs.Ordering.{nat_cmp}
use Rattle.std.proofs.lemmas.List.{length-map}
use Rattle.std.proofs.lemmas.Bool.Decides.{nat_tests}
use Rattle.std.proofs.lemmas.List.Elements.{All-nil, All-cons}
use Rattle.dev_model.specs.Story.{Bytes, Story, bytes_of, IsCalmAt}
use Rattle.dev_model.specs.Moments.{ReadsWithin}
use Rattle.table_model.specs.Table.{Table, Place, rows_of, row_at}
use Rattle.table_model.specs.Answers.{after_write}
use Rattle.wal_log.specs.Later.{later}
use Rattle.wal_log.specs.UpTo.{up_to}
use Rattle.wal_log.specs.Records.{record_of}
use Rattle.wal_log.specs.Segments.{Segments, segments_of}
use Rattle.wal_log.specs.Rules.{Opens as LogOpens, Numbered as NumberedSegment, first_lsn_of, AreSound, in_order, records_in, records_of}
use Rattle.wal_log.specs.State.{IsLogOf, HasLast}
use Rattle.wal_log.specs.Counted.{IsCounted}
use Rattle.wal_log.specs.Laws.Later.{AreNumbered, numbered, numbered-end, length-bodies, later-whole, later-split}
use Rattle.wal_log.specs.declared.log.Log.{Log}
use Rattle.wal_log.specs.declared.records.Record.{Record}
use Rattle.superblock.specs.Superblock.{IsLookedInSuperblock, declared}
use Rattle.component_image.specs.Replayed.{write_of, replayed}
use Rattle.format_numbers.specs.declared.TheConstants.{LOG_START}
use Rattle.comp_dir.specs.Slots.{slot_bytes, slot_of}
use Rattle.comp_dir.specs.Directory.{Numbered, directory_of}
use Rattle.comp_dir.specs.declared.places.TheConstants.{PRIMARY}
use Rattle.comp_dir.specs.declared.slots.Slot.{Slot}
use Rattle.primary_ix.specs.declared.rows.PrimRow.{PrimRow}
use Rattle.space_map.specs.Space.{Space}
use Rattle.component_image.specs.Changes.{changed}
use Rattle.component_image.specs.Components.{components, end_of}
use Rattle.component_image.specs.Content.{ShowAll, Count}
use Rattle.component_image.specs.Laid.{table_of}
use Rattle.component_image.specs.Recovered.{primary_of, Opens, IsLookedAt, IsContent, Recovers, IsOpeningRange}
use Rattle.component_image.specs.Resting.{Rests}
use Rattle.component_image.specs.Told.{AreTold}
use Rattle.component_image.specs.Counted.{counted}
use Rattle.component_image.specs.Laws.Components.{AllOf, AllOf-weaker, components-all}
use Rattle.component_image.specs.Laws.Counting.{told-count, rows-below}
use Rattle.store_state.specs.Lists.{Lists, placed_up_to}
use Rattle.store_state.specs.Opened.{placed_rows, opened}
use Rattle.store_state.specs.Steps.{frozen_at}
use Rattle.store_state.specs.Keeping.{IsKept}
use Rattle.store_opening.specs.Read.{HasRead, HasSlots, AreLawfulSlots}
use Rattle.store_opening.specs.Restored.{with_records, last_before, restored}
use Rattle.store_opening.proofs.InOrder.{primary-placed, end-placed, ends-placed, slots-found}
use Rattle.store_opening.proofs.OpeningRead.{Same, same-reads, calm-directory}
use Rattle.store_opening.proofs.Restoring.{counted-append}

-- numbered records up to the number of the next one, and how many come behind a number
pub up_to-later : (last next first : ℕ) (records : List Record) → AreNumbered first records → first + length records ≤ next + 1 → up_to next (later last records) ≡ later last records
up_to-later last next first [] are below = refl
up_to-later last next first (r ∷ records) are below = go (nat_lt last r.lsn) (up_to-later last next (first + 1) records are.1 (omega (arith, below)))
  where
    there : nat_le r.lsn next ≡ true
    there = let small : r.lsn ≤ next = omega (arith, are.0, below) in grind (arith, nat_tests, small)

    go : (b : Bool) → up_to next (later last records) ≡ later last records → up_to next (if b then r ∷ later last records else later last records) ≡ (if b then r ∷ later last records else later last records)
    go true rest = ap (λ (b : Bool). if b then r ∷ up_to next (later last records) else up_to next (later last records)) there ∙ ap (λ (rs : List Record). r ∷ rs) rest
    go false rest = rest

later-length : (last first : ℕ) (records : List Record) → AreNumbered first records → first ≤ last + 1 → last + 1 ≤ first + length records → last + 1 + length (later last records) ≡ first + length records
later-length last first [] are from to = omega (arith, from, to)
later-length last first (r ∷ records) are from to = by_place (places last first) (λ before. later-length last (first + 1) records are.1 (omega (arith, before)) (omega (arith, to)))
  where
    places : (last first : ℕ) → (first ≤ last) ⊎ (last < first)
    places last first = grind arith

    by_place : (first ≤ last) ⊎ (last < first) → (first ≤ last → last + 1 + length (later last records) ≡ first + 1 + length records) → last + 1 + length (later last (r ∷ records)) ≡ first + length (r ∷ records)
    by_place (inl before) others =
        let test : nat_lt last r.lsn ≡ false = grind (arith, nat_tests, are.0) in
        let rest : last + 1 + length (later last records) ≡ first + 1 + length records = others before in
        let here : length (later last (r ∷ records)) ≡ length (later last records) = ap (λ (b : Bool). length (if b then r ∷ later last records else later last records)) test in
        omega (arith, rest, here)
    by_place (inr behind) others =
        let here : length (later last (r ∷ records)) ≡ length (r ∷ records) = ap (λ (rs : List Record). length rs) (later-whole last first (r ∷ records) are behind) in
        omega (arith, here, from, behind)

-- there is no record behind a number and up to the same one
none-between : (last : ℕ) (records : List Record) → up_to last (later last records) ≡ []
none-between last [] = refl
none-between last (r ∷ records) = go (nat_lt last r.lsn) refl (none-between last records)
  where
    go : (b : Bool) → nat_lt last r.lsn ≡ b → up_to last (later last records) ≡ [] → up_to last (if b then r ∷ later last records else later last records) ≡ []
    go true is others =
        let test : nat_le r.lsn last ≡ false = grind (arith, nat_tests, is) in
        ap (λ (b : Bool). if b then r ∷ up_to last (later last records) else up_to last (later last records)) test ∙ others
    go false is others = others

later-fewer : (last : ℕ) (records : List Record) → length (later last records) ≤ length records
later-fewer last [] = omega arith
later-fewer last (r ∷ records) = go (nat_lt last r.lsn) (later-fewer last records)
  where
    go : (b : Bool) → length (later last records) ≤ length records → length (if b then r ∷ later last records else later last records) ≤ suc (length records)
    go true le = omega (arith, le)
    go false le = omega (arith, le)

-- the newest segment's records are among all
newest-among : (ns : List NumberedSegment) (generation next records : ℕ) → HasLast generation next records ns → records ≤ length (records_in ns)
newest-among [] generation next records is = absurd is
newest-among (n ∷ []) generation next records is = omega (arith, is.2, length-append (map record_of n.segment.records) [], length-bodies n.segment.records)
newest-among (n ∷ m ∷ ms) generation next records is =
    omega (arith, newest-among (m ∷ ms) generation next records is, length-append (map record_of n.segment.records) (records_in (m ∷ ms)))

-- the records of a log behind the number before its newest segment are those of that segment
record HasNewest (log : Log) (records : List Record) (last : ℕ) : Type 0 where
  whole : up_to log.next_lsn (later last records) ≡ later last records
  count : length (later last records) ≡ log.records
  few : length records ≤ log.next_lsn

has-newest : (log : Log) (segments : Segments) (last : ℕ) → IsLogOf log segments → last + 1 + log.records ≡ log.next_lsn → HasNewest log (records_of segments) last
has-newest log segments last of there = by_order (in_order segments) of.sound of.newest_is
  where
    by_order : (ns : List NumberedSegment) → AreSound [] None ns → HasLast log.generation log.next_lsn log.records ns → HasNewest log (records_in ns) last
    by_order [] sound is = absurd is
    by_order (n ∷ ns) sound is =
        let end : first_lsn_of n + length (records_in (n ∷ ns)) ≡ log.next_lsn = numbered-end [] None n ns log.generation log.next_lsn log.records sound is in
        let are : AreNumbered (first_lsn_of n) (records_in (n ∷ ns)) = numbered [] None n ns sound in
        let among : log.records ≤ length (records_in (n ∷ ns)) = newest-among (n ∷ ns) log.generation log.next_lsn log.records is in
        let behind : last + 1 + length (later last (records_in (n ∷ ns))) ≡ first_lsn_of n + length (records_in (n ∷ ns)) = later-length last (first_lsn_of n) (records_in (n ∷ ns)) are (omega (arith, end, among, there)) (omega (arith, end, there)) in
        record {
          whole = up_to-later last log.next_lsn (first_lsn_of n) (records_in (n ∷ ns)) are (omega (arith, end));
          count = omega (arith, behind, end, there);
          few = omega (arith, end);
        }

-- the first ones of records that are told are told of the same table
told-front : (t : Table) (rs more : List Record) → AreTold t (rs ++ more) → AreTold t rs
told-front t [] more told = tt
told-front t (r ∷ rs) more told = (told.0, told-front (after_write t (write_of r.op)) rs more told.1)

-- the rows of a slot's main part fit four bytes
rows_fit : (body : List ℕ) → slot_bytes (slot_of body) ≡ body → (slot_of body).main_rows < 2 ^ 32
unfolding slot_bytes slot_of
rows_fit body spelled =
    let same : (slot_of body).main_rows ≡ from_be_bytes w32 (to_be_bytes w32 (slot_of body).main_rows) = ap (λ (b : List ℕ). from_be_bytes w32 (take 4 (drop 27 b))) (sym spelled) in
    fits (slot_of body).main_rows same
  where
    fits : (n : ℕ) → n ≡ from_be_bytes w32 (to_be_bytes w32 n) → n < 2 ^ 32
    fits n is = omega (arith, is)

-- each list of a component has fewer rows than that
few-each : (bytes : Bytes) (slots : List Slot) (lists : List (List PrimRow)) → ShowAll bytes slots lists → AllOf (λ s. s.main_rows < 2 ^ 32) slots → All (λ rows. length rows < 2 ^ 32) lists
few-each bytes [] [] shown small = All-nil (λ rows. length rows < 2 ^ 32)
few-each bytes (s ∷ slots) [] shown small = absurd shown
few-each bytes [] (rows ∷ lists) shown small = absurd shown
few-each bytes (s ∷ slots) (rows ∷ lists) shown small =
    All-cons (λ rows. length rows < 2 ^ 32) rows lists (let count : length rows ≡ s.main_rows = shown.0.is.count in omega (arith, count, small.0)) (few-each bytes slots lists shown.1 small.1)

as-many : (bytes : Bytes) (slots : List Slot) (lists : List (List PrimRow)) → ShowAll bytes slots lists → length lists ≡ length slots
as-many bytes [] [] shown = refl
as-many bytes (s ∷ slots) [] shown = absurd shown
as-many bytes [] (rows ∷ lists) shown = absurd shown
as-many bytes (s ∷ slots) (rows ∷ lists) shown = ap suc (as-many bytes slots lists shown.1)

-- the newest component says how many rows there are behind it
rows-placed : (bytes : Bytes) (slots : List Numbered) (lists : List (List PrimRow)) → ShowAll bytes (map (λ e. e.1) slots) lists → Count (map (λ e. e.1) slots) lists → placed_rows slots ≡ length (rows_of (table_of lists))
rows-placed bytes [] [] shown counts = sym no_rows
  where
    no_rows : length (rows_of empty) ≡ 0
    no_rows = length-map (entries empty) row_at ∙ sym (len-entries empty) ∙ len-empty nat_cmp Place
rows-placed bytes [] (rows ∷ lists) shown counts = absurd shown
rows-placed bytes (e ∷ older) [] shown counts = absurd shown
rows-placed bytes (e ∷ older) (rows ∷ lists) shown counts = counts.0

-- what an opening has read of a device, and how its lists were made
pub record IsMade (pages : ℕ) (components ignored : List Numbered) (log : Log) (records : List Record) (space : Space) (l : Lists) (t : Story) : Type 0 where
  pub slots : HasSlots pages (bytes_of t) components ignored
  pub records_are : records ≡ records_of (segments_of LOG_START (bytes_of t))
  pub log_of : IsLogOf log (segments_of LOG_START (bytes_of t))
  pub below : log.next_lsn ≤ 2 ^ 62
  pub behind : placed_up_to components + 1 + log.records ≤ log.next_lsn
  pub few : length components ≤ 16
  pub made : l ≡ restored log records (opened components ignored space)

module _ (pages : ℕ) (components ignored : List Numbered) (log : Log) (records : List Record) (space : Space) (l : Lists) (t : Story) (table : Table)
    (is : IsMade pages components ignored log records space l t) (rests : Rests pages log table t) where
  abbrev all : List Record
  all = records_of (segments_of LOG_START (bytes_of t))

  abbrev last : ℕ
  last = last_before log

  abbrev first : List Record
  first = up_to last (later (placed_up_to components) all)

  abbrev rest : List Record
  rest = later last all

  abbrev lists : List (List PrimRow)
  lists = rests.recovers.lists

  newest : HasNewest log all last
  newest = has-newest log (segments_of LOG_START (bytes_of t)) last is.log_of (omega (arith, is.behind))

  split : later (placed_up_to components) all ≡ first ++ rest
  split = later-split log (segments_of LOG_START (bytes_of t)) (placed_up_to components) last is.log_of (omega (arith, is.behind))

  shown : ShowAll (bytes_of t) (map (λ e. e.1) components) lists
  shown = subst (λ (slots : List Slot). ShowAll (bytes_of t) slots lists) (primary-placed pages (bytes_of t) components ignored is.slots) rests.recovers.shown

  counts : Count (map (λ e. e.1) components) lists
  counts = subst (λ (slots : List Slot). Count slots lists) (primary-placed pages (bytes_of t) components ignored is.slots) rests.recovers.counted

  behind_them : later (end_of (primary_of (bytes_of t))) all ≡ first ++ rest
  behind_them = ap (λ (n : ℕ). later n all) (end-placed pages (bytes_of t) components ignored is.slots) ∙ split

  told : AreTold (table_of lists) (first ++ rest)
  told = subst (AreTold (table_of lists)) behind_them rests.recovers.told

  small : AllOf (λ s. s.main_rows < 2 ^ 32) (primary_of (bytes_of t))
  small =
      AllOf-weaker (λ s. (s.index ≡ PRIMARY) × (s.main_rows < 2 ^ 32)) (λ s. s.main_rows < 2 ^ 32) (primary_of (bytes_of t)) (λ s both. both.1)
      (components-all (λ s. s.main_rows < 2 ^ 32) PRIMARY (directory_of (bytes_of t)) (λ n body there. rows_fit body (is.slots.opens.sound n body there).spelled))

  few_rows : length (rows_of (table_of lists)) < 2 ^ 37
  few_rows =
      let many : length lists ≡ length (map (λ (e : Numbered). e.1) components) = as-many (bytes_of t) (map (λ e. e.1) components) lists shown in
      let bound : length (rows_of (replayed (table_of lists) [])) < 2 ^ 37 + length {A = Record} [] =
      rows-below (2 ^ 32) 16 (2 ^ 37) (omega arith) lists [] (few-each (bytes_of t) (primary_of (bytes_of t)) lists rests.recovers.shown small) (omega (arith, many, is.few, length-map components (λ (e : Numbered). e.1))) in
      omega (arith, bound)

  few_records : length (first ++ rest) ≤ 2 ^ 62
  few_records =
      let fewer : length (later (placed_up_to components) all) ≤ length all = later-fewer (placed_up_to components) all in
      let same : length (later (placed_up_to components) all) ≡ length (first ++ rest) = ap (λ (rs : List Record). length rs) split in
      omega (arith, fewer, same, newest.few, is.below)

  placed_are : placed_rows components ≡ length (rows_of (table_of lists))
  placed_are = rows-placed (bytes_of t) components lists shown counts

  rows_first : counted (placed_rows components) first ≡ length (rows_of (replayed (table_of lists) first))
  rows_first =
      ap (λ (n : ℕ). counted n first) placed_are
      ∙ told-count (table_of lists) first (told-front (table_of lists) first rest told) (omega (arith, few_rows, few_records, length-append first rest))

  rows_all : counted (counted (placed_rows components) first) rest ≡ length (rows_of table)
  rows_all =
      sym (counted-append (placed_rows components) first rest) ∙ ap (λ (n : ℕ). counted n (first ++ rest)) placed_are
      ∙ told-count (table_of lists) (first ++ rest) told (omega (arith, few_rows, few_records))
      ∙ ap (λ (rs : List Record). length (rows_of (replayed (table_of lists) rs))) (sym behind_them)
      ∙ ap (λ (x : Table). length (rows_of x)) (sym rests.recovers.table_is)

  -- with the records of the bytes in the place of those that were read
  made_of : l ≡ restored log all (opened components ignored space)
  made_of = is.made ∙ ap (λ (rs : List Record). restored log rs (opened components ignored space)) is.records_are

  -- the records of the newest segment laid last
  abbrev with_rest : Lists → Lists
  with_rest x = record x { active = changed x.active rest; rows = counted x.rows rest }

  abbrev laid : Lists
  laid = record (opened components ignored space) { active = changed [] first; rows = counted (placed_rows components) first }

  as_laid : l ≡ with_rest (if nat_lt (placed_up_to components) last then frozen_at last laid else laid)
  as_laid = made_of ∙ ap (λ (rs : List Record). with_records rs (if nat_lt (placed_up_to components) last then frozen_at last laid else laid)) newest.whole

  -- lists that are made so are kept
  made-kept : (x : Lists) → (b : Bool) → nat_lt (placed_up_to components) last ≡ b → x ≡ with_rest (if b then frozen_at last laid else laid) → IsKept pages log table x t
  made-kept x true test made = subst (λ (y : Lists). IsKept pages log table y t) (sym made) (record {
    held = record {
      rests = rests;
      components = primary-placed pages (bytes_of t) components ignored is.slots;
      slots = slots-found pages (bytes_of t) components ignored is.slots;
      frozen_writes = first;
      active_writes = rest;
      writes = split;
      frozen_is = refl;
      active_is = refl;
      active_count = newest.count;
      rows_are = rows_all;
      cut_rows_are = rows_first;
    };
    under_way = tt;
  })
  made-kept x false test made =
      let same : placed_up_to components ≡ last = grind (arith, nat_tests, test, is.behind) in
      let none : first ≡ [] = ap (λ (n : ℕ). up_to last (later n all)) same ∙ none-between last all in
      subst (λ (y : Lists). IsKept pages log table y t) (sym made) (record {
        held = record {
          rests = rests;
          components = primary-placed pages (bytes_of t) components ignored is.slots;
          slots = slots-found pages (bytes_of t) components ignored is.slots;
          frozen_writes = [];
          active_writes = rest;
          writes = split ∙ ap (λ (rs : List Record). rs ++ rest) none;
          frozen_is = refl;
          active_is = ap (λ (rs : List Record). changed (changed [] rs) rest) none;
          active_count = newest.count;
          rows_are = rows_all;
          cut_rows_are = placed_are;
        };
        under_way = tt;
      })

  pub opened-kept : IsKept pages log table l t
  opened-kept = made-kept l (nat_lt (placed_up_to components) last) refl as_laid

-- what was read of an image that opens
pub image-opens : (pages indexes : ℕ) (components ignored : List Numbered) (log : Log) (records : List Record) (s : Story) (now : Option Story) → HasRead pages s now indexes components ignored log records
    → Opens pages (bytes_of s) × (declared (bytes_of s) ≡ indexes)
image-opens pages indexes components ignored log records s now read = (
  record {
    formatted = read.formatted;
    directory = read.slots.opens;
    log = subst (λ (ends : List ℕ). LogOpens ends (segments_of LOG_START (bytes_of s))) (ends-placed pages (bytes_of s) components ignored read.slots) read.opens;
  },
  read.declared_is,
)

-- a store that was opened is at rest with the table that the bytes recover to
pub opening-kept : (pages indexes : ℕ) (components ignored : List Numbered) (log : Log) (records : List Record) (space : Space) (l : Lists) (s t : Story) (now : Option Story) (table : Table)
    → HasRead pages s now indexes components ignored log records → ReadsWithin IsOpeningRange s now → now ≡ Some t
    → IsCalmAt (IsLookedAt (bytes_of s)) s → IsCalmAt (IsContent (bytes_of s)) s → Recovers pages table (bytes_of s)
    → log.start ≡ LOG_START → IsCounted log → AreLawfulSlots pages components ignored → placed_up_to components + 1 + log.records ≤ log.next_lsn
    → l ≡ restored log records (opened components ignored space) → IsKept pages log table l t
opening-kept pages indexes components ignored log records space l s t now table read reads told calm content recovers start counts lawful behind made =
    opened-kept pages components ignored log records space l t table
    (record {
      slots = subst (λ (x : Bytes). HasSlots pages x components ignored) back read.slots;
      records_are = subst (λ (x : Bytes). records ≡ records_of (segments_of LOG_START x)) back read.records_are;
      log_of = log_of;
      below = counts.next_lsn;
      behind = behind;
      few = lawful.few;
      made = made;
    })
    (record {
      recovers = subst (Recovers pages table) back recovers;
      superblock_calm = λ i looked. same.settled i (calm i (inl (subst (λ (x : Bytes). IsLookedInSuperblock x i) same.bytes looked)));
      directory_rest = calm-directory s t same calm;
      content_calm = λ i inside. same.settled i (content i (subst (λ (x : Bytes). IsContent x i) same.bytes inside));
      log_start = start;
      log_rest = read.at_rest t told;
      log_of = log_of;
    })
  where
    same : Same s t
    same = same-reads s now reads t told

    back : bytes_of s ≡ bytes_of t
    back = sym same.bytes

    log_of : IsLogOf log (segments_of LOG_START (bytes_of t))
    log_of = subst (λ (x : Bytes). IsLogOf log (segments_of LOG_START x)) back read.log_of
