-- A table has far fewer rows than a u64 counts.
use Rattle.std.proofs.Common.{◌≡◌, ℕ, suc, ◌+◌, ◌-◌, ◌*◌, ◌^◌, ◌<◌, ◌≤◌, List, [], ◌∷◌, ◌++◌, length, map, slice_index, Bool, true, false, if◌then◌else◌, nat_lt, All, None, refl, ◌∙◌, ap, subst, arith}
use Rattle.std.proofs.Math.Nat.{mul-le-mul_right}
use Rattle.std.proofs.lemmas.List.Elements.{All-nil, All-cons, All-head, All-tail}
use Rattle.dev_model.specs.Story.{Bytes, Story, bytes_of}
use Rattle.tree_shape.specs.Shape.{level_size, level_start, span, IsPlace}
use Rattle.tree_shape.specs.declared.levels.Shape.{Shape}
use Rattle.tree_shape.specs.Laws.Covers.{size_covers, span-zero, one_le-level_size}
use Rattle.tree_shape.specs.Laws.Places.{before_root}
use Rattle.table_model.specs.Table.{Table, rows_of}
use Rattle.wal_log.specs.Later.{later}
use Rattle.wal_log.specs.Laws.Later.{numbered-end}
use Rattle.wal_log.specs.Rules.{Numbered as NumberedSegment, AreSound, in_order, records_in, records_of}
use Rattle.wal_log.specs.Segments.{segments_of}
use Rattle.wal_log.specs.State.{HasLast}
use Rattle.wal_log.specs.Counted.{IsCounted}
use Rattle.wal_log.specs.declared.log.Log.{Log}
use Rattle.wal_log.specs.declared.records.Record.{Record}
use Rattle.format_numbers.specs.declared.TheConstants.{LOG_START}
use Rattle.component_image.specs.Replayed.{replayed}
use Rattle.comp_dir.specs.Directory.{Numbered, directory_of}
use Rattle.comp_dir.specs.Parts.{HasPages, tree, main_tree}
use Rattle.comp_dir.specs.declared.places.TheConstants.{MAIN_LEAVES, MAIN_INNERS}
use Rattle.comp_dir.specs.declared.slots.Slot.{Slot}
use Rattle.primary_ix.specs.declared.rows.PrimRow.{PrimRow}
use Rattle.component_image.specs.Components.{end_of}
use Rattle.component_image.specs.Content.{ShowAll}
use Rattle.component_image.specs.Laid.{table_of}
use Rattle.component_image.specs.Recovered.{primary_of}
use Rattle.component_image.specs.Laws.Agreeing.{IsPrimary, primaries}
use Rattle.component_image.specs.Laws.Components.{AllOf}
use Rattle.component_image.specs.Laws.Counting.{rows-below}
use Rattle.store_state.specs.Lists.{Lists}
use Rattle.store_state.specs.EveryList.{IsLists, IsOpenSlot}
use Rattle.store_state.specs.Keeping.{IsKept}

-- the rows of a tree of the primary fill its leaves at most
rows_on_pages : (shape : Shape) (count : ℕ) → shape.per_leaf ≡ 52 → 2 ≤ shape.per_inner → HasPages shape count → shape.rows ≤ count * 52
unfolding level_start
rows_on_pages shape count leaf inner has =
    let some : 1 ≤ level_size shape 0 = one_le-level_size shape inner 0 in
    let place : IsPlace shape 0 (level_size shape 0 - 1) = record { inside = omega (arith, some); up_to_root = λ below less. absurd (omega (arith, less)) } in
    let last : level_start shape 0 + (level_size shape 0 - 1) ≤ level_start shape has.root = before_root shape has.root 0 (level_size shape 0 - 1) has.is_root place in
    let leaves : level_size shape 0 ≤ count = omega (arith, last, has.counts, some) in
    let wide : span shape 0 ≡ 52 = span-zero shape ∙ leaf in
    let covers : shape.rows ≤ level_size shape 0 * 52 = subst (λ (n : ℕ). shape.rows ≤ level_size shape 0 * n) wide (size_covers shape (omega (arith, leaf)) inner 0) in
    omega (arith, covers, mul-le-mul_right 52 leaves)

slot_rows : (pages : ℕ) (e : Numbered) → pages ≤ 65536 → IsPrimary e.1 → IsOpenSlot pages e → e.1.main_rows < 3407873
slot_rows pages e most primary opened =
    let shape : main_tree e.1 ≡ tree (slice_index MAIN_LEAVES 0) (slice_index MAIN_INNERS 0) e.1.main_rows = λ j. tree (slice_index MAIN_LEAVES (primary.0 j)) (slice_index MAIN_INNERS (primary.0 j)) e.1.main_rows in
    let pages_has : HasPages (tree (slice_index MAIN_LEAVES 0) (slice_index MAIN_INNERS 0) e.1.main_rows) primary.1.main = subst (λ (x : Shape). HasPages x primary.1.main) shape primary.1.main_pages in
    let rows : e.1.main_rows ≤ primary.1.main * 52 = rows_on_pages (tree (slice_index MAIN_LEAVES 0) (slice_index MAIN_INNERS 0) e.1.main_rows) primary.1.main refl (omega arith) pages_has in
    omega (arith, rows, primary.1.main_inside, opened.sound.extent.to, most)

module _ (pages : ℕ) (bytes : Bytes) (most : pages ≤ 65536) where
  lists_few : (slots more : List Numbered) (lists : List (List PrimRow)) → AllOf IsPrimary (map (λ e. e.1) slots) → All (IsOpenSlot pages) (slots ++ more) → ShowAll bytes (map (λ e. e.1) slots) lists
      → All (λ rows. length rows < 3407873) lists × (length lists ≡ length slots)
  lists_few [] more [] primary opened shown = (All-nil (λ rows. length rows < 3407873), refl)
  lists_few [] more (rows ∷ lists) primary opened shown = absurd shown
  lists_few (e ∷ slots) more [] primary opened shown = absurd shown
  lists_few (e ∷ slots) more (rows ∷ lists) primary opened shown =
      let others : All (λ (xs : List PrimRow). length xs < 3407873) lists × (length lists ≡ length slots) = lists_few slots more lists primary.1 (All-tail (IsOpenSlot pages) e (slots ++ more) opened) shown.1 in
      let here : length rows < 3407873 = omega (arith, shown.0.is.count, slot_rows pages e most primary.0 (All-head (IsOpenSlot pages) e (slots ++ more) opened)) in
      (All-cons (λ (xs : List PrimRow). length xs < 3407873) rows lists here others.0, ap suc others.1)

later_few : (last : ℕ) (records : List Record) → length (later last records) ≤ length records
later_few last [] = omega arith
later_few last (r ∷ records) = by_test (nat_lt last r.lsn) (later_few last records)
  where
    by_test : (b : Bool) → length (later last records) ≤ length records → length (if b then r ∷ later last records else later last records) ≤ suc (length records)
    by_test true le = omega (arith, le)
    by_test false le = omega (arith, le)

-- a log has fewer records than their numbers
records_few : (log : Log) (ns : List NumberedSegment) → AreSound [] None ns → HasLast log.generation log.next_lsn log.records ns → length (records_in ns) ≤ log.next_lsn
records_few log [] sound is = absurd is
records_few log (n ∷ ns) sound is = omega (arith, numbered-end [] None n ns log.generation log.next_lsn log.records sound is)

pub rows-few : (pages : ℕ) (log : Log) (table : Table) (l : Lists) (s : Story) → IsKept pages log table l s → IsLists l → IsCounted log → length (rows_of table) < 2 ^ 64 - 1
rows-few pages log table l s kept lists counted =
    let shown : ShowAll (bytes_of s) (map (λ e. e.1) l.components) kept.held.rests.recovers.lists =
    subst (λ (slots : List Slot). ShowAll (bytes_of s) slots kept.held.rests.recovers.lists) kept.held.components kept.held.rests.recovers.shown in
    let primary : AllOf IsPrimary (map (λ e. e.1) l.components) =
    subst (AllOf IsPrimary) kept.held.components (primaries pages 0 (directory_of (bytes_of s)) kept.held.rests.recovers.opens.directory) in
    let few : All (λ (rows : List PrimRow). length rows < 3407873) kept.held.rests.recovers.lists × (length kept.held.rests.recovers.lists ≡ length l.components) =
    lists_few l.space.pages (bytes_of s) lists.most l.components l.ignored kept.held.rests.recovers.lists primary lists.slots shown in
    let records : List Record = later (end_of (primary_of (bytes_of s))) (records_of (segments_of LOG_START (bytes_of s))) in
    let below : length (rows_of (replayed (table_of kept.held.rests.recovers.lists) records)) < 137438953472 + length records =
    rows-below 3407873 16 137438953472 (omega arith) kept.held.rests.recovers.lists records few.0 (omega (arith, few.1, lists.few)) in
    let logged : length records ≤ length (records_of (segments_of LOG_START (bytes_of s))) = later_few (end_of (primary_of (bytes_of s))) (records_of (segments_of LOG_START (bytes_of s))) in
    let all : length (records_of (segments_of LOG_START (bytes_of s))) ≤ log.next_lsn = records_few log (in_order (segments_of LOG_START (bytes_of s))) kept.held.rests.log_of.sound kept.held.rests.log_of.newest_is in
    let same : length (rows_of table) ≡ length (rows_of (replayed (table_of kept.held.rests.recovers.lists) records)) = ap (λ (t : Table). length (rows_of t)) kept.held.rests.recovers.table_is in
    omega (arith, below, logged, all, same, counted.next_lsn)
