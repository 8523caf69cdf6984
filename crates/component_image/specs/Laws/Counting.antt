-- How many rows a table has after records that say truly what it had, and how many it has at most. No public contract needs these
-- laws.
use Rattle.std.proofs.Common.{◌≡◌, ℕ, ◌+◌, ◌-◌, ◌*◌, ◌^◌, ◌<◌, ◌≤◌, List, [], ◌∷◌, length, All, Option, Some, None, is_some, Bool, true, false, cond, nat_lt, if◌then◌else◌, refl, sym, ◌∙◌, ap, arith}
use Rattle.std.proofs.Math.Nat.{mul-le-mul_right}
use Rattle.std.proofs.lemmas.Bool.Decides.{nat_tests}
use Rattle.std.proofs.lemmas.List.{length-map}
use Rattle.std.proofs.lemmas.List.Elements.{All-head, All-tail}
use Rattle.std.specs.Option.{option_map}
use Rattle.std.specs.Ordering.{nat_cmp}
use Rattle.std.specs.Cmp.{nat_cmp_total}
use Rattle.std.specs.FinMap.{entries, get, insert, remove, empty, len, len-empty, len-entries, len-insert, len-remove}
use Rattle.geo_base.specs.declared.points.Point.{Point}
use Rattle.geo_base.specs.declared.points.Row.{Row}
use Rattle.dev_model.specs.Counts.{next_count}
use Rattle.table_model.specs.Table.{Table, Place, place_of, row_at, rows_of}
use Rattle.table_model.specs.Commands.{Write, put, del}
use Rattle.table_model.specs.Answers.{after_write}
use Rattle.wal_log.specs.Records.{key_of}
use Rattle.wal_log.specs.declared.records.LogOp.{LogOp}
use Rattle.wal_log.specs.declared.records.LogOp.TheVariants.{Put, Del}
use Rattle.wal_log.specs.declared.records.Record.{Record}
use Rattle.component_image.specs.Replayed.{write_of, replayed}
use Rattle.primary_ix.specs.Rows.{Matter}
use Rattle.primary_ix.specs.declared.rows.PrimRow.{PrimRow}
use Rattle.component_image.specs.Laid.{place_in, with_matter, laid, table_of}
use Rattle.component_image.specs.Counted.{rows_together, rows_after, counted}
use Rattle.component_image.specs.Told.{AreTold}

-- the rows of a table
abbrev count_of : Table → ℕ
count_of t = length (rows_of t)

count_is : (t : Table) → count_of t ≡ len t
count_is t = length-map (entries t) row_at ∙ sym (len-entries t)

-- one row more, where the key had none
count-insert : (t : Table) (key : ℕ) (place : Place) → count_of (insert t key place) ≡ cond (is_some (get t key)) (count_of t) (count_of t + 1)
count-insert t key place =
    count_is (insert t key place) ∙ len-insert nat_cmp_total t key place
    ∙ ap (λ (n : ℕ). cond (is_some (get t key)) n (n + 1)) (sym (count_is t))

-- one row less, where it had one
count-remove : (t : Table) (key : ℕ) → count_of (remove t key) ≡ cond (is_some (get t key)) (count_of t - 1) (count_of t)
count-remove t key =
    count_is (remove t key) ∙ len-remove nat_cmp_total t key
    ∙ ap (λ (n : ℕ). cond (is_some (get t key)) (n - 1) n) (sym (count_is t))

next-below : (n : ℕ) → n + 1 < 2 ^ 64 → next_count n ≡ n + 1
next-below n below = let test : nat_lt n (2 ^ 64 - 1) ≡ true = grind (arith, nat_tests) in ap (λ (b : Bool). if b then n + 1 else n) test

put-there : (row : Row) (n : ℕ) → n + 1 < 2 ^ 64 → (found : Option Place) (old : Option Point) → old ≡ option_map (λ place. place.point) found → rows_after (Put row) old n ≡ cond (is_some found) n (n + 1)
put-there row n below None old is = ap (λ (o : Option Point). rows_after (Put row) o n) is ∙ next-below n below
put-there row n below (Some place) old is = ap (λ (o : Option Point). rows_after (Put row) o n) is

del-there : (key n : ℕ) (found : Option Place) (old : Option Point) → old ≡ option_map (λ place. place.point) found → rows_after (Del key) old n ≡ cond (is_some found) (n - 1) n
del-there key n None old is = ap (λ (o : Option Point). rows_after (Del key) o n) is
del-there key n (Some place) old is = ap (λ (o : Option Point). rows_after (Del key) o n) is

-- a record that says truly what its key had says how many rows there are after it
count-told : (t : Table) → count_of t + 1 < 2 ^ 64 → (op : LogOp) (old : Option Point) → old ≡ option_map (λ place. place.point) (get t (key_of op)) → rows_after op old (count_of t) ≡ count_of (after_write t (write_of op))
count-told t below (Put row) old says = put-there row (count_of t) below (get t row.key) old says ∙ sym (count-insert t row.key (place_of row))
count-told t below (Del key) old says = del-there key (count_of t) (get t key) old says ∙ sym (count-remove t key)

one_more : (b : Bool) (n : ℕ) → cond b n (n + 1) ≤ n + 1
one_more true n = omega arith
one_more false n = omega arith

none_more : (b : Bool) (n : ℕ) → cond b (n - 1) n ≤ n + 1
none_more true n = omega arith
none_more false n = omega arith

-- a write adds one row at most
few-insert : (t : Table) (key : ℕ) (place : Place) → count_of (insert t key place) ≤ count_of t + 1
few-insert t key place = omega (arith, count-insert t key place, one_more (is_some (get t key)) (count_of t))

few-remove : (t : Table) (key : ℕ) → count_of (remove t key) ≤ count_of t + 1
few-remove t key = omega (arith, count-remove t key, none_more (is_some (get t key)) (count_of t))

few-write : (t : Table) (w : Write) → count_of (after_write t w) ≤ count_of t + 1
few-write t (put row) = few-insert t row.key (place_of row)
few-write t (del key) = few-remove t key

few-matter : (t : Table) (key : ℕ) (matter : Matter) → count_of (with_matter t key matter) ≤ count_of t + 1
few-matter t key None = few-remove t key
few-matter t key (Some matter) = few-insert t key (place_in matter)

-- what told records count is what the table has
pub told-count : (t : Table) (rs : List Record) → AreTold t rs → length (rows_of t) + length rs < 2 ^ 64 → counted (length (rows_of t)) rs ≡ length (rows_of (replayed t rs))
told-count t [] told below = refl
told-count t (r ∷ rs) told below =
    ap (λ (n : ℕ). counted n rs) (count-told t (omega (arith, below)) r.op r.old_point told.0)
    ∙ told-count (after_write t (write_of r.op)) rs told.1 (omega (arith, below, few-write t (write_of r.op)))

pub few-replayed : (t : Table) (rs : List Record) → length (rows_of (replayed t rs)) ≤ length (rows_of t) + length rs
few-replayed t [] = omega arith
few-replayed t (r ∷ rs) = omega (arith, few-replayed (after_write t (write_of r.op)) rs, few-write t (write_of r.op))

few-laid : (rows : List PrimRow) (t : Table) → length (rows_of (laid rows t)) ≤ length rows + length (rows_of t)
few-laid [] t = omega arith
few-laid (row ∷ rows) t = omega (arith, few-laid rows t, few-matter (laid rows t) row.key row.matter)

few-listed : (lists : List (List PrimRow)) → length (rows_of (table_of lists)) ≤ rows_together lists
few-listed [] = omega (arith, count_is empty, len-empty nat_cmp Place)
few-listed (rows ∷ older) = omega (arith, few-laid rows (table_of older), few-listed older)

-- a table has at most as many rows as the lists that make it, and one more for each write
pub few-rows : (lists : List (List PrimRow)) (rs : List Record) → length (rows_of (replayed (table_of lists) rs)) ≤ rows_together lists + length rs
few-rows lists rs = omega (arith, few-replayed (table_of lists) rs, few-listed lists)

together-below : (each : ℕ) (lists : List (List PrimRow)) → All (λ rows. length rows < each) lists → rows_together lists ≤ length lists * each
together-below each [] all = omega arith
together-below each (rows ∷ lists) all =
    let here : length rows < each = All-head (λ (xs : List PrimRow). length xs < each) rows lists all in
    let others : rows_together lists ≤ length lists * each = together-below each lists (All-tail (λ (xs : List PrimRow). length xs < each) rows lists all) in
    omega (arith, here, others)

-- a bound, where each list has fewer rows than so many
pub rows-below : (each most limit : ℕ) → most * each < limit → (lists : List (List PrimRow)) (rs : List Record) → All (λ rows. length rows < each) lists → length lists ≤ most
    → length (rows_of (replayed (table_of lists) rs)) < limit + length rs
rows-below each most limit below lists rs all few =
    let wide : length lists * each ≤ most * each = mul-le-mul_right each few in
    omega (arith, below, few-rows lists rs, together-below each lists all, wide)
