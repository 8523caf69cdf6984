-- An ascending list that has the rows of a table is the list of its rows.
use Rattle.std.proofs.Common.{◌≡◌, ℕ, Bool, true, false, ◌&&◌, List, [], ◌∷◌, All, map, cond, Option, Some, None, arith, refl, sym, ◌∙◌, ap, subst, suc}
use Rattle.std.specs.Prelude.{T}
use Rattle.std.specs.Option.{option_map, option_or}
use Rattle.std.specs.declared.cmp.Ordering.{Ordering}
use Rattle.std.proofs.lemmas.List.Elements.{All-cons, All-nil}
use Rattle.std.proofs.lemmas.List.Kept.{AllPairs-cons}
use Rattle.std.specs.Ordering.{nat_cmp, eq_by_cmp, is_lt}
use Rattle.std.specs.Cmp.{nat_cmp_total, eq_by_cmp_equiv}
use Rattle.std.specs.declared.cmp.Ordering.TheVariants.{Less, Equal, Greater}
use Rattle.std.specs.FinMap.{find, is_sorted, entries, entries_sorted, get-entries, nat_cmp-IsAntisymmetric}
use Rattle.std.specs.FinMap.Entries.{below_all, same_entries}
use Rattle.order_merge.specs.Entries.{entry_at, newest_at}
use Rattle.order_merge.specs.Fitting.{unless_anti, Fits}
use Rattle.order_merge.specs.Ascending.{Ascends}
use Rattle.order_merge.specs.Merged.{IsMergeOf}
use Rattle.order_merge.specs.laws.Living.{is_eq-Equal}
use Rattle.table_model.specs.Table.{Table, Place, row_at}
use Rattle.primary_ix.specs.declared.rows.PrimRow.{PrimRow}
use Rattle.primary_ix.specs.Reading.{prim_reading}
use Rattle.primary_ix.specs.Wanted.{matter_row, table_row, wanted_rows}
use Rattle.primary_ix.specs.Records.{table_rows}
use Rattle.primary_ix.specs.Laws.Fitting.{alive-wanted}

-- a row with its key, as a map has it
abbrev keyed : PrimRow → ℕ × PrimRow
keyed row = (row.key, row)

find-keyed : (rows : List PrimRow) (key : ℕ) → find nat_cmp key (map keyed rows) ≡ entry_at prim_reading rows key
unfolding entry_at
find-keyed [] key = refl
find-keyed (row ∷ rows) key =
    ap (λ b. cond b (Some row) (find nat_cmp key (map keyed rows))) ((eq_by_cmp_equiv nat_cmp_total).symm key row.key)
    ∙ ap (λ found. cond (eq_by_cmp nat_cmp row.key key) (Some row) found) (find-keyed rows key)

both : (a b : Bool) → a ≡ true → b ≡ true → (a && b) ≡ true
both a b p q = rw (p, q) refl

below-keyed : (x : PrimRow) (rows : List PrimRow) → All (λ row. nat_cmp x.key row.key ≡ Less) rows → below_all nat_cmp x.key (map keyed rows) ≡ true
below-keyed x [] h = refl
below-keyed x (row ∷ rows) h = both _ _ (ap is_lt (h 0 row (omega arith))) (below-keyed x rows (λ k d inside. h (suc k) d (omega arith)))

sorted-keyed : (rows : List PrimRow) → Ascends prim_reading rows → is_sorted nat_cmp (map keyed rows) ≡ true
sorted-keyed [] h = refl
sorted-keyed (row ∷ rows) h =
    both _ _ (below-keyed row rows (λ k d inside. h 0 (suc k) d (omega arith) (omega arith))) (sorted-keyed rows (λ i j d lt inside. h (suc i) (suc j) d (omega arith) (omega arith)))

-- a place with its key, as a row with its key
abbrev as_row : ℕ × Place → ℕ × PrimRow
as_row e = keyed (matter_row (row_at e))

below-rows : (x : ℕ) (es : List (ℕ × Place)) → below_all nat_cmp x (map as_row es) ≡ below_all nat_cmp x es
below-rows x [] = refl
below-rows x (e ∷ es) = ap (λ b. is_lt (nat_cmp x e.0) && b) (below-rows x es)

sorted-rows : (es : List (ℕ × Place)) → is_sorted nat_cmp (map as_row es) ≡ is_sorted nat_cmp es
sorted-rows [] = refl
sorted-rows (e ∷ es) = ap (λ b. b && is_sorted nat_cmp (map as_row es)) (below-rows e.0 es) ∙ ap (λ b. below_all nat_cmp e.0 es && b) (sorted-rows es)

found-rows : (es : List (ℕ × Place)) (key : ℕ) → find nat_cmp key (map as_row es) ≡ option_map matter_row (option_map (λ place. row_at (key, place)) (find nat_cmp key es))
found-rows [] key = refl
found-rows (e ∷ es) key = go (eq_by_cmp nat_cmp key e.0) refl (found-rows es key)
  where
    go : (b : Bool) → eq_by_cmp nat_cmp key e.0 ≡ b
        → find nat_cmp key (map as_row es) ≡ option_map matter_row (option_map (λ place. row_at (key, place)) (find nat_cmp key es))
        → cond b (Some (matter_row (row_at e))) (find nat_cmp key (map as_row es)) ≡ option_map matter_row (option_map (λ place. row_at (key, place)) (cond b (Some e.1) (find nat_cmp key es)))
    go true h below = let same : key ≡ e.0 = nat_cmp-IsAntisymmetric key e.0 (is_eq-Equal (nat_cmp key e.0) h) in ap (λ k. Some (matter_row (row_at (k, e.1)))) (sym same)
    go false h below = below

same_map_of : (es : List (ℕ × Place)) → map as_row es ≡ map keyed (map matter_row (map row_at es))
same_map_of [] = refl
same_map_of (e ∷ es) = ap (λ t. as_row e ∷ t) (same_map_of es)

-- the row of a key in a table's list is the one that it asks for
pub entry_at-table_rows : (t : Table) (key : ℕ) → entry_at prim_reading (table_rows t) key ≡ wanted_rows t key
entry_at-table_rows t key =
    sym (find-keyed (table_rows t) key) ∙ ap (find nat_cmp key) (sym (same_map_of (entries t))) ∙ found-rows (entries t) key
    ∙ ap (λ found. option_map matter_row (option_map (λ place. row_at (key, place)) found)) (sym (get-entries t key))

unkeyed : (rows : List PrimRow) → map (λ e. e.1) (map keyed rows) ≡ rows
unkeyed [] = refl
unkeyed (row ∷ rows) = ap (λ t. row ∷ t) (unkeyed rows)

as_T : (b : Bool) → b ≡ true → T b
as_T b e = subst T (sym e) tt

sorted_table : (t : Table) → T (is_sorted nat_cmp (map keyed (table_rows t)))
sorted_table t = subst T (sym (ap (is_sorted nat_cmp) (sym (same_map_of (entries t))) ∙ sorted-rows (entries t))) (entries_sorted t)

pub table-rebuilt : (t : Table) (rows : List PrimRow) → Ascends prim_reading rows → ((key : ℕ) → entry_at prim_reading rows key ≡ wanted_rows t key) → rows ≡ table_rows t
table-rebuilt t rows ascends has =
    sym (unkeyed rows)
    ∙ ap (map (λ e. e.1)) (same_entries nat_cmp nat_cmp_total nat_cmp-IsAntisymmetric (map keyed rows) (map keyed (table_rows t)) (as_T _ (sorted-keyed rows ascends)) (sorted_table t)
    (λ key. find-keyed rows key ∙ has key ∙ sym (entry_at-table_rows t key) ∙ sym (find-keyed (table_rows t) key)))
    ∙ unkeyed (table_rows t)

-- the merge of all lists that fit a table, without anti rows
pub merged-table : (t : Table) (lists : List (List PrimRow)) (rows : List PrimRow) → IsMergeOf prim_reading lists true rows → Fits prim_reading lists (wanted_rows t) → rows ≡ table_rows t
merged-table t lists rows merge fits = table-rebuilt t rows merge.0 (λ key. merge.1 key ∙ fits key)

left_true : (a b : Bool) → (a && b) ≡ true → a ≡ true
left_true true b h = refl
left_true false b h = h

right_true : (a b : Bool) → (a && b) ≡ true → b ≡ true
right_true true b h = h
right_true false b h = cc

is_less : (s : Ordering) → is_lt s ≡ true → s ≡ Less
is_less Less h = refl
is_less Equal h = cc
is_less Greater h = cc

from-below : (x : ℕ) (rows : List PrimRow) → below_all nat_cmp x (map keyed rows) ≡ true → All (λ row. nat_cmp x row.key ≡ Less) rows
from-below x [] h = All-nil (λ (row : PrimRow). nat_cmp x row.key ≡ Less)
from-below x (row ∷ rows) h = All-cons (λ (row : PrimRow). nat_cmp x row.key ≡ Less) row rows (is_less _ (left_true _ _ h)) (from-below x rows (right_true _ _ h))

from-sorted : (rows : List PrimRow) → is_sorted nat_cmp (map keyed rows) ≡ true → Ascends prim_reading rows
from-sorted [] h = λ i j d lt inside. absurd (omega arith)
from-sorted (row ∷ rows) h =
    AllPairs-cons (λ (a b : PrimRow). nat_cmp a.key b.key ≡ Less) row rows (from-below row.key rows (left_true _ _ h)) (from-sorted rows (right_true _ _ h))

of_T : (b : Bool) → T b → b ≡ true
of_T true h = refl
of_T false h = absurd h

-- a table's rows ascend
pub table_rows-ascend : (t : Table) → Ascends prim_reading (table_rows t)
table_rows-ascend t = from-sorted (table_rows t) (of_T _ (sorted_table t))

-- and fit it
pub table_rows-Fits : (t : Table) → Fits prim_reading (table_rows t ∷ []) (wanted_rows t)
unfolding newest_at
table_rows-Fits t key =
    ap (λ found. unless_anti prim_reading (option_or found None)) (entry_at-table_rows t key)
    ∙ ap (unless_anti prim_reading) (alone (wanted_rows t key)) ∙ alive-wanted (table_row t key)
  where
    alone : (found : Option PrimRow) → option_or found None ≡ found
    alone None = refl
    alone (Some row) = refl
