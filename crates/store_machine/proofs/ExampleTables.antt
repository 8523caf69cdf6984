-- The tables of the worked examples. A finite map computes through what it says of its entries.
use Rattle.std.proofs.Common.{◌≡◌, Bool, length, [], ◌∷◌, ap, sym, ◌∙◌, Some, None}
use Rattle.std.specs.Prelude.{is_some, cond, map, ◌-◌}
use Rattle.std.specs.Option.{option_map}
use Rattle.std.specs.Ordering.{nat_cmp}
use Rattle.std.specs.Cmp.{nat_cmp_total, unsigned_tied}
use Rattle.std.specs.FinMap.{empty, insert, remove, get, len, entries, find, put, entries-insert, entries-from_sorted, from_sorted, empty_of_len, len-entries, len-remove, get-empty, get-entries, get-insert}
use Rattle.primary_ix.specs.Wanted.{table_row}
use Rattle.table_model.specs.Table.{Place, Table, place_of, row_at, rows_of}
use Rattle.store_machine.specs.Examples.{eight, seven}

abbrev pub none : Table
none = empty

abbrev pub with_seven : Table
with_seven = insert none 7 (place_of seven)

no_entries : entries none ≡ []
no_entries =
    let nothing : Table = from_sorted [] in
    let listed : entries nothing ≡ [] = entries-from_sorted nat_cmp [] tt in
    sym (ap entries (empty_of_len nothing (len-entries nothing ∙ ap (λ es. length es) listed))) ∙ listed

pub no_rows : length (rows_of none) ≡ 0
no_rows = ap (λ es. length (map row_at es)) no_entries

pub nothing_there : get none 7 ≡ None
nothing_there = get-empty nat_cmp 7

one_entry : entries with_seven ≡ (7, place_of seven) ∷ []
one_entry = entries-insert nat_cmp_total none 7 (place_of seven) ∙ ap (put nat_cmp 7 (place_of seven)) no_entries

pub seven_there : get with_seven 7 ≡ Some (place_of seven)
seven_there = get-entries with_seven 7 ∙ ap (find nat_cmp 7) one_entry

emptied : remove with_seven 7 ≡ none
emptied =
    let one_key : len with_seven ≡ 1 = len-entries with_seven ∙ ap (λ es. length es) one_entry in
    empty_of_len (remove with_seven 7) (len-remove nat_cmp_total with_seven 7 ∙ ap (λ o. cond (is_some o) (len with_seven - 1) (len with_seven)) seven_there ∙ ap (λ n. n - 1) one_key)

pub no_rows_again : length (rows_of (remove with_seven 7)) ≡ 0
no_rows_again = ap (λ t. length (rows_of t)) emptied ∙ no_rows

pub row_there : table_row with_seven 7 ≡ Some seven
row_there = ap (option_map (λ (place : Place). row_at (7, place))) seven_there

-- and beside another row
abbrev pub with_both : Table
with_both = insert with_seven 8 (place_of eight)

seven_beside : get with_both 7 ≡ Some (place_of seven)
seven_beside =
    get-insert nat_cmp_total with_seven 8 (place_of eight) 7
    ∙ ap (λ (b : Bool). cond b (Some (place_of eight)) (get with_seven 7)) (unsigned_tied 7 8)
    ∙ seven_there

pub row_beside : table_row with_both 7 ≡ Some seven
row_beside = ap (option_map (λ (place : Place). row_at (7, place))) seven_beside
