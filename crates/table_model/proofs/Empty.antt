-- The empty table has no entries.
use Rattle.std.proofs.Common.{◌≡◌, length, [], ap, sym, ◌∙◌}
use Rattle.std.specs.Ordering.{nat_cmp}
use Rattle.std.specs.FinMap.{empty, entries, entries-from_sorted, from_sorted, empty_of_len, len-entries}
use Rattle.table_model.specs.Table.{Table, Place}

pub no_entries : entries (empty {X = Place} {R = nat_cmp}) ≡ []
no_entries =
    let nothing : Table = from_sorted [] in
    let listed : entries nothing ≡ [] = entries-from_sorted nat_cmp [] tt in
    sym (ap entries (empty_of_len nothing (len-entries nothing ∙ ap (λ es. length es) listed))) ∙ listed
