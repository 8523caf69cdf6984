-- How many rows a table has after a write.
use Rattle.std.proofs.Common.{◌≡◌, ℕ, ◌+◌, ◌-◌, ◌^◌, ◌<◌, length, Bool, true, false, cond, is_some, Option, Some, None, if◌then◌else◌, nat_lt, refl, sym, ◌∙◌, ap, arith}
use Rattle.std.proofs.lemmas.Bool.Decides.{nat_tests}
use Rattle.std.proofs.lemmas.List.{length-map}
use Rattle.std.specs.Cmp.{nat_cmp_total}
use Rattle.std.specs.FinMap.{get, len, entries, contains_key, len-entries, len-insert, len-remove}
use Rattle.std.specs.Option.{option_map}
use Rattle.table_model.specs.Table.{Table, Place, row_at, rows_of, place_of}
use Rattle.table_model.specs.Answers.{after_write}
use Rattle.wal_log.specs.Records.{key_of}
use Rattle.wal_log.specs.declared.records.LogOp.{LogOp}
use Rattle.wal_log.specs.declared.records.LogOp.TheVariants.{Put, Del}
use Rattle.wal_log.specs.declared.records.Record.{Record}
use Rattle.component_image.specs.Replayed.{write_of}
use Rattle.primary_ix.specs.Wanted.{written_row}
use Rattle.component_image.specs.Told.{SaysOld}
use Rattle.store_state.specs.Steps.{rows_with}

rows_count : (t : Table) → length (rows_of t) ≡ len t
rows_count t = length-map (entries t) row_at ∙ sym (len-entries t)

put_count : (had : Bool) (n : ℕ) → n < 2 ^ 64 - 1 → rows_with true had n ≡ cond had n (n + 1)
put_count true n below = refl
put_count false n below =
    let test : nat_lt n (2 ^ 64 - 1) ≡ true = grind (arith, nat_tests) in
    ap (λ (b : Bool). if b then n + 1 else n) test

del_count : (had : Bool) (n : ℕ) → rows_with false had n ≡ cond had (n - 1) n
del_count true n = refl
del_count false n = refl

-- the number that is kept beside the table
pub rows-written : (t : Table) (op : LogOp) (had : Bool) → contains_key t (key_of op) ≡ had → length (rows_of t) < 2 ^ 64 - 1
    → rows_with (is_some (written_row (write_of op)).matter) had (length (rows_of t)) ≡ length (rows_of (after_write t (write_of op)))
rows-written t (Put row) had has below =
    put_count had (length (rows_of t)) below
    ∙ (λ j. cond (sym has j) (rows_count t j) (rows_count t j + 1))
    ∙ sym (len-insert nat_cmp_total t row.key (place_of row))
    ∙ sym (rows_count (after_write t (write_of (Put row))))
rows-written t (Del key) had has below =
    del_count had (length (rows_of t))
    ∙ (λ j. cond (sym has j) (rows_count t j - 1) (rows_count t j))
    ∙ sym (len-remove nat_cmp_total t key)
    ∙ sym (rows_count (after_write t (write_of (Del key))))

-- a record that says the old point truly says whether there was a row
pub told-had : (t : Table) (r : Record) → SaysOld t r → contains_key t (key_of r.op) ≡ is_some r.old_point
told-had t r says = sym (ap is_some says ∙ same_side (get t (key_of r.op)))
  where
    same_side : (found : Option Place) → is_some (option_map (λ place. place.point) found) ≡ is_some found
    same_side None = refl
    same_side (Some place) = refl
