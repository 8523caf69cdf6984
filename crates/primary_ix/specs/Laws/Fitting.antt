-- A write of the table, and the row that it adds.
use Rattle.std.proofs.Common.{◌≡◌, ℕ, Bool, true, false, cond, List, [], ◌∷◌, Option, Some, None, refl, sym, ◌∙◌, ap, if◌then◌else◌}
use Rattle.std.specs.Option.{option_map}
use Rattle.std.specs.Ordering.{nat_cmp, eq_by_cmp}
use Rattle.std.specs.Cmp.{nat_cmp_total, eq_by_cmp_equiv}
use Rattle.std.specs.FinMap.{empty, get, get-empty, get-insert, get-remove, insert, remove, nat_cmp-IsAntisymmetric}
use Rattle.geo_base.specs.declared.points.Row.{Row}
use Rattle.order_merge.specs.Entries.{entry_at, newest_at}
use Rattle.order_merge.specs.Fitting.{Fits, unless_anti}
use Rattle.order_merge.specs.Adding.{with_entry}
use Rattle.order_merge.specs.Added.{wanted_with}
use Rattle.order_merge.specs.laws.Living.{Fits-with_entry, is_eq-Equal}
use Rattle.table_model.specs.Table.{Table, row_at, place_of}
use Rattle.table_model.specs.Commands.{Write, put, del}
use Rattle.table_model.specs.Answers.{after_write}
use Rattle.primary_ix.specs.declared.rows.PrimRow.{PrimRow}
use Rattle.primary_ix.specs.Kinds.{prim_key_order}
use Rattle.primary_ix.specs.Reading.{prim_reading}
use Rattle.primary_ix.specs.Wanted.{matter_row, wanted_rows, written_row}

turned : (key k : ℕ) → eq_by_cmp nat_cmp key k ≡ eq_by_cmp nat_cmp k key
turned key k = (eq_by_cmp_equiv nat_cmp_total).symm key k

same_key : (key k : ℕ) → eq_by_cmp nat_cmp k key ≡ true → k ≡ key
same_key key k h = nat_cmp-IsAntisymmetric k key (is_eq-Equal (nat_cmp k key) h)

-- what is wanted after a put
after-put : (t : Table) (row : Row) (k : ℕ) → wanted_with prim_reading (matter_row row) (wanted_rows t) k ≡ wanted_rows (insert t row.key (place_of row)) k
after-put t row k =
    ap (λ b. if b then Some (matter_row row) else wanted_rows t k) (turned row.key k)
    ∙ go (eq_by_cmp nat_cmp k row.key) refl
    ∙ ap (λ found. option_map matter_row (option_map (λ place. row_at (k, place)) found)) (sym (get-insert nat_cmp_total t row.key (place_of row) k))
  where
    go : (b : Bool) → eq_by_cmp nat_cmp k row.key ≡ b
        → (if b then Some (matter_row row) else wanted_rows t k) ≡ option_map matter_row (option_map (λ place. row_at (k, place)) (cond b (Some (place_of row)) (get t k)))
    go true h = ap (λ key. Some (matter_row (row_at (key, place_of row)))) (sym (same_key row.key k h))
    go false h = refl

-- and after a del
after-del : (t : Table) (key k : ℕ) → wanted_with prim_reading (record { key = key; matter = None }) (wanted_rows t) k ≡ wanted_rows (remove t key) k
after-del t key k =
    ap (λ b. if b then None else wanted_rows t k) (turned key k)
    ∙ go (eq_by_cmp nat_cmp k key)
    ∙ ap (λ found. option_map matter_row (option_map (λ place. row_at (k, place)) found)) (sym (get-remove nat_cmp_total t key k))
  where
    go : (b : Bool) → (if b then None else wanted_rows t k) ≡ option_map matter_row (option_map (λ place. row_at (k, place)) (cond b None (get t k)))
    go true = refl
    go false = refl

-- a write's row keeps the fit
pub Fits-write : (t : Table) (active : List PrimRow) (older : List (List PrimRow)) (write : Write) → Fits prim_reading (active ∷ older) (wanted_rows t)
    → Fits prim_reading (with_entry prim_reading (written_row write) active ∷ older) (wanted_rows (after_write t write))
Fits-write t active older (put row) fits k = Fits-with_entry prim_reading prim_key_order (matter_row row) active older (wanted_rows t) fits k ∙ after-put t row k
Fits-write t active older (del key) fits k = Fits-with_entry prim_reading prim_key_order (record { key = key; matter = None }) active older (wanted_rows t) fits k ∙ after-del t key k

-- what a table asks for lives
pub alive-wanted : (row : Option Row) → unless_anti prim_reading (option_map matter_row row) ≡ option_map matter_row row
alive-wanted None = refl
alive-wanted (Some row) = refl

pub Fits-none : Fits prim_reading ([] ∷ []) (wanted_rows empty)
unfolding newest_at entry_at
Fits-none k = ap (λ found. option_map matter_row (option_map (λ place. row_at (k, place)) found)) (sym (get-empty nat_cmp k))
