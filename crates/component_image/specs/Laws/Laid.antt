-- What rows that are laid over a table say of a key, and what the rows of the log's writes make. No public contract needs these
-- laws.
use Rattle.std.proofs.Common.{◌≡◌, ℕ, List, [], ◌∷◌, Option, Some, None, Bool, true, false, if◌then◌else◌, refl, sym, ◌∙◌, ap}
use Rattle.std.specs.Option.{option_map}
use Rattle.std.specs.Ordering.{nat_cmp, eq_by_cmp}
use Rattle.std.specs.Cmp.{nat_cmp_total, IsEquivalence, eq_by_cmp_equiv}
use Rattle.std.specs.FinMap.{get, get-insert, get-remove, same_map, nat_cmp-IsAntisymmetric}
use Rattle.table_model.specs.Table.{Table, Place}
use Rattle.table_model.specs.Commands.{Write, put, del}
use Rattle.table_model.specs.Answers.{after_write}
use Rattle.order_merge.specs.Entries.{entry_at}
use Rattle.order_merge.specs.Adding.{with_entry}
use Rattle.order_merge.specs.laws.Living.{entry_at-with_entry}
use Rattle.order_merge.specs.laws.Numbers.{nat_cmp-IsKeyOrder}
use Rattle.wal_log.specs.declared.records.Record.{Record}
use Rattle.component_image.specs.Replayed.{write_of, replayed}
use Rattle.primary_ix.specs.Rows.{Matter}
use Rattle.primary_ix.specs.Reading.{prim_reading}
use Rattle.primary_ix.specs.Wanted.{written_row}
use Rattle.primary_ix.specs.declared.rows.PrimRow.{PrimRow}
use Rattle.component_image.specs.Laid.{place_in, with_matter, laid}
use Rattle.component_image.specs.Changes.{changed}

-- what a key has where a list says this of it, over what it had
abbrev pub said : Option PrimRow → Option Place → Option Place
said None old = old
said (Some row) old = option_map place_in row.matter

either_way : (k q : ℕ) → eq_by_cmp nat_cmp q k ≡ eq_by_cmp nat_cmp k q
either_way k q = let e : IsEquivalence (eq_by_cmp nat_cmp) = eq_by_cmp_equiv nat_cmp_total in e.symm q k

pub get-with_matter : (t : Table) (k : ℕ) (m : Matter) (q : ℕ) → get (with_matter t k m) q ≡ (if eq_by_cmp nat_cmp k q then option_map place_in m else get t q)
get-with_matter t k None q = get-remove nat_cmp_total t k q ∙ ap (λ (b : Bool). if b then None else get t q) (either_way k q)
get-with_matter t k (Some m) q = get-insert nat_cmp_total t k (place_in m) q ∙ ap (λ (b : Bool). if b then Some (place_in m) else get t q) (either_way k q)

-- the first row of a key counts
pub get-laid : (rows : List PrimRow) (t : Table) (q : ℕ) → get (laid rows t) q ≡ said (entry_at prim_reading rows q) (get t q)
unfolding entry_at
get-laid [] t q = refl
get-laid (row ∷ rows) t q = get-with_matter (laid rows t) row.key row.matter q ∙ by_test (eq_by_cmp nat_cmp row.key q) (get-laid rows t q)
  where
    by_test : (b : Bool) → get (laid rows t) q ≡ said (entry_at prim_reading rows q) (get t q)
        → (if b then option_map place_in row.matter else get (laid rows t) q) ≡ said (if b then Some row else entry_at prim_reading rows q) (get t q)
    by_test true rest = refl
    by_test false rest = rest

-- a row that is added to the list is laid over all others
pub laid-with_entry : (row : PrimRow) (rows : List PrimRow) (t : Table) → laid (with_entry prim_reading row rows) t ≡ with_matter (laid rows t) row.key row.matter
laid-with_entry row rows t = same_map nat_cmp_total nat_cmp-IsAntisymmetric _ _ (λ q.
    get-laid (with_entry prim_reading row rows) t q
    ∙ ap (λ (o : Option PrimRow). said o (get t q)) (entry_at-with_entry prim_reading nat_cmp-IsKeyOrder row rows q)
    ∙ by_test q (eq_by_cmp nat_cmp row.key q)
    ∙ sym (get-with_matter (laid rows t) row.key row.matter q))
  where
    by_test : (q : ℕ) (b : Bool) → said (if b then Some row else entry_at prim_reading rows q) (get t q) ≡ (if b then option_map place_in row.matter else get (laid rows t) q)
    by_test q true = refl
    by_test q false = sym (get-laid rows t q)

-- what a write says of its key is what it does to the table
with_written : (t : Table) (w : Write) → with_matter t (written_row w).key (written_row w).matter ≡ after_write t w
with_written t (put row) = refl
with_written t (del key) = refl

-- the rows of writes, laid over a table, make the table after these writes
pub laid-changed : (rows : List PrimRow) (records : List Record) (t : Table) → laid (changed rows records) t ≡ replayed (laid rows t) records
laid-changed rows [] t = refl
laid-changed rows (r ∷ records) t =
    laid-changed (with_entry prim_reading (written_row (write_of r.op)) rows) records t
    ∙ ap (λ (u : Table). replayed u records) (laid-with_entry (written_row (write_of r.op)) rows t ∙ with_written (laid rows t) (write_of r.op))
