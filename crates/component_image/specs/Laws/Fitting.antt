-- Lists fit the table that they make. No public contract needs these laws.
use Rattle.std.proofs.Common.{◌≡◌, ℕ, List, [], ◌∷◌, ◌++◌, Option, Some, None, Bool, true, false, if◌then◌else◌, refl, sym, ◌∙◌, ap, subst}
use Rattle.std.specs.Option.{option_map, option_or}
use Rattle.std.specs.Ordering.{nat_cmp, eq_by_cmp}
use Rattle.std.specs.FinMap.{get, get-empty, nat_cmp-IsAntisymmetric}
use Rattle.table_model.specs.Table.{Table, Place, row_at}
use Rattle.order_merge.specs.Entries.{entry_at, newest_at}
use Rattle.order_merge.specs.Fitting.{unless_anti, Fits}
use Rattle.order_merge.specs.Views.{lists_of}
use Rattle.order_merge.specs.laws.Living.{is_eq-Equal}
use Rattle.wal_log.specs.declared.records.Record.{Record}
use Rattle.component_image.specs.Replayed.{replayed}
use Rattle.component_image.specs.Laws.Replayed.{replayed-append}
use Rattle.primary_ix.specs.Rows.{Matter}
use Rattle.primary_ix.specs.Reading.{prim_reading}
use Rattle.primary_ix.specs.Wanted.{matter_row, wanted_rows}
use Rattle.primary_ix.specs.declared.rows.PrimRow.{PrimRow}
use Rattle.component_image.specs.Changes.{changed, IsFrozenOf}
use Rattle.component_image.specs.Laid.{place_in, laid, table_of}
use Rattle.component_image.specs.Laws.Laid.{said, get-laid, laid-changed}

-- what the table of lists has at a key is what the newest row of the key says
get-listed : (lists : List (List PrimRow)) (key : ℕ) → get (table_of lists) key ≡ said (newest_at prim_reading lists key) None
unfolding newest_at
get-listed [] key = get-empty nat_cmp key
get-listed (rows ∷ older) key =
    get-laid rows (table_of older) key ∙ ap (said (entry_at prim_reading rows key)) (get-listed older key)
    ∙ over (entry_at prim_reading rows key) (newest_at prim_reading older key)
  where
    over : (a b : Option PrimRow) → said a (said b None) ≡ said (option_or a b) None
    over None b = refl
    over (Some row) b = refl

-- a row that was found at a key has it
abbrev HasKey : ℕ → Option PrimRow → Type 0
HasKey key None = Unit {0}
HasKey key (Some row) = row.key ≡ key

entry-key : (rows : List PrimRow) (key : ℕ) → HasKey key (entry_at prim_reading rows key)
unfolding entry_at
entry-key [] key = tt
entry-key (row ∷ rows) key = by_test (eq_by_cmp nat_cmp row.key key) refl (entry-key rows key)
  where
    by_test : (b : Bool) → eq_by_cmp nat_cmp row.key key ≡ b → HasKey key (entry_at prim_reading rows key) → HasKey key (if b then Some row else entry_at prim_reading rows key)
    by_test true is others = nat_cmp-IsAntisymmetric row.key key (is_eq-Equal (nat_cmp row.key key) is)
    by_test false is others = others

newest-key : (lists : List (List PrimRow)) (key : ℕ) → HasKey key (newest_at prim_reading lists key)
unfolding newest_at
newest-key [] key = tt
newest-key (rows ∷ older) key = by_entry (entry_at prim_reading rows key) (entry-key rows key) (newest-key older key)
  where
    by_entry : (o : Option PrimRow) → HasKey key o → HasKey key (newest_at prim_reading older key) → HasKey key (option_or o (newest_at prim_reading older key))
    by_entry None has others = others
    by_entry (Some row) has others = has

-- the row that lives at a key is the one that its place asks for
living-is : (key : ℕ) (found : Option PrimRow) → HasKey key found → unless_anti prim_reading found ≡ option_map matter_row (option_map (λ place. row_at (key, place)) (said found None))
living-is key None has = refl
living-is key (Some row) has = by_matter row.key row.matter has
  where
    by_matter : (k : ℕ) (matter : Matter) → k ≡ key
        → unless_anti prim_reading (Some (record { key = k; matter = matter })) ≡ option_map matter_row (option_map (λ place. row_at (key, place)) (option_map place_in matter))
    by_matter k None is = refl
    by_matter k (Some matter) is = ap (λ (n : ℕ). Some (record { key = n; matter = Some matter })) is

-- lists fit the table that they make
pub fits-listed : (lists : List (List PrimRow)) → Fits prim_reading lists (wanted_rows (table_of lists))
fits-listed lists key =
    living-is key (newest_at prim_reading lists key) (newest-key lists key)
    ∙ ap (λ (found : Option Place). option_map matter_row (option_map (λ place. row_at (key, place)) found)) (sym (get-listed lists key))

-- the rows of writes laid over the table of older lists
over-writes : (active : List PrimRow) (writes : List Record) (t : Table) → active ≡ changed [] writes → laid active t ≡ replayed t writes
over-writes active writes t is = ap (λ (rows : List PrimRow). laid rows t) is ∙ laid-changed [] writes t

front-table : (active : List PrimRow) (frozen : Option (List PrimRow)) (disk : List (List PrimRow)) (earlier writes : List Record) → IsFrozenOf frozen earlier → active ≡ changed [] writes
    → table_of (lists_of active frozen disk) ≡ replayed (table_of disk) (earlier ++ writes)
front-table active None disk earlier writes frozen_is active_is =
    over-writes active writes (table_of disk) active_is ∙ ap (λ (rs : List Record). replayed (table_of disk) (rs ++ writes)) (sym frozen_is)
front-table active (Some rows) disk earlier writes frozen_is active_is =
    over-writes active writes (laid rows (table_of disk)) active_is
    ∙ ap (λ (t : Table). replayed t writes) (over-writes rows earlier (table_of disk) frozen_is)
    ∙ sym (replayed-append (table_of disk) earlier writes)

-- so do the lists in memory before them, where writes of the log made these
pub fits-logged : (table : Table) (active : List PrimRow) (frozen : Option (List PrimRow)) (disk : List (List PrimRow)) (earlier writes : List Record) → IsFrozenOf frozen earlier → active ≡ changed [] writes
    → table ≡ replayed (table_of disk) (earlier ++ writes) → Fits prim_reading (lists_of active frozen disk) (wanted_rows table)
fits-logged table active frozen disk earlier writes frozen_is active_is table_is =
    subst (λ (t : Table). Fits prim_reading (lists_of active frozen disk) (wanted_rows t)) (front-table active frozen disk earlier writes frozen_is active_is ∙ sym table_is)
    (fits-listed (lists_of active frozen disk))
