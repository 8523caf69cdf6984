-- What was found at a key, as a table has it.
use Rattle.std.proofs.Common.{◌≡◌, ℕ, true, false, Bool, List, [], ◌∷◌, Option, Some, None, Ok, is_some, cond, refl, sym, ◌∙◌, ap}
use Rattle.std.specs.Option.{option_map}
use Rattle.std.specs.Ordering.{nat_cmp, is_eq, eq_by_cmp}
use Rattle.std.specs.declared.cmp.Ordering.{Ordering}
use Rattle.std.specs.declared.cmp.Ordering.TheVariants.{Less, Equal, Greater}
use Rattle.std.specs.Cmp.{nat_cmp_total, eq_by_cmp_equiv}
use Rattle.std.specs.FinMap.{get, remove, nat_cmp-IsAntisymmetric, same_map, get-remove, get_tied}
use Rattle.dev_model.specs.Story.{Calls, Story, WhereTold}
use Rattle.dev_model.specs.Doing.{all_noted}
use Rattle.geo_base.specs.declared.points.Row.{Row}
use Rattle.table_model.specs.Table.{Table, Place, row_at}
use Rattle.primary_ix.specs.Wanted.{table_row}
use Rattle.dev_model.specs.Asked.{reads_of}
use Rattle.device_pages.specs.Asked.{calls_of}
use Rattle.primary_ix.specs.declared.rows.PrimRow.{PrimRow}
use Rattle.store_machine.specs.Needs.{place_in}
use Rattle.store_machine.specs.Standing.{StoreState}
use Rattle.dev_model.specs.Story.{DeviceState}
use Rattle.store_state.specs.Reading.{IsLegible}
use Rattle.store_state.specs.OnlyRead.{IsPageIn}
use Rattle.store_state.specs.Laws.ReadingStays.{legible-before_reads}
use Rattle.store_machine.specs.Runs.{way_to}
use Rattle.store_machine.specs.Laws.Reading.{HasOnlyRead}
use Rattle.store_core.specs.Writing.{matter_of, old_point}

tied : (o : Ordering) → is_eq o ≡ true → o ≡ Equal
tied Less h = cc
tied Equal h = refl
tied Greater h = cc

-- a removal of a key that isn't there
pub remove-absent : (t : Table) (k : ℕ) → get t k ≡ None → remove t k ≡ t
remove-absent t k was = same_map nat_cmp_total nat_cmp-IsAntisymmetric _ _ (λ q. get-remove nat_cmp_total t k q ∙ at_key q (eq_by_cmp nat_cmp q k) refl)
  where
    at_key : (q : ℕ) (b : Bool) → eq_by_cmp nat_cmp q k ≡ b → cond b None (get t q) ≡ get t q
    at_key q true tie = sym (get_tied nat_cmp_total t k q (tied (nat_cmp k q) ((eq_by_cmp_equiv nat_cmp_total).symm k q ∙ tie)) ∙ was)
    at_key q false tie = refl

-- the table's place of a key, from its row
pub place-found : (table : Table) (key : ℕ) (row : Option Row) → row ≡ table_row table key → option_map place_in (option_map matter_of row) ≡ get table key
place-found table key row is = ap (λ (r : Option Row). option_map place_in (option_map matter_of r)) is ∙ by_place (get table key)
  where
    by_place : (place : Option Place) → option_map place_in (option_map matter_of (option_map (λ p. row_at (key, p)) place)) ≡ place
    by_place None = refl
    by_place (Some place) = refl

-- and its point
pub point-found : (table : Table) (key : ℕ) (row : Option Row) → row ≡ table_row table key → old_point row ≡ option_map (λ place. place.point) (get table key)
point-found table key row is = ap old_point is ∙ by_place (get table key)
  where
    by_place : (place : Option Place) → old_point (option_map (λ p. row_at (key, p)) place) ≡ option_map (λ (p : Place). p.point) place
    by_place None = refl
    by_place (Some place) = refl

-- what is beside the key is there where the row is
pub had-row : (row : Option Row) → is_some (option_map matter_of row) ≡ is_some row
had-row None = refl
had-row (Some row) = refl

pub had-point : (row : Option Row) → is_some (old_point row) ≡ is_some row
had-point None = refl
had-point (Some row) = refl

-- a story that isn't told isn't told later
never-told : (calls : Calls) → all_noted calls None ≡ None
never-told [] = refl
never-told (call ∷ calls) = never-told calls

-- a row that was read is also that of a table which is legible behind the reads
pub row-behind_reads : (old : StoreState) (now : DeviceState) (key : ℕ) (row : Option Row) (pages : List ℕ) → HasOnlyRead {X = Option Row} old now (way_to key) (Ok row) pages
    → ((table : Table) (disk : List (List PrimRow)) → WhereTold old.device.story (λ s. IsLegible table disk old.lists s → row ≡ table_row table key))
    → (table : Table) (disk : List (List PrimRow)) → WhereTold now.story (λ t. IsLegible table disk old.lists t → row ≡ table_row table key)
row-behind_reads old now key row pages reads found table disk t told legible = by_story old.device.story refl
  where
    by_story : (story : Option Story) → old.device.story ≡ story → row ≡ table_row table key
    by_story None is =
        let calls : Calls = calls_of old.device.clock (reads_of {X = Option Row} (Ok row) pages) in
        let none : now.story ≡ None = reads.read.went.asked_for.told ∙ ap (all_noted calls) is ∙ never-told calls in
        absurd (let never : ◌≡◌ {A = Option Story} None (Some t) = sym none ∙ told in cc)
    by_story (Some s) is = found table disk s is (legible-before_reads (IsPageIn old.lists) table disk old.lists s t now.story (reads.stays s is).reads told legible)
