-- The lists after records, one after another.
use Rattle.std.proofs.Common.{◌≡◌, ℕ, ◌+◌, ◌<◌, ◌≤◌, List, [], ◌∷◌, ◌++◌, length, take, get_or, Option, Some, None, Bool, true, false, if◌then◌else◌, nat_lt, nat_le, refl, sym, ◌∙◌, ap, arith}
use Rattle.std.specs.Option.{is_some}
use Rattle.std.proofs.lemmas.Bool.Decides.{nat_tests}
use Rattle.std.proofs.lemmas.List.{take_more}
use Rattle.std.proofs.lemmas.List.Elements.{filter-append}
use Rattle.geo_base.specs.declared.points.Point.{Point}
use Rattle.space_map.specs.Space.{Space}
use Rattle.wal_log.specs.Later.{later}
use Rattle.wal_log.specs.UpTo.{up_to}
use Rattle.wal_log.specs.declared.log.Log.{Log}
use Rattle.wal_log.specs.declared.records.LogOp.{LogOp}
use Rattle.wal_log.specs.declared.records.LogOp.TheVariants.{Put, Del}
use Rattle.wal_log.specs.declared.records.Record.{Record}
use Rattle.component_image.specs.Replayed.{write_of}
use Rattle.primary_ix.specs.declared.rows.PrimRow.{PrimRow}
use Rattle.primary_ix.specs.Wanted.{written_row}
use Rattle.component_image.specs.Changes.{changed}
use Rattle.component_image.specs.Counted.{counted, rows_after}
use Rattle.comp_dir.specs.Directory.{Numbered}
use Rattle.store_state.specs.Lists.{Lists, placed_up_to}
use Rattle.store_state.specs.Opened.{opened}
use Rattle.store_state.specs.Steps.{added, rows_with, frozen_at}
use Rattle.store_opening.specs.Restored.{with_records, last_before, restored}

-- the rows of the table after a record
pub rows_laid : (op : LogOp) (old : Option Point) (rows : ℕ) → rows_with (is_some (written_row (write_of op)).matter) (is_some old) rows ≡ rows_after op old rows
rows_laid (Put row) None rows = refl
rows_laid (Put row) (Some point) rows = refl
rows_laid (Del key) None rows = refl
rows_laid (Del key) (Some point) rows = refl

-- a record is laid by its row
pub one_laid : (r : Record) (l : Lists) → added (written_row (write_of r.op)) (is_some r.old_point) l ≡ with_records (r ∷ []) l
one_laid r l = ap (λ (n : ℕ). record (added (written_row (write_of r.op)) (is_some r.old_point) l) { rows = n }) (rows_laid r.op r.old_point l.rows)

changed-append : (rows : List PrimRow) (xs ys : List Record) → changed rows (xs ++ ys) ≡ changed (changed rows xs) ys
changed-append rows [] ys = refl
changed-append rows (x ∷ xs) ys = changed-append (changed rows (x ∷ [])) xs ys

pub counted-append : (rows : ℕ) (xs ys : List Record) → counted rows (xs ++ ys) ≡ counted (counted rows xs) ys
counted-append rows [] ys = refl
counted-append rows (x ∷ xs) ys = counted-append (rows_after x.op x.old_point rows) xs ys

with_records-append : (xs ys : List Record) (l : Lists) → with_records (xs ++ ys) l ≡ with_records ys (with_records xs l)
with_records-append xs ys l = λ j. record l { active = changed-append l.active xs ys j; rows = counted-append l.rows xs ys j }

-- those behind one number and up to another
abbrev between : (after last : ℕ) → List Record → List Record
between after last records = up_to last (later after records)

between-append : (after last : ℕ) (xs ys : List Record) → between after last (xs ++ ys) ≡ between after last xs ++ between after last ys
between-append after last xs ys =
    ap (up_to last) (filter-append (λ (r : Record). nat_lt after r.lsn) xs ys) ∙ filter-append (λ (r : Record). nat_le r.lsn last) (later after xs) (later after ys)

-- a record that isn't between them, and one that is
pub not_behind : (after last : ℕ) (r : Record) → r.lsn ≤ after → between after last (r ∷ []) ≡ []
not_behind after last r le = let test : nat_lt after r.lsn ≡ false = grind (arith, nat_tests) in ap (λ (b : Bool). up_to last (if b then r ∷ [] else [])) test

pub past : (after last : ℕ) (r : Record) → last < r.lsn → between after last (r ∷ []) ≡ []
past after last r lt = by_test (nat_lt after r.lsn)
  where
    beyond : nat_le r.lsn last ≡ false
    beyond = grind (arith, nat_tests, lt)

    by_test : (b : Bool) → up_to last (if b then r ∷ [] else []) ≡ []
    by_test true = ap (λ (b : Bool). if b then r ∷ [] else []) beyond
    by_test false = refl

pub inside : (after last : ℕ) (r : Record) → after < r.lsn → r.lsn ≤ last → between after last (r ∷ []) ≡ r ∷ []
inside after last r lt le =
    let one : nat_lt after r.lsn ≡ true = grind (arith, nat_tests) in
    let two : nat_le r.lsn last ≡ true = grind (arith, nat_tests) in
    ap (λ (b : Bool). up_to last (if b then r ∷ [] else [])) one ∙ ap (λ (b : Bool). if b then r ∷ [] else []) two

-- one record more of a list
pub laid-more : (after last : ℕ) (records : List Record) (i : ℕ) (r d : Record) (first old new : Lists) → i < length records → r ≡ get_or records i d
    → old ≡ with_records (between after last (take i records)) first → new ≡ with_records (between after last (r ∷ [])) old
    → new ≡ with_records (between after last (take (i + 1) records)) first
laid-more after last records i r d first old new lt is before now =
    let one : between after last (take i records) ++ between after last (r ∷ []) ≡ between after last (take (i + 1) records) =
    sym (between-append after last (take i records) (r ∷ [])) ∙ ap (between after last) (ap (λ (x : Record). take i records ++ x ∷ []) is ∙ sym (take_more records i d lt)) in
    now ∙ ap (with_records (between after last (r ∷ []))) before ∙ sym (with_records-append (between after last (take i records)) (between after last (r ∷ [])) first) ∙ ap (λ (rs : List Record). with_records rs first) one

-- the space of the lists is that of the opening
pub restored-space : (log : Log) (records : List Record) (components ignored : List Numbered) (space : Space) → (restored log records (opened components ignored space)).space ≡ space
restored-space log records components ignored space = by_test (nat_lt (placed_up_to components) (last_before log))
  where
    laid : Lists
    laid = with_records (between (placed_up_to components) (last_before log) records) (opened components ignored space)

    by_test : (b : Bool) → (if b then frozen_at (last_before log) laid else laid).space ≡ space
    by_test true = refl
    by_test false = refl
