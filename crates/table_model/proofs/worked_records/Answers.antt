use Rattle.std.proofs.Common.{◌≡◌, length, map, [], ◌∷◌, ap, sym, ◌∙◌, refl, arith, Some, None}
use Rattle.std.specs.Prelude.{is_some, cond, ◌-◌}
use Rattle.std.specs.Fmt.{digits}
use Rattle.std.specs.Ordering.{nat_cmp}
use Rattle.std.specs.Cmp.{nat_cmp_total}
use Rattle.std.specs.FinMap.{empty, insert, remove, get, len, entries, find, put, entries-insert, empty_of_len, len-entries, len-remove, get-empty, get-entries}
use Rattle.table_model.specs.Table.{Table, Place, place_of, row_at, rows_of}
use Rattle.table_model.specs.Commands.{wrote, counted, put_new}
use Rattle.table_model.specs.Answers.{put_reply}
use Rattle.table_model.specs.Examples.{one, two}
use Rattle.table_model.proofs.Empty.{no_entries}
use Rattle.table_model.proofs.worked_records.Goals as goal

-- a table of one key without it
emptied : (t : Table) (place : Place) → entries t ≡ (1, place) ∷ [] → remove t 1 ≡ empty
emptied t place is =
    let there : get t 1 ≡ Some place = get-entries t 1 ∙ ap (find nat_cmp 1) is in
    let one_key : len t ≡ 1 = len-entries t ∙ ap (λ es. length es) is in
    empty_of_len (remove t 1) (len-remove nat_cmp_total t 1 ∙ ap (λ o. cond (is_some o) (len t - 1) (len t)) there ∙ ap (λ n. n - 1) one_key)

-- The map computes through what it says of its entries.
pub returns-clause-shuffled_answers : goal.returns-clause-shuffled_answers
returns-clause-shuffled_answers c =
    let first : Table = insert empty 1 (place_of one) in
    let after_first : entries first ≡ (1, place_of one) ∷ [] = entries-insert nat_cmp_total empty 1 (place_of one) ∙ ap (put nat_cmp 1 (place_of one)) no_entries in
    let second : Table = insert first 1 (place_of two) in
    let after_second : entries second ≡ (1, place_of two) ∷ [] = entries-insert nat_cmp_total first 1 (place_of two) ∙ ap (put nat_cmp 1 (place_of two)) after_first in
    let new : get (empty {X = Place} {R = nat_cmp}) 1 ≡ None = get-empty nat_cmp 1 in
    let old : get first 1 ≡ Some (place_of one) = get-entries first 1 ∙ ap (find nat_cmp 1) after_first in
    let there : get second 1 ≡ Some (place_of two) = get-entries second 1 ∙ ap (find nat_cmp 1) after_second in
    let gone : remove second 1 ≡ empty = emptied second (place_of two) after_second in
    simp (new, old, after_second, there, gone, no_entries)

pub returns-clause-flushed_answers : goal.returns-clause-flushed_answers
returns-clause-flushed_answers c =
    let first : Table = insert empty 1 (place_of one) in
    let one_row : entries first ≡ (1, place_of one) ∷ [] = entries-insert nat_cmp_total empty 1 (place_of one) ∙ ap (put nat_cmp 1 (place_of one)) no_entries in
    let there : length (rows_of first) ≡ 1 = ap (λ es. length (map row_at es)) one_row in
    let new : get (empty {X = Place} {R = nat_cmp}) 1 ≡ None = get-empty nat_cmp 1 in
    sym (ap (λ found. wrote (put_reply found) ∷ counted (length (rows_of first)) ∷ []) new ∙ ap (λ n. wrote put_new ∷ counted n ∷ []) there)

pub returns-clause-shuffled_text : goal.returns-clause-shuffled_text
unfolding digits
returns-clause-shuffled_text c = refl

pub returns-clause-refused_text : goal.returns-clause-refused_text
unfolding digits
returns-clause-refused_text c = refl

pub returns-clause-flushed_text : goal.returns-clause-flushed_text
unfolding digits
returns-clause-flushed_text c = refl

pub returns-clause-flushed : goal.returns-clause-flushed
returns-clause-flushed c = record {
  setup = (tt, (tt, (tt, ((2, omega arith, refl), tt))));
  lanes = tt;
  after = tt;
  differ = (omega arith, tt);
  around = λ i d below. absurd (omega (arith, below));
  through = (omega arith, tt);
}
