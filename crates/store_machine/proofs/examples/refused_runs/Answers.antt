use Rattle.std.proofs.Common.{◌≡◌, ℕ, zero, suc, ◌<◌, true, List, [], ◌∷◌, ◌++◌, length, get_or, Option, Some, None, refl, sym, ◌∙◌, ap, arith}
use Rattle.dev_model.specs.declared.calls.DeviceCall.{DeviceCall}
use Rattle.dev_model.specs.Given.{given}
use Rattle.tree_shape.specs.Shape.{IsRoot, level_size, level_start}
use Rattle.device_pages.specs.ReadsMade.{reads_made}
use Rattle.geo_base.specs.declared.points.Row.{Row}
use Rattle.order_merge.specs.Adding.{with_entry}
use Rattle.order_merge.specs.Entries.{entry_at, newest_at}
use Rattle.btree_image.specs.Descent.{descent}
use Rattle.btree_image.specs.Image.{shape_of}
use Rattle.primary_ix.specs.Roots.{AreRoots}
use Rattle.primary_ix.specs.Lookups.{lookup_pages}
use Rattle.primary_ix.specs.Rows.{prim_layout}
use Rattle.primary_ix.specs.declared.component.PrimComp.{PrimComp}
use Rattle.store_state.specs.Lists.{trees_of}
use Rattle.store_machine.specs.Machine.{Machine, at_opening, after_event, after_all}
use Rattle.store_machine.specs.Runs.{AreReads, IsAllOf, IsRun, StopsBefore, way_to}
use Rattle.store_machine.specs.Examples.{flushed, got, page_read, put_over, put_seven, seven, start, two_components, unplaced_flush}
use Rattle.store_machine.specs.declared.events.Event.{Event}
use Rattle.store_machine.proofs.ExampleTables.{row_there}
use Rattle.store_machine.proofs.examples.refused_runs.Goals as goal

-- y of what stands there
abbrev y_of : Option Row → ℕ
y_of None = 0
y_of (Some row) = row.point.y

pub returns-clause-other_row : goal.returns-clause-other_row
returns-clause-other_row c run = let same : 5 ≡ 4 = ap y_of (run.1.0.needs.row refl ∙ row_there) in omega (arith, same)

-- a list with an element is not empty
not_empty : {X : Type 0} (before : List X) (x : X) (more : List X) → before ++ x ∷ more ≡ [] → ⊥
not_empty [] x more is = let no : ◌≡◌ {A = List _} (x ∷ more) [] = is in cc
not_empty (first ∷ before) x more is = let no : ◌≡◌ {A = List _} (first ∷ (before ++ x ∷ more)) [] = is in cc

-- no component, and no root
no_roots : AreRoots [] []
no_roots = record { count = refl; each = λ i comp root lt. absurd (omega (arith, lt)) }

no_way : AreReads (at_opening start) (way_to 7) StopsBefore [] → ⊥
unfolding lookup_pages newest_at entry_at
no_way reads = let stops : _ = reads.part [] no_roots in not_empty reads.pages stops.0 stops.1 stops.2

pub returns-clause-failed_where_no_page_is_read : goal.returns-clause-failed_where_no_page_is_read
returns-clause-failed_where_no_page_is_read c run = no_way (run.0.calls refl)

-- the events behind the first few of a run
behind : (m : Machine) (es fs : List Event) → IsRun true m (es ++ fs) → IsRun true (after_all m es) fs
behind m [] fs run = run
behind m (e ∷ es) fs run = behind (after_event m e) es fs run.1

abbrev after_flush : Machine
after_flush = after_all (at_opening start) (put_seven ∷ unplaced_flush)

-- its component has one row, whose root is on level 0
each_root : (i : ℕ) (comp : PrimComp) (root : ℕ) → i < length (trees_of after_flush.lists.components) → IsRoot (shape_of prim_layout (get_or (trees_of after_flush.lists.components) i comp).tree.rows) (get_or (0 ∷ []) i root)
unfolding with_entry level_size
each_root zero comp root lt = record { alone = refl; lowest = λ below less. absurd (omega (arith, less)) }
each_root (suc i) comp root lt = absurd (omega (arith, lt))

root_zero : AreRoots (trees_of after_flush.lists.components) (0 ∷ [])
root_zero = record { count = refl; each = each_root }

-- reads of no page
none_made : (clock : ℕ) (pages : List ℕ) → [] ≡ reads_made clock (given pages) → pages ≡ []
none_made clock [] is = refl
none_made clock (page ∷ pages) is = absurd (let no : ◌≡◌ {A = List DeviceCall} [] (_ ∷ _) = is in cc)

unread_row : AreReads after_flush (way_to 7) IsAllOf [] → ⊥
unfolding with_entry lookup_pages newest_at entry_at descent level_size level_start
unread_row reads =
    let part : reads.pages ≡ 265 ∷ [] = reads.part (0 ∷ []) root_zero in
    not_empty [] _ _ (sym part ∙ none_made after_flush.clock reads.pages reads.are)

pub returns-clause-component_unread : goal.returns-clause-component_unread
returns-clause-component_unread c run = unread_row ((behind (at_opening start) (put_seven ∷ unplaced_flush) (got 1 (Some seven) [] 33 ∷ []) run).0.calls refl)

abbrev after_over : Machine
after_over = after_all (at_opening start) (flushed ++ put_over ∷ [])

read_over : AreReads after_over (way_to 7) IsAllOf (page_read 39 1085440) → ⊥
unfolding with_entry newest_at entry_at
read_over reads =
    let none : reads.pages ≡ [] = reads.part (0 ∷ []) root_zero in
    let no : ◌≡◌ {A = List DeviceCall} (page_read 39 1085440) [] = reads.are ∙ ap (λ (pages : List ℕ). reads_made after_over.clock (given pages)) none in
    absurd cc

pub returns-clause-component_read_for_a_row_in_memory : goal.returns-clause-component_read_for_a_row_in_memory
returns-clause-component_read_for_a_row_in_memory c run = read_over ((behind (at_opening start) (flushed ++ put_over ∷ []) (got 3 (Some seven) (page_read 39 1085440) 40 ∷ []) run).0.calls refl)

abbrev two : Machine
two = at_opening two_components

two_zeros : AreRoots (trees_of two.lists.components) (0 ∷ 0 ∷ [])
unfolding level_size
two_zeros = record { count = refl; each = each }
  where
    each : (i : ℕ) (comp : PrimComp) (root : ℕ) → i < length (trees_of two.lists.components) → IsRoot (shape_of prim_layout (get_or (trees_of two.lists.components) i comp).tree.rows) (get_or (0 ∷ 0 ∷ []) i root)
    each zero comp root lt = record { alone = refl; lowest = λ below less. absurd (omega (arith, less)) }
    each (suc zero) comp root lt = record { alone = refl; lowest = λ below less. absurd (omega (arith, less)) }
    each (suc (suc i)) comp root lt = absurd (omega (arith, lt))

read_one : AreReads two (way_to 7) IsAllOf (page_read 20 1089536) → ⊥
unfolding lookup_pages newest_at entry_at descent level_size level_start
read_one reads =
    let part : reads.pages ≡ 266 ∷ 265 ∷ [] = reads.part (0 ∷ 0 ∷ []) two_zeros in
    let count : 1 ≡ 2 = ap (λ (calls : List DeviceCall). length calls) (reads.are ∙ ap (λ (pages : List ℕ). reads_made two.clock (given pages)) part) in
    omega (arith, count)

pub returns-clause-pages_of_other_lists : goal.returns-clause-pages_of_other_lists
returns-clause-pages_of_other_lists c run = read_one (run.0.calls refl)
