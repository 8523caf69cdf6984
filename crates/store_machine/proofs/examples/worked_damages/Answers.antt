use Rattle.std.proofs.Common.{◌≡◌, ◌⊎◌, inl, inr, ℕ, zero, suc, ◌+◌, ◌*◌, ◌<◌, ◌≤◌, List, [], ◌∷◌, length, map, refl, sym, ◌∙◌, ap, subst, arith}
use Rattle.std.proofs.lemmas.Option.{same_Some}
use Rattle.std.specs.Prelude.{drop, slice_index, slice_index_or}
use Rattle.dev_model.specs.Story.{place, Calls, Story, IsReadable, after, bytes_of, clock_of}
use Rattle.dev_model.specs.Laws.CallLists.{clock_of-after}
use Rattle.dev_model.specs.Laws.Ranges.{get_or-part, patched-outside}
use Rattle.page_codec.specs.Page.{most_rows, row_count, row_width, rows_in, rows_on}
use Rattle.page_codec.specs.declared.kinds.TheConstants.{PRIMARY_LEAF}
use Rattle.page_codec.specs.declared.pages.TheConstants.{HEADER_BYTES, PAGE_BYTES}
use Rattle.tree_shape.specs.Shape.{IsPlace, level_size, level_start}
use Rattle.device_pages.specs.Lending.{page_bytes}
use Rattle.component_image.specs.Components.{IsInExtents}
use Rattle.btree_image.specs.Damage.{IsDamaged, IsLeafPage, IsTreePage}
use Rattle.btree_image.specs.Image.{shape_of}
use Rattle.btree_image.specs.Pages.{page_number}
use Rattle.primary_ix.specs.Damage.{IsDamagedIn}
use Rattle.primary_ix.specs.Rows.{prim_layout}
use Rattle.primary_ix.specs.declared.component.PrimComp.{PrimComp}
use Rattle.store_state.specs.Lists.{trees_of}
use Rattle.store_machine.specs.Damage.{WasDamaged}
use Rattle.store_machine.specs.Examples.{one_leaf, two_at_first}
use Rattle.store_machine.specs.Machine.{Machine, at_opening}
use Rattle.store_machine.proofs.examples.worked_damages.Goals as goal

abbrev opened : Machine
opened = at_opening two_at_first

abbrev trees : List PrimComp
trees = trees_of two_at_first.lists.components

-- a byte of a page
byte : (page k : ℕ) → k < PAGE_BYTES → slice_index (page_bytes one_leaf page) k ≡ bytes_of one_leaf (page * PAGE_BYTES + k)
byte page k lt = get_or-part (page * PAGE_BYTES) PAGE_BYTES (bytes_of one_leaf) k lt

no_leaf : IsLeafPage prim_layout (page_bytes one_leaf 265) → ⊥
no_leaf leaf = let no : 0 ≡ PRIMARY_LEAF = sym (byte 265 0 (omega arith)) ∙ leaf.page.of_kind in omega (arith, no)

no_row : row_count (page_bytes one_leaf 266) ≡ 0
no_row = let high : _ = byte 266 2 (omega arith) in let low : _ = byte 266 3 (omega arith) in omega (arith, high, low)

no_rows : length (rows_on (page_bytes one_leaf 266)) ≡ 0
unfolding rows_in
no_rows = ap (λ (n : ℕ). length (rows_in (row_width (slice_index (page_bytes one_leaf 266) 0)) n (drop HEADER_BYTES (page_bytes one_leaf 266)))) no_row

leaf : IsLeafPage prim_layout (page_bytes one_leaf 266)
leaf = record {
  page = record {
    of_kind = byte 266 0 (omega arith);
    of_level = byte 266 1 (omega arith);
    fits = subst (λ (n : ℕ). n ≤ most_rows PRIMARY_LEAF) (sym no_row) (omega arith);
    reserved = λ k from to. byte 266 k (omega (arith, to)) ∙ patched-outside 1089536 (PRIMARY_LEAF ∷ []) (place []) (1089536 + k) (inr (omega (arith, from)));
  };
  readable = λ i lt none. absurd (omega (arith, lt, no_rows));
}

-- a tree of one row is its first page, a leaf
one_page : (first page level at : ℕ) (bytes : List ℕ) → IsPlace (shape_of prim_layout 1) level at → page ≡ page_number prim_layout first 1 level at → (IsTreePage prim_layout 1 level bytes → ⊥)
    → (page ≡ first) × (IsLeafPage prim_layout bytes → ⊥)
unfolding level_size level_start
one_page first page zero at bytes place number bad = (omega (arith, number, place.inside), bad)
one_page first page (suc below) at bytes place number bad = absurd (omega (arith, place.up_to_root 0 (omega arith)))

damaged_tree : (first page : ℕ) (comp : PrimComp) → record { tree = record { first = first; rows = 1 } } ≡ comp → IsDamaged prim_layout comp.tree.first comp.tree.rows (page_bytes one_leaf) page
    → (page ≡ first) × (IsLeafPage prim_layout (page_bytes one_leaf page) → ⊥)
damaged_tree first page comp same damaged =
    let d : IsDamaged prim_layout first 1 (page_bytes one_leaf) page = subst (λ (c : PrimComp). IsDamaged prim_layout c.tree.first c.tree.rows (page_bytes one_leaf) page) (sym same) damaged in
    one_page first page d.level d.at (page_bytes one_leaf page) d.place d.number d.bad

-- what is damaged is the first page of a component, and no leaf
damaged_page : (page : ℕ) → IsDamagedIn trees (page_bytes one_leaf) page → ((page ≡ 266) ⊎ (page ≡ 265)) × (IsLeafPage prim_layout (page_bytes one_leaf page) → ⊥)
damaged_page page any = by_index any.0 any.1 any.2 any.3 any.4
  where
    by_index : (k : ℕ) (comp : PrimComp) → k < length trees → slice_index_or trees k comp ≡ comp → IsDamaged prim_layout comp.tree.first comp.tree.rows (page_bytes one_leaf) page
        → ((page ≡ 266) ⊎ (page ≡ 265)) × (IsLeafPage prim_layout (page_bytes one_leaf page) → ⊥)
    by_index zero comp lt same damaged = let d : _ = damaged_tree 266 page comp same damaged in (inl d.0, d.1)
    by_index (suc zero) comp lt same damaged = let d : _ = damaged_tree 265 page comp same damaged in (inr d.0, d.1)
    by_index (suc (suc k)) comp lt same damaged = absurd (omega (arith, lt))

-- each place of the components' pages can be read
abbrev IsReadableAll : Story → Type 0
IsReadableAll s = (i : ℕ) → IsInExtents (map (λ e. e.1) two_at_first.lists.components) i → IsReadable s.past i

-- the story had come to its last call
at_the_end : (page : ℕ) → WasDamaged opened one_leaf 3 page → IsDamagedIn trees (page_bytes one_leaf) page
at_the_end page was =
    let calls : length was.since ≡ 0 = omega (arith, clock_of-after was.earlier was.since, ap clock_of was.went, was.clock) in
    by_calls was.earlier was.since was.went calls was.damaged
  where
    by_calls : (earlier : Story) (since : Calls) → one_leaf ≡ after earlier since → length since ≡ 0
        → (IsReadableAll earlier → IsDamagedIn trees (page_bytes earlier) page) → IsDamagedIn trees (page_bytes one_leaf) page
    by_calls earlier [] went none damaged =
        subst (λ (s : Story). IsReadableAll s → IsDamagedIn trees (page_bytes s) page) (sym went) damaged (λ i place. inr tt)
    by_calls earlier (call ∷ since) went none damaged = absurd (omega (arith, none))

damaged_265 : IsDamagedIn trees (page_bytes one_leaf) 265
unfolding level_size level_start
damaged_265 = (
  1,
  record { tree = record { first = 265; rows = 1 } },
  omega arith,
  refl,
  record { level = 0; at = 0; place = record { inside = omega arith; up_to_root = λ below lt. absurd (omega (arith, lt)) }; number = refl; bad = no_leaf },
)

was_265 : WasDamaged opened one_leaf 3 265
was_265 = record {
  earlier = one_leaf;
  since = [];
  went = refl;
  clock = refl;
  damaged = λ readable. damaged_265;
}

pub returns-clause-none_for_its_place : goal.returns-clause-none_for_its_place
returns-clause-none_for_its_place c = (λ page is. subst (λ (n : ℕ). WasDamaged opened one_leaf 3 n) (same_Some _ _ is) was_265, tt)

pub returns-clause-page_for_its_place : goal.returns-clause-page_for_its_place
returns-clause-page_for_its_place c are = (damaged_page 266 (at_the_end 266 (are.0 266 refl))).1 leaf

pub returns-clause-page_of_no_component : goal.returns-clause-page_of_no_component
returns-clause-page_of_no_component c are = neither 264 refl (damaged_page 264 (at_the_end 264 (are.0 264 refl))).0
  where
    neither : (page : ℕ) → page ≡ 264 → (page ≡ 266) ⊎ (page ≡ 265) → ⊥
    neither page same (inl is) = omega (arith, is, same)
    neither page same (inr is) = omega (arith, is, same)

pub returns-clause-clock_to_come : goal.returns-clause-clock_to_come
returns-clause-clock_to_come c are =
    let was : WasDamaged opened one_leaf 4 265 = are.0 265 refl in
    omega (arith, clock_of-after was.earlier was.since, ap clock_of was.went, was.clock)
