-- The places of the components' trees lie in their extents.
use Rattle.std.proofs.Common.{◌≡◌, ℕ, ◌+◌, ◌<◌, ◌≤◌, true, Bool, List, [], ◌∷◌, ◌++◌, All, inl, inr, arith, subst}
use Rattle.std.specs.Prelude.{IsTrue, slice_index}
use Rattle.std.proofs.lemmas.Bool.{le-leb, lt-ltb, and_from, or_left, or_right}
use Rattle.std.proofs.lemmas.List.Elements.{All-nil, All-cons, All-head, All-tail}
use Rattle.geo_base.specs.Indexes.{has_index}
use Rattle.geo_base.specs.declared.points.IndexKind.{IndexKind}
use Rattle.geo_base.specs.declared.points.IndexKind.TheVariants.{Rtree, Dhb, Dhvb, Shb, Sif}
use Rattle.tree_shape.specs.declared.levels.Shape.{Shape}
use Rattle.tree_shape.specs.Shape.{level_start, IsPlace}
use Rattle.tree_shape.specs.Laws.Places.{before_root}
use Rattle.btree_image.specs.Image.{shape_of}
use Rattle.btree_image.specs.Lent.{AreLent}
use Rattle.space_map.specs.declared.space.Extent.{Extent}
use Rattle.space_map.specs.Space.{end_of, is_in, is_reserved}
use Rattle.comp_dir.specs.Directory.{Numbered}
use Rattle.comp_dir.specs.Parts.{HasPages, tree, main_tree}
use Rattle.comp_dir.specs.Rules.{IsDeclared, IsSound}
use Rattle.comp_dir.specs.declared.places.TheConstants.{MAIN_LEAVES, MAIN_INNERS, PRIMARY}
use Rattle.comp_dir.specs.declared.slots.Slot.{Slot}
use Rattle.primary_ix.specs.Pages.{AreAllLent}
use Rattle.primary_ix.specs.Rows.{prim_layout}
use Rattle.store_state.specs.Lists.{extent_of, extents_of, tree_of, trees_of}
use Rattle.store_state.specs.EveryList.{IsOpenSlot}

-- what holds of joined lists holds of each
pub All-front : {X : Type 0} (P : X → Type 0) (xs ys : List X) → All P (xs ++ ys) → All P xs
All-front P [] ys all = All-nil P
All-front P (x ∷ xs) ys all = All-cons P x xs (All-head P x (xs ++ ys) all) (All-front P xs ys (All-tail P x (xs ++ ys) all))

pub All-back : {X : Type 0} (P : X → Type 0) (xs ys : List X) → All P (xs ++ ys) → All P ys
All-back P [] ys all = all
All-back P (x ∷ xs) ys all = All-back P xs ys (All-tail P x (xs ++ ys) all)

none_declared : (kind : IndexKind) → IsTrue (has_index 0 kind) → ⊥
none_declared Rtree h = cc
none_declared Dhb h = cc
none_declared Dhvb h = cc
none_declared Shb h = cc
none_declared Sif h = cc

is_primary : (index : ℕ) → IsDeclared 0 index → index ≡ PRIMARY
is_primary index (inl is) = is
is_primary index (inr (kind, is, declared)) = absurd (none_declared kind declared)

-- the main part of a slot of the primary is a tree of its rows
pub main_pages : (pages : ℕ) (s : Slot) → IsSound pages 0 s → (count : ℕ) → HasPages (main_tree s) count → HasPages (shape_of prim_layout s.main_rows) count
main_pages pages s sound count has =
    subst (λ (index : ℕ). HasPages (tree (slice_index MAIN_LEAVES index) (slice_index MAIN_INNERS index) s.main_rows) count) (is_primary s.index sound.index) has

-- a place of a tree with so many pages has a number below that
pub place_below : (s : Shape) (count : ℕ) → HasPages s count → (level at : ℕ) → IsPlace s level at → level_start s level + at < count
place_below s count has level at place =
    let counts = has.counts in
    let low = before_root s has.root level at has.is_root place in
    omega arith

pub in_extent : (e : Extent) (n : ℕ) → n < e.pages → is_in (e.first + n) e ≡ true
in_extent e n h = and_from _ _ (le-leb e.first (e.first + n) (omega arith)) (lt-ltb (e.first + n) (e.first + e.pages) (omega arith))

slot_lent : (pages : ℕ) (e : Numbered) → IsOpenSlot pages e → AreLent prim_layout (λ page. is_in page (extent_of e.1)) e.1.first e.1.main_rows
slot_lent pages e is level at place =
    let parts = is.sound.parts in
    let low = place_below (shape_of prim_layout e.1.main_rows) parts.main (main_pages pages e.1 is.sound parts.main parts.main_pages) level at place in
    let inside = parts.main_inside in
    in_extent (extent_of e.1) (level_start (shape_of prim_layout e.1.main_rows) level + at) (omega arith)

pub all_lent : (pages : ℕ) (lent : ℕ → Bool) (slots : List Numbered) → All (IsOpenSlot pages) slots
    → ((page : ℕ) → is_reserved (extents_of slots) page ≡ true → lent page ≡ true) → AreAllLent lent (trees_of slots)
all_lent pages lent [] all covers = All-nil _
all_lent pages lent (e ∷ slots) all covers =
    All-cons (λ comp. AreLent prim_layout lent comp.tree.first comp.tree.rows) (tree_of e.1) (trees_of slots)
    (λ level at place. covers _ (or_left _ _ (slot_lent pages e (All-head (IsOpenSlot pages) e slots all) level at place)))
    (all_lent pages lent slots (All-tail (IsOpenSlot pages) e slots all) (λ page h. covers page (or_right _ _ h)))

-- the extents of open slots lie on the device
pub on_device : (pages : ℕ) (slots : List Numbered) → All (IsOpenSlot pages) slots → All (λ e. end_of e ≤ pages) (extents_of slots)
on_device pages [] all = All-nil _
on_device pages (e ∷ slots) all =
    All-cons (λ e. end_of e ≤ pages) (extent_of e.1) (extents_of slots)
    (All-head (IsOpenSlot pages) e slots all).sound.extent.to (on_device pages slots (All-tail (IsOpenSlot pages) e slots all))
