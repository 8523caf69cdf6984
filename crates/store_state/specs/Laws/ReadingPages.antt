-- What the pages of a store's components show. No public contract needs these laws.
use Rattle.std.proofs.Common.{◌≡◌, ◌⊎◌, inl, inr, ℕ, zero, suc, ◌+◌, ◌*◌, ◌<◌, ◌≤◌, Bool, true, false, List, [], ◌∷◌, ◌++◌, length, map, get_or, All, Option, Some, refl, sym, ◌∙◌, ap, subst, arith}
use Rattle.std.proofs.lemmas.Bool.Decides.{nat_tests}
use Rattle.std.proofs.lemmas.Option.{same_Some}
use Rattle.std.specs.Prelude.{IsTrue, slice_index, ◌||◌}
use Rattle.geo_base.specs.Indexes.{has_index}
use Rattle.geo_base.specs.declared.points.IndexKind.{IndexKind}
use Rattle.geo_base.specs.declared.points.IndexKind.TheVariants.{Rtree, Dhb, Dhvb, Shb, Sif}
use Rattle.space_map.specs.declared.space.Extent.{Extent}
use Rattle.space_map.specs.Space.{is_in}
use Rattle.dev_model.specs.Story.{Bytes}
use Rattle.page_codec.specs.Page.{ShowsRows}
use Rattle.tree_shape.specs.Shape.{level_start, IsPlace}
use Rattle.tree_shape.specs.declared.levels.Shape.{Shape}
use Rattle.tree_shape.specs.Laws.Places.{before_root}
use Rattle.btree_image.specs.Image.{shape_of, level_kind, level_rows}
use Rattle.btree_image.specs.Pages.{page_number}
use Rattle.btree_image.specs.Shown.{IsShown}
use Rattle.btree_image.specs.Lent.{AreLent}
use Rattle.comp_dir.specs.Directory.{Numbered}
use Rattle.comp_dir.specs.Parts.{HasPages, main_tree, tree}
use Rattle.comp_dir.specs.Rules.{IsDeclared}
use Rattle.comp_dir.specs.declared.places.TheConstants.{MAIN_LEAVES, MAIN_INNERS, PRIMARY}
use Rattle.page_codec.specs.declared.pages.TheConstants.{PAGE_BYTES}
use Rattle.device_pages.specs.Lent.{is_lent}
use Rattle.device_pages.specs.LentPlaces.{IsLentPlace}
use Rattle.primary_ix.specs.Components.{AreShown}
use Rattle.primary_ix.specs.Pages.{AreAllLent}
use Rattle.primary_ix.specs.Rows.{prim_layout}
use Rattle.primary_ix.specs.declared.component.PrimComp.{PrimComp}
use Rattle.primary_ix.specs.declared.rows.PrimRow.{PrimRow}
use Rattle.component_image.specs.Components.{IsInExtents}
use Rattle.component_image.specs.Content.{page_at, ShowAll}
use Rattle.store_state.specs.Lists.{Lists, extent_of, extents_of, trees_of}
use Rattle.store_state.specs.EveryList.{IsLists, IsOpenSlot}

-- a lent page lies in the first extent or in one of the others
pub one_or_other : (e : Extent) (extents : List Extent) (page : ℕ) → IsTrue (is_lent (e ∷ extents) page) → IsTrue (is_in page e) ⊎ IsTrue (is_lent extents page)
one_or_other e extents page lent = by_test (is_in page e) lent
  where
    by_test : (b : Bool) → IsTrue (b || is_lent extents page) → IsTrue b ⊎ IsTrue (is_lent extents page)
    by_test true lent = inl refl
    by_test false lent = inr lent

pub lent-first : (e : Extent) (extents : List Extent) (page : ℕ) → IsTrue (is_in page e) → IsTrue (is_lent (e ∷ extents) page)
lent-first e extents page inside = ap (λ b. b || is_lent extents page) inside

pub lent-later : (e : Extent) (extents : List Extent) (page : ℕ) → IsTrue (is_lent extents page) → IsTrue (is_lent (e ∷ extents) page)
lent-later e extents page lent = by_test (is_in page e)
  where
    by_test : (b : Bool) → IsTrue (b || is_lent extents page)
    by_test true = refl
    by_test false = lent

-- a place of a lent page of components is one of their extents
pub lent-inside : (comps : List Numbered) (i : ℕ) → IsLentPlace (extents_of comps) i → IsInExtents (map (λ e. e.1) comps) i
lent-inside [] i place = nowhere place.lent
  where
    nowhere : IsTrue (is_lent [] place.page) → IsInExtents [] i
    nowhere lent = cc
lent-inside (e ∷ comps) i place =
    by_side (one_or_other (extent_of e.1) (extents_of comps) place.page place.lent)
    (λ lent. lent-inside comps i (record { page = place.page; lent = lent; from = place.from; to = place.to }))
  where
    by_side : IsTrue (is_in place.page (extent_of e.1)) ⊎ IsTrue (is_lent (extents_of comps) place.page) → (IsTrue (is_lent (extents_of comps) place.page) → IsInExtents (map (λ e. e.1) comps) i)
        → IsInExtents (map (λ e. e.1) (e ∷ comps)) i
    by_side (inl here) rest =
        let low : e.1.first ≤ place.page = grind (arith, nat_tests) in
        let high : place.page < e.1.first + e.1.pages = grind (arith, nat_tests) in
        let from : place.page * PAGE_BYTES ≤ i = place.from in
        let to : i < place.page * PAGE_BYTES + PAGE_BYTES = place.to in
        inl (record { from = omega (arith, low, from); to = omega (arith, high, to) })
    by_side (inr others) rest = inr (rest others)

-- the pages of components show the lists that their bytes show
pub shown-told : (comps : List Numbered) (lists : List (List PrimRow)) (bytes : Bytes) (contents : Option (ℕ → List ℕ)) → contents ≡ Some (page_at bytes)
    → ShowAll bytes (map (λ e. e.1) comps) lists → AreShown contents (trees_of comps) lists
shown-told [] [] bytes contents told shown = record { count = refl; each = λ i comp list lt. absurd (omega (arith, lt)) }
shown-told [] (rows ∷ lists) bytes contents told shown = absurd shown
shown-told (e ∷ comps) [] bytes contents told shown = absurd shown
shown-told (e ∷ comps) (rows ∷ lists) bytes contents told shown =
    let rest : AreShown contents (trees_of comps) lists = shown-told comps lists bytes contents told shown.1 in
    record { count = ap suc rest.count; each = each rest }
  where
    each : AreShown contents (trees_of comps) lists → (i : ℕ) (comp : PrimComp) (list : List PrimRow) → i < length (trees_of (e ∷ comps))
        → IsShown prim_layout contents (get_or (trees_of (e ∷ comps)) i comp).tree.first (get_or (trees_of (e ∷ comps)) i comp).tree.rows (get_or (rows ∷ lists) i list)
    each rest zero comp list lt = record { bytes = page_at bytes; told = told; is = shown.0.is; shows = shown.0.shows }
    each rest (suc i) comp list lt = rest.each i comp list (omega (arith, lt))

-- no index is declared, so a slot that is sound is one of the primary
primary_alone : (index : ℕ) → IsDeclared 0 index → index ≡ PRIMARY
primary_alone index (inl is) = is
primary_alone index (inr declared) = by_kind declared.0 declared.2
  where
    by_kind : (kind : IndexKind) → IsTrue (has_index 0 kind) → index ≡ PRIMARY
    by_kind Rtree has = cc
    by_kind Dhb has = cc
    by_kind Dhvb has = cc
    by_kind Shb has = cc
    by_kind Sif has = cc

-- a page of the tree of a component lies in its extent
page-inside : (pages level at : ℕ) (e : Numbered) → IsOpenSlot pages e → IsPlace (shape_of prim_layout e.1.main_rows) level at
    → IsTrue (is_in (page_number prim_layout e.1.first e.1.main_rows level at) (extent_of e.1))
page-inside pages level at e is place =
    let primary : e.1.index ≡ PRIMARY = primary_alone e.1.index is.sound.index in
    let shape : main_tree e.1 ≡ shape_of prim_layout e.1.main_rows = λ j. tree (slice_index MAIN_LEAVES (primary j)) (slice_index MAIN_INNERS (primary j)) e.1.main_rows in
    let counts : HasPages (shape_of prim_layout e.1.main_rows) is.sound.parts.main = subst (λ (x : Shape). HasPages x is.sound.parts.main) shape is.sound.parts.main_pages in
    let last : level_start (shape_of prim_layout e.1.main_rows) level + at ≤ level_start (shape_of prim_layout e.1.main_rows) counts.root = before_root (shape_of prim_layout e.1.main_rows) counts.root level at counts.is_root place in
    let below : level_start (shape_of prim_layout e.1.main_rows) level + at < e.1.pages = omega (arith, last, counts.counts, is.sound.parts.main_inside) in
    in_extent (level_start (shape_of prim_layout e.1.main_rows) level + at) below
  where
    in_extent : (n : ℕ) → n < e.1.pages → IsTrue (is_in (e.1.first + n) (extent_of e.1))
    in_extent n below = grind (arith, nat_tests)

trees-lent_in : (pages : ℕ) (comps : List Numbered) (lent : ℕ → Bool) → All (IsOpenSlot pages) comps → ((page : ℕ) → IsTrue (is_lent (extents_of comps) page) → IsTrue (lent page))
    → AreAllLent lent (trees_of comps)
trees-lent_in pages [] lent all within = λ k d lt. absurd (omega (arith, lt))
trees-lent_in pages (e ∷ comps) lent all within =
    each (trees-lent_in pages comps lent (λ k d lt. all (suc k) d (omega (arith, lt))) (λ page is. within page (lent-later (extent_of e.1) (extents_of comps) page is)))
  where
    each : AreAllLent lent (trees_of comps) → (k : ℕ) (d : PrimComp) → k < length (trees_of (e ∷ comps))
        → AreLent prim_layout lent (get_or (trees_of (e ∷ comps)) k d).tree.first (get_or (trees_of (e ∷ comps)) k d).tree.rows
    each rest zero d lt level at place =
        within (page_number prim_layout e.1.first e.1.main_rows level at)
        (lent-first (extent_of e.1) (extents_of comps) (page_number prim_layout e.1.first e.1.main_rows level at) (page-inside pages level at e (all 0 e (omega arith)) place))
    each rest (suc k) d lt level at place = rest k d (omega (arith, lt)) level at place

-- each page of each tree of open slots lies in their extents
pub trees-lent : (pages : ℕ) (comps : List Numbered) → All (IsOpenSlot pages) comps → AreAllLent (is_lent (extents_of comps)) (trees_of comps)
trees-lent pages comps all = trees-lent_in pages comps (is_lent (extents_of comps)) all (λ page is. is)

-- pages that hold what they held show what they showed
pub shown-same : (lent : ℕ → Bool) (was now : ℕ → List ℕ) (contents next : Option (ℕ → List ℕ)) (comps : List PrimComp) (disk : List (List PrimRow)) → AreAllLent lent comps
    → contents ≡ Some was → next ≡ Some now → ((page : ℕ) → IsTrue (lent page) → now page ≡ was page) → AreShown contents comps disk → AreShown next comps disk
shown-same lent was now contents next comps disk lent_all told_was told_now same shown = record {
  count = shown.count;
  each = λ i comp list lt.
      let here : IsShown prim_layout contents (get_or comps i comp).tree.first (get_or comps i comp).tree.rows (get_or disk i list) = shown.each i comp list lt in
      let first : ℕ = (get_or comps i comp).tree.first in
      let rows : List PrimRow = get_or disk i list in
      let bytes : here.bytes ≡ was = same_Some _ _ (sym here.told ∙ told_was) in
      record {
        bytes = now;
        told = told_now;
        is = here.is;
        shows = λ level at place.
            let page : ℕ = first + (level_start (shape_of prim_layout (length rows)) level + at) in
            let inside : IsTrue (lent page) = lent_there (get_or comps i comp) (length rows) level at here.is.count (lent_all i comp lt) place in
            subst (λ (x : List ℕ). ShowsRows (level_kind prim_layout level) level (level_rows prim_layout rows level at) x)
            (ap (λ (f : ℕ → List ℕ). f page) bytes ∙ sym (same page inside)) (here.shows level at place);
      };
}
  where
    lent_there : (comp : PrimComp) (count level at : ℕ) → count ≡ comp.tree.rows → AreLent prim_layout lent comp.tree.first comp.tree.rows → IsPlace (shape_of prim_layout count) level at
        → IsTrue (lent (comp.tree.first + (level_start (shape_of prim_layout count) level + at)))
    lent_there comp count level at is all place =
        subst (λ (n : ℕ). IsPlace (shape_of prim_layout n) level at → IsTrue (lent (comp.tree.first + (level_start (shape_of prim_layout n) level + at)))) (sym is) (all level at) place

All-front : {X : Type 0} (P : X → Type 0) (xs ys : List X) → All P (xs ++ ys) → All P xs
All-front P [] ys all k d lt = absurd (omega (arith, lt))
All-front P (x ∷ xs) ys all zero d lt = all zero d (omega arith)
All-front P (x ∷ xs) ys all (suc k) d lt = All-front P xs ys (λ i e under. all (suc i) e (omega (arith, under))) k d (omega (arith, lt))

-- the components of lists are open slots
pub components-open : (l : Lists) → IsLists l → All (IsOpenSlot l.space.pages) l.components
components-open l is = All-front (IsOpenSlot l.space.pages) l.components l.ignored is.slots

-- and their trees are lent where their extents are
pub components-lent : (l : Lists) → IsLists l → AreAllLent (is_lent (extents_of l.components)) (trees_of l.components)
components-lent l is = trees-lent l.space.pages l.components (components-open l is)
