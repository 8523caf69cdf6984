-- What a page of a shown tree tells a reader.
use Rattle.std.proofs.Common.{◌≡◌, ℕ, suc, ◌+◌, ◌-◌, ◌*◌, ◌/◌, ◌^◌, ◌<◌, ◌≤◌, min, true, Option, Some, None, List, [], take, drop, map, get_or, length, All, inl, inr, arith, refl, sym, ◌∙◌, ap, subst, get_or-take, get_or-drop}
use Rattle.std.specs.Prelude.{slice_index_or, not}
use Rattle.std.specs.Ordering.{is_gt, eq_by_cmp}
use Rattle.std.specs.declared.cmp.Ordering.TheVariants.{Greater}
use Rattle.std.specs.Int.{from_be_bytes, w32}
use Rattle.std.proofs.lemmas.List.{length-map, get_or-map}
use Rattle.std.proofs.lemmas.List.Elements.{All-take, All-drop}
use Rattle.std.proofs.lemmas.Bool.{cases_Bool}
use Rattle.std.proofs.Math.Nat.{div-mul-le_self}
use Rattle.dev_model.specs.Story.{WhereTold}
use Rattle.page_codec.specs.Page.{IsPage, most_rows, rows_on, row_count, ShowsRows}
use Rattle.tree_shape.specs.Shape.{level_size, level_start, IsPlace, numbers}
use Rattle.btree_image.specs.Rows.{Layout, IsStored}
use Rattle.btree_image.specs.Kinds.{IsKeyOrder}
use Rattle.btree_image.specs.Given.{row_with_key}
use Rattle.btree_image.specs.Image.{shape_of, level_rows, level_kind, IsList, ShowsTree, child_row}
use Rattle.btree_image.specs.Pages.{page_number}
use Rattle.btree_image.specs.Shown.{IsShown}
use Rattle.btree_image.specs.Descent.{rank, place_of_key}
use Rattle.btree_image.specs.Damage.{AllReadable, IsTreePage, IsDamaged}
use Rattle.btree_image.specs.Tested.{IsTested}
use Rattle.btree_image.specs.Steps.{IsLastUpTo, row_at}
use Rattle.page_codec.specs.Laws.Writing.{length-rows_on, stands, Stands}
use Rattle.tree_shape.specs.Laws.Numbers.{length-numbers}
use Rattle.btree_image.proofs.Rank.{rank-le, at_most-below, greater-from}
use Rattle.tree_shape.specs.Laws.Covers.{place_inside, place_above}
use Rattle.btree_image.proofs.Children.{stored_at, not_greater, place_in_page, child_number-is, child_at, level_rows-children, row_at_place}
use Rattle.btree_image.proofs.Leaf.{found-last, found-none, row_with_key-none, leaf-low, leaf-high, part-length}
use Rattle.btree_image.proofs.Found.{row_at-other, row_at-same}

module _ {T K : Type 0} (l : Layout T K) (o : IsKeyOrder l.order) (a : 1 ≤ most_rows l.leaf) (b : 2 ≤ most_rows l.inner)
    (rows : ℕ) (list : List T) (is : IsList l rows list) (key : K) where
  -- the place of a key in a level above is that of its page's parent
  pub place-above : (level : ℕ) → place_of_key l list key (suc level) ≡ place_of_key l list key level / most_rows l.inner
  place-above level = place_above (shape_of l (length list)) level (rank l list key)

  pub place-inside : (level : ℕ) → place_of_key l list key level < level_size (shape_of l rows) level
  place-inside level = subst (λ r. place_of_key l list key level < level_size (shape_of l r) level) is.count
      (place_inside (shape_of l (length list)) a b level (rank l list key) (rank-le l o list is.ascends key))

  module _ (level at : ℕ) (e : at ≡ place_of_key l list key (suc level)) (bytes : List ℕ)
      (shows : ShowsRows l.inner (suc level) (level_rows l list (suc level) at) bytes) where
    abbrev offset : ℕ
    offset = place_of_key l list key level - at * most_rows l.inner

    pub in_page : IsLastUpTo l key (rows_on bytes) offset
    in_page = subst (λ ys. IsLastUpTo l key ys offset) (sym shows.all) (place_in_page l o list is.ascends is.stored key a b level at (e ∙ place-above level))

    pub child-told : 0 < rows → level_start (shape_of l rows) level + place_of_key l list key level < 2 ^ 32
        → from_be_bytes w32 (drop l.key_width (slice_index_or (rows_on bytes) offset [])) ≡ level_start (shape_of l rows) level + place_of_key l list key level
    child-told some fits =
        let many = most_rows l.inner in
        let first = at * many in
        let size = level_size (shape_of l (length list)) level in
        let t = place_of_key l list key level in
        let inside : t < size = place_inside (shape_of l (length list)) a b level (rank l list key) (rank-le l o list is.ascends key) in
        let within = in_page.inside in
        let n = min many (size - first) in
        let all : length (level_rows l list (suc level) at) ≡ n =
        ap length (level_rows-children l list is.stored level at) ∙ (length-map (numbers first n) (child_row l list level) ∙ length-numbers first n) in
        let same : length (rows_on bytes) ≡ length (level_rows l list (suc level) at) = ap length shows.all in
        let low : first ≤ t = rw (e ∙ place-above level) (div-mul-le_self t many) in
        let here : first + offset ≡ t = omega arith in
        let row : slice_index_or (rows_on bytes) offset [] ≡ child_row l list level t =
        ap (λ ys. slice_index_or ys offset []) (shows.all ∙ level_rows-children l list is.stored level at)
        ∙ (child_at l list is.stored level first n offset (omega arith) ∙ ap (child_row l list level) here) in
        ap (λ row. from_be_bytes w32 (drop l.key_width row)) row
        ∙ (child_number-is l list is.stored level t (row_at_place l o list is.ascends is.stored key a b level (subst (λ n. 0 < n) (sym is.count) some))
        (subst (λ r. level_start (shape_of l r) level + t < 2 ^ 32) (sym is.count) fits)
        ∙ ap (λ r. level_start (shape_of l r) level + t) is.count)

  module _ (at : ℕ) (e : at ≡ place_of_key l list key 0) (bytes : List ℕ) (shows : ShowsRows l.leaf 0 (level_rows l list 0 at) bytes) where
    abbrev w : ℕ
    w = most_rows l.leaf

    abbrev part : List T
    part = take w (drop (at * w) list)

    abbrev last : ℕ
    last = rank l list key - 1

    abbrev spot : ℕ
    spot = last - at * w

    pub leaf_rows : rows_on bytes ≡ map l.to_bytes part
    unfolding level_rows
    leaf_rows = shows.all

    pub leaf_count : row_count bytes ≡ min w (length list - at * w)
    leaf_count =
        let all = length-rows_on bytes in
        sym all ∙ (ap length leaf_rows ∙ (length-map part l.to_bytes ∙ part-length l o list is.ascends is.stored key a at e))

    -- the row of a leaf at a place
    pub row_there : (i : ℕ) → i < row_count bytes → (s : Stands list (at * w + i)) → slice_index_or (rows_on bytes) i [] ≡ l.to_bytes s.row
    row_there i h s =
        let long : i < length part = rw (part-length l o list is.ascends is.stored key a at e) (omega (arith, leaf_count)) in
        ap (λ ys. slice_index_or ys i []) leaf_rows
        ∙ (get_or-map l.to_bytes part i s.row [] long
        ∙ ap l.to_bytes (get_or-take w (drop (at * w) list) i s.row (omega (arith, leaf_count)) ∙ (get_or-drop (at * w) list i s.row ∙ s.read)))

    pub key_there : (i : ℕ) → i < row_count bytes → (s : Stands list (at * w + i)) → l.key_of_bytes (take l.key_width (slice_index_or (rows_on bytes) i [])) ≡ l.key_of s.row
    key_there i h s =
        let st = stored_at l list is.stored (at * w + i) s (omega (arith, leaf_count)) in
        ap (λ row. l.key_of_bytes (take l.key_width row)) (row_there i h s) ∙ (ap l.key_of_bytes st.key_first ∙ st.key_back)

    pub leaf_place : 0 < length list → IsLastUpTo l key (rows_on bytes) spot
    leaf_place some =
        let low = leaf-low l o list is.ascends is.stored key a at e in
        let high = leaf-high l o list is.ascends is.stored key a at e in
        let le = rank-le l o list is.ascends key in
        let all = length-rows_on bytes in
        record {
          inside = omega (arith, leaf_count);
          up_to = λ i one h.
              let inside : i < row_count bytes = omega (arith, leaf_count) in
              let s = stands list (at * w + i) (omega (arith, leaf_count)) in
              let below = at_most-below l o list is.ascends key (at * w + i) s.row (omega arith) in
              ap (λ k. not (is_gt (l.order k key))) (key_there i inside s)
              ∙ subst (λ row. not (is_gt (l.order (l.key_of row) key)) ≡ true) s.read below;
          behind = λ i h j.
              let inside : i < row_count bytes = omega (arith, all) in
              let s = stands list (at * w + i) (omega (arith, leaf_count)) in
              let above = greater-from l o list is.ascends key (at * w + i) s.row (omega arith) (omega (arith, leaf_count)) in
              ap (λ k. not (is_gt (l.order k key))) (key_there i inside s)
              ∙ (ap (λ r. not (is_gt r)) (subst (λ row. l.order (l.key_of row) key ≡ Greater) s.read above) ∙ not_greater);
        }

    -- the row of the key, if there is one, stands there
    pub leaf_row-told : 0 < length list → row_at l key (slice_index_or (rows_on bytes) spot []) ≡ row_with_key l list key
    leaf_row-told some =
        let low = leaf-low l o list is.ascends is.stored key a at e in
        let high = leaf-high l o list is.ascends is.stored key a at e in
        let le = rank-le l o list is.ascends key in
        let here : at * w + spot ≡ last = omega arith in
        let inside : spot < row_count bytes = omega (arith, leaf_count) in
        let s = stands list (at * w + spot) (omega arith) in
        let row = row_there spot inside s in
        let k = key_there spot inside s in
        let st = stored_at l list is.stored (at * w + spot) s (omega arith) in
        elim (cases_Bool (eq_by_cmp l.order (l.key_of s.row) key)) [
          | inl same ↦ row_at-same l key _ (ap (λ k. eq_by_cmp l.order k key) k ∙ same) ∙ (ap l.of_bytes row ∙ (st.row_back
              ∙ sym (found-last l o list is.ascends is.stored key (at * w + spot) here s (omega arith) same)))
          | inr other ↦ row_at-other l key _ (ap (λ k. eq_by_cmp l.order k key) k ∙ other)
              ∙ sym (found-none l o list is.ascends is.stored key (at * w + spot) here s (omega arith) other)
        ]

    -- a list without rows has no row of the key, and its leaf none at all
    pub no_rows : length list ≤ 0 → (row_count bytes ≡ 0) × (None ≡ row_with_key l list key)
    no_rows none = (omega (arith, leaf_count), sym (row_with_key-none l key list (λ i d h. absurd (omega arith))))

-- a page of a tree that is shown, by the number of its rows
pub shown_at : {T K : Type 0} (l : Layout T K) (list : List T) (first rows : ℕ) (bytes : ℕ → List ℕ) → ShowsTree l list first bytes → length list ≡ rows
    → (level at : ℕ) → IsPlace (shape_of l rows) level at → ShowsRows (level_kind l level) level (level_rows l list level at) (bytes (page_number l first rows level at))
shown_at l list first rows bytes shows e level at place =
    subst (λ r. ShowsRows (level_kind l level) level (level_rows l list level at) (bytes (page_number l first r level at))) e
    (shows level at (subst (λ r. IsPlace (shape_of l r) level at) (sym e) place))

-- what was read shows the page that was asked for
pub shown_read : {T K : Type 0} (l : Layout T K) (list : List T) (first rows : ℕ) (contents : Option (ℕ → List ℕ)) (shown : IsShown l contents first rows list) (buf : List ℕ)
    → (level at : ℕ) → IsPlace (shape_of l rows) level at → WhereTold contents (λ bytes. buf ≡ bytes (page_number l first rows level at))
    → ShowsRows (level_kind l level) level (level_rows l list level at) buf
shown_read l list first rows contents shown buf level at place read =
    subst (λ x. ShowsRows (level_kind l level) level (level_rows l list level at) x) (sym (read shown.bytes shown.told))
    (shown_at l list first rows shown.bytes shown.shows shown.is.count level at place)

-- the rows of a leaf can be read
pub readable : {T K : Type 0} (l : Layout T K) (list : List T) → All (IsStored l) list → (at : ℕ) (rows : List (List ℕ)) → rows ≡ level_rows l list 0 at → AllReadable l rows
unfolding level_rows
readable l list stored at rows e i h none =
    let part = take (most_rows l.leaf) (drop (at * most_rows l.leaf) list) in
    let long : i < length part = subst (λ n. i < n) (ap length e ∙ length-map part l.to_bytes) h in
    let s = stands part i long in
    let st : IsStored l s.row = subst (IsStored l) s.read (All-take (IsStored l) (most_rows l.leaf) _ (All-drop (IsStored l) (at * most_rows l.leaf) list stored) i s.row long) in
    let here : get_or rows i [] ≡ l.to_bytes s.row =
    ap (λ xs. get_or xs i []) e ∙ (get_or-map l.to_bytes part i s.row [] long ∙ ap l.to_bytes s.read) in
    let both : Some s.row ≡ None = sym st.row_back ∙ (ap l.of_bytes (sym here) ∙ none) in
    cc

-- what was read for a place isn't a page for it
pub damaged_at : {T K : Type 0} (l : Layout T K) (first rows : ℕ) (contents : Option (ℕ → List ℕ)) (bytes : ℕ → List ℕ) (buf : List ℕ) (level at page : ℕ)
    → contents ≡ Some bytes → WhereTold contents (λ bytes. buf ≡ bytes (page_number l first rows level at)) → IsPlace (shape_of l rows) level at
    → page ≡ page_number l first rows level at → (IsTreePage l rows level buf → ⊥) → IsDamaged l first rows bytes page
damaged_at l first rows contents bytes buf level at page told read place number bad = record {
  level = level;
  at = at;
  place = place;
  number = number;
  bad = λ well. bad (subst (IsTreePage l rows level) (sym (read bytes told ∙ ap bytes (sym number))) well);
}

-- a page that was read at its place and has its header was tested
pub tested_at : {T K : Type 0} (l : Layout T K) (first rows : ℕ) (contents : ℕ → List ℕ) (bytes : List ℕ) (level at : ℕ)
    → IsPlace (shape_of l rows) level at → bytes ≡ contents (page_number l first rows level at) → IsPage (level_kind l level) level bytes
    → (0 < level → 0 < row_count bytes) → IsTested l first rows contents (page_number l first rows level at)
tested_at l first rows contents bytes level at place same header some = record {
  level = level;
  at = at;
  place = place;
  number = refl;
  header = subst (IsPage (level_kind l level) level) same header;
  some = subst (λ b. 0 < level → 0 < row_count b) same some;
}
