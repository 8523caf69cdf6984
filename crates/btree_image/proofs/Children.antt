-- The rows of a page above the leaves, and the child through which a descent goes.
use Rattle.std.proofs.Common.{◌≡◌, ℕ, suc, ◌+◌, ◌-◌, ◌*◌, ◌/◌, ◌^◌, ◌<◌, ◌≤◌, min, true, false, not, List, [], ◌++◌, take, drop, map, length, get_or, All, arith, refl, ◌∙◌, ap, subst, sym}
use Rattle.std.proofs.Math.Nat.{div-mul-le_self, lt-div-mul-add}
use Rattle.std.proofs.lemmas.List.{drop_at, take_at, get_or-map, length-map}
use Rattle.std.proofs.lemmas.Nat.{from_be_bytes-to_be_bytes_4}
use Rattle.std.specs.Int.{to_be_bytes, from_be_bytes, w32}
use Rattle.std.specs.Ordering.{is_gt}
use Rattle.std.specs.declared.cmp.Ordering.TheVariants.{Greater}
use Rattle.page_codec.specs.Page.{most_rows}
use Rattle.page_codec.specs.Laws.Writing.{stands, Stands}
use Rattle.tree_shape.specs.Laws.Places.{child_has_row}
use Rattle.tree_shape.specs.declared.levels.Shape.{Shape}
use Rattle.tree_shape.specs.Shape.{level_size, level_start, span, numbers}
use Rattle.btree_image.specs.Rows.{Layout, IsStored, Ascends}
use Rattle.btree_image.specs.Kinds.{IsKeyOrder}
use Rattle.btree_image.specs.Image.{shape_of, child_row, level_rows}
use Rattle.btree_image.specs.Descent.{rank, place_of_key}
use Rattle.btree_image.specs.Steps.{reaches, IsLastUpTo}
use Rattle.tree_shape.specs.Laws.Covers.{span-pos, child_reached, child_passed, place_inside}
use Rattle.tree_shape.specs.Laws.Numbers.{children_at-numbers, get_or-numbers, length-numbers}
use Rattle.btree_image.proofs.Rank.{rank-le, at_most-below, greater-from}

pub stored_at : {T K : Type 0} (l : Layout T K) (rows : List T) → All (IsStored l) rows → (i : ℕ) (s : Stands rows i) → i < length rows → IsStored l s.row
stored_at l rows stored i s h = subst (IsStored l) s.read (stored i s.row h)

pub not_greater : not (is_gt Greater) ≡ false
not_greater = refl

pub take_front_at : (xs ys : List ℕ) (w : ℕ) → length xs ≡ w → take w (xs ++ ys) ≡ xs
take_front_at xs ys w e = take_at xs ys w e

module _ {T K : Type 0} (l : Layout T K) (rows : List T) (stored : All (IsStored l) rows) where
  abbrev shape : Shape
  shape = shape_of l (length rows)

  -- an inner row begins with the key of its child's first row
  pub child_key : (level c : ℕ) (s : Stands rows (c * span shape level)) → c * span shape level < length rows
      → l.key_of_bytes (take l.key_width (child_row l rows level c)) ≡ l.key_of s.row
  child_key level c s h =
      let st = stored_at l rows stored (c * span shape level) s h in
      let front = take_front_at (l.key_to_bytes (l.key_of s.row)) (to_be_bytes w32 (level_start shape level + c)) l.key_width st.key_length in
      rw (s.got, front) st.key_back

  -- and ends with its page
  pub child_number-is : (level c : ℕ) → c * span shape level < length rows → level_start shape level + c < 2 ^ 32
      → from_be_bytes w32 (drop l.key_width (child_row l rows level c)) ≡ level_start shape level + c
  child_number-is level c inside fits =
      let s = stands rows (c * span shape level) inside in
      let st = stored_at l rows stored (c * span shape level) s inside in
      let behind = drop_at (l.key_to_bytes (l.key_of s.row)) (to_be_bytes w32 (level_start shape level + c)) l.key_width st.key_length in
      rw s.got (ap (from_be_bytes w32) behind ∙ from_be_bytes-to_be_bytes_4 (level_start shape level + c) fits)

  -- a page above the leaves has its children's rows
  pub level_rows-children : (level at : ℕ) → level_rows l rows (suc level) at
      ≡ map (child_row l rows level) (numbers (at * most_rows l.inner) (min (most_rows l.inner) (level_size shape level - at * most_rows l.inner)))
  unfolding level_rows
  level_rows-children level at = ap (map (child_row l rows level)) (children_at-numbers (level_size shape level) (most_rows l.inner) at)

  pub child_at : (level first n i : ℕ) → i < n → get_or (map (child_row l rows level) (numbers first n)) i [] ≡ child_row l rows level (first + i)
  child_at level first n i h =
      get_or-map (child_row l rows level) (numbers first n) i 0 [] (rw (length-numbers first n) h)
      ∙ ap (child_row l rows level) (get_or-numbers first n i 0 h)

module _ {T K : Type 0} (l : Layout T K) (o : IsKeyOrder l.order) (rows : List T) (ascends : Ascends l rows)
    (stored : All (IsStored l) rows) (key : K) (a : 1 ≤ most_rows l.leaf) (b : 2 ≤ most_rows l.inner) where
  abbrev tree : Shape
  tree = shape_of l (length rows)

  abbrev place : ℕ → ℕ
  place level = place_of_key l rows key level

  -- the descent reaches a child up to the key's place
  pub reaches-up_to : (level c : ℕ) → c * span tree level < length rows → c * span tree level < rank l rows key
      → reaches l key (child_row l rows level c) ≡ true
  reaches-up_to level c inside h =
      let s = stands rows (c * span tree level) inside in
      let below = at_most-below l o rows ascends key (c * span tree level) s.row h in
      ap (λ k. not (is_gt (l.order k key))) (child_key l rows stored level c s inside)
      ∙ subst (λ row. not (is_gt (l.order (l.key_of row) key)) ≡ true) s.read below

  -- and none behind it
  pub reaches-none : (level c : ℕ) → c * span tree level < length rows → rank l rows key ≤ c * span tree level
      → reaches l key (child_row l rows level c) ≡ false
  reaches-none level c inside h =
      let s = stands rows (c * span tree level) inside in
      let above = greater-from l o rows ascends key (c * span tree level) s.row h inside in
      ap (λ k. not (is_gt (l.order k key))) (child_key l rows stored level c s inside)
      ∙ (ap (λ r. not (is_gt r)) (subst (λ row. l.order (l.key_of row) key ≡ Greater) s.read above) ∙ not_greater)

  place-low : (level : ℕ) → place level / most_rows l.inner * most_rows l.inner ≤ place level
  place-low level = div-mul-le_self (place level) (most_rows l.inner)

  place-high : (level : ℕ) → place level < place level / most_rows l.inner * most_rows l.inner + most_rows l.inner
  place-high level = lt-div-mul-add (omega arith)

  pub row_at_place : (level : ℕ) → 0 < length rows → place level * span tree level < length rows
  row_at_place level some =
      let low = div-mul-le_self (rank l rows key - 1) (span tree level) in
      let le = rank-le l o rows ascends key in
      omega arith

  -- so the last row up to a key in a shown page is the page at the key's place
  pub place_in_page : (level at : ℕ) → at ≡ place level / most_rows l.inner
      → IsLastUpTo l key (level_rows l rows (suc level) at) (place level - at * most_rows l.inner)
  place_in_page level at e =
      let many = most_rows l.inner in
      let first = at * many in
      let size = level_size tree level in
      let n = min many (size - first) in
      let t = place level in
      let inside : t < size = place_inside tree a b level (rank l rows key) (rank-le l o rows ascends key) in
      let low : first ≤ t = rw e (place-low level) in
      let high : t < first + many = rw e (place-high level) in
      let m = span-pos tree a (omega arith) level in
      let all : length (map (child_row l rows level) (numbers first n)) ≡ n = length-map (numbers first n) (child_row l rows level) ∙ length-numbers first n in
      subst (λ ys. IsLastUpTo l key ys (t - first)) (sym (level_rows-children l rows stored level at))
      (record {
        inside = rw all (omega arith);
        up_to = λ i some h.
            let i_n : i < n = omega arith in
            let c = first + i in
            ap (reaches l key) (child_at l rows stored level first n i i_n)
            ∙ (let has_row = child_has_row tree a b level c (omega arith) (omega arith) in
            reaches-up_to level c has_row (child_reached (rank l rows key) (span tree level) c m (omega arith) (omega arith)));
        behind = λ i h j.
            let i_n : i < n = omega (arith, all, j) in
            let c = first + i in
            ap (reaches l key) (child_at l rows stored level first n i i_n)
            ∙ (let has_row = child_has_row tree a b level c (omega arith) (omega arith) in
            reaches-none level c has_row (child_passed (rank l rows key) (span tree level) c m (omega arith)));
      })
