-- The row of a key in a leaf.
use Rattle.std.proofs.Common.{◌≡◌, ℕ, zero, suc, ◌+◌, ◌-◌, ◌*◌, ◌/◌, ◌<◌, ◌≤◌, min, Bool, true, false, not, List, [], ◌∷◌, take, drop, length, get_or, Some, None, All, arith, refl, sym, ◌∙◌, ap, inl, inr, ◌⊎◌, length-take, length-drop}
use Rattle.std.proofs.Math.Nat.{div-mul-le_self, lt-div-mul-add}
use Rattle.std.proofs.lemmas.Bool.{cases_lt}
use Rattle.std.specs.Cmp.{alike_right}
use Rattle.std.specs.Ordering.{is_gt, is_eq, eq_by_cmp}
use Rattle.std.specs.declared.cmp.Ordering.{Ordering}
use Rattle.std.specs.declared.cmp.Ordering.TheVariants.{Less, Equal, Greater}
use Rattle.page_codec.specs.Page.{most_rows}
use Rattle.btree_image.specs.Rows.{Layout, IsStored, Ascends}
use Rattle.btree_image.specs.Kinds.{IsKeyOrder}
use Rattle.btree_image.specs.Given.{row_with_key}
use Rattle.btree_image.specs.Image.{shape_of}
use Rattle.btree_image.specs.Descent.{rank, place_of_key}
use Rattle.tree_shape.specs.Laws.Covers.{span-zero}
use Rattle.btree_image.proofs.Rank.{rank-le, at_most-below, greater-from}
use Rattle.page_codec.specs.Laws.Writing.{Stands}

module _ {T K : Type 0} (l : Layout T K) (key : K) where
  abbrev is_key : T → Bool
  is_key row = eq_by_cmp l.order (l.key_of row) key

  -- none where no row has the key
  pub row_with_key-none : (xs : List T) → ((i : ℕ) (d : T) → i < length xs → is_key (get_or xs i d) ≡ false) → row_with_key l xs key ≡ None
  unfolding row_with_key
  row_with_key-none [] h = refl
  row_with_key-none (x ∷ xs) h = rw (h 0 x (omega arith)) (row_with_key-none xs (λ i d q. h (suc i) d (omega arith)))

  -- the first that has it
  pub row_with_key-first : (xs : List T) (i : ℕ) (s : Stands xs i) → is_key s.row ≡ true → ((j : ℕ) (d : T) → j < i → is_key (get_or xs j d) ≡ false)
      → i < length xs → row_with_key l xs key ≡ Some s.row
  unfolding row_with_key
  row_with_key-first [] i s h before inside = absurd (omega arith)
  row_with_key-first (x ∷ xs) zero s h before inside =
      let e : x ≡ s.row = s.read in
      rw (ap is_key e ∙ h) (ap Some e)
  row_with_key-first (x ∷ xs) (suc i) s h before inside =
      rw (before 0 x (omega arith)) (row_with_key-first xs i (record { row = s.row; got = s.got; read = s.read }) h (λ j d q. before (suc j) d (omega arith)) (omega arith))

same_at : {T : Type 0} (xs : List T) (i : ℕ) (d : T) (s : Stands xs i) → i < length xs → get_or xs i d ≡ s.row
same_at [] i d s h = absurd (omega arith)
same_at (x ∷ xs) zero d s h = s.read
same_at (x ∷ xs) (suc i) d s h = same_at xs i d (record { row = s.row; got = s.got; read = s.read }) (omega arith)

at_most-cases : (o : Ordering) → not (is_gt o) ≡ true → (o ≡ Less) ⊎ (o ≡ Equal)
at_most-cases Less h = inl refl
at_most-cases Equal h = inr refl
at_most-cases Greater h = cc

less_isnt_equal : (o : Ordering) → o ≡ Less → is_eq o ≡ false
less_isnt_equal o e = rw e refl

greater_isnt_equal : (o : Ordering) → o ≡ Greater → is_eq o ≡ false
greater_isnt_equal o e = rw e refl

module _ {T K : Type 0} (l : Layout T K) (o : IsKeyOrder l.order) (rows : List T) (ascends : Ascends l rows)
    (stored : All (IsStored l) rows) (key : K) where
  abbrev last : ℕ
  last = rank l rows key - 1

  -- a row before another one below the rank isn't the key's
  not_before : (i j : ℕ) (d : T) → i < j → j < rank l rows key → eq_by_cmp l.order (l.key_of (get_or rows i d)) key ≡ false
  not_before i j d h below =
      let le = rank-le l o rows ascends key in
      let less = ascends i j d h (omega arith) in
      less_isnt_equal _ (elim (at_most-cases _ (at_most-below l o rows ascends key j d below)) [
        | inl lt ↦ o.total.trans _ _ _ less lt
        | inr eq ↦ sym (alike_right o.total _ _ _ eq) ∙ less
      ])

  module _ (n : ℕ) (n_is : n ≡ last) (s : Stands rows n) (inside : n < length rows) where
    -- the row of the key is the last up to it, if that has the key
    pub found-last : eq_by_cmp l.order (l.key_of s.row) key ≡ true → row_with_key l rows key ≡ Some s.row
    found-last h = row_with_key-first l key rows n s h (λ j d q. not_before j n d q (omega arith)) inside

    pub found-none : eq_by_cmp l.order (l.key_of s.row) key ≡ false → row_with_key l rows key ≡ None
    found-none h = row_with_key-none l key rows (λ i d q.
        elim (cases_lt i n) [
          | inl lt ↦ not_before i n d lt (omega arith)
          | inr ge ↦ elim (cases_lt n i) [
            | inl gt ↦ greater_isnt_equal _ (greater-from l o rows ascends key i d (omega arith) q)
            | inr le ↦ (
                let e : i ≡ n = omega arith in
                rw e (ap (λ row. eq_by_cmp l.order (l.key_of row) key) (same_at rows n d s inside) ∙ h))
          ]
        ])

  module _ (a : 1 ≤ most_rows l.leaf) (at : ℕ) (e : at ≡ place_of_key l rows key 0) where
    abbrev w : ℕ
    w = most_rows l.leaf

    abbrev part : List T
    part = take w (drop (at * w) rows)

    at-is : at ≡ last / w
    at-is = e ∙ ap (λ n. last / n) (span-zero (shape_of l (length rows)))

    pub leaf-low : at * w ≤ last
    leaf-low = rw at-is (div-mul-le_self last w)

    pub leaf-high : last < at * w + w
    leaf-high = rw at-is (lt-div-mul-add a)

    pub part-length : length part ≡ min w (length rows - at * w)
    part-length = length-take w (drop (at * w) rows) ∙ ap (min w) (length-drop (at * w) rows)
