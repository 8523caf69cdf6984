use Rattle.std.proofs.Common.{◌≡◌, ℕ, ◌<◌, ◌≤◌, Bool, true, false, not, List, length, get_or, arith, refl, ◌∙◌, ap, inl, inr}
use Rattle.std.proofs.lemmas.Bool.{cases_eq}
use Rattle.std.proofs.lemmas.List.Sums.{prefix_len_passes, prefix_len_stops, prefix_len-le-length}
use Rattle.std.specs.Ordering.{is_gt, ordering_reverse}
use Rattle.std.specs.declared.cmp.Ordering.{Ordering}
use Rattle.std.specs.declared.cmp.Ordering.TheVariants.{Less, Equal, Greater}
use Rattle.btree_image.specs.Rows.{Layout, Ascends}
use Rattle.btree_image.specs.Kinds.{IsKeyOrder}
use Rattle.btree_image.specs.Descent.{rank}

above : (o : Ordering) → not (is_gt o) ≡ false → o ≡ Greater
above Less h = cc
above Equal h = cc
above Greater h = refl

module _ {T K : Type 0} (l : Layout T K) (o : IsKeyOrder l.order) (rows : List T) (ascends : Ascends l rows) (key : K) where
  abbrev at_most : T → Bool
  at_most row = not (is_gt (l.order (l.key_of row) key))

  pub rank-le : rank l rows key ≤ length rows
  rank-le = prefix_len-le-length at_most rows

  -- the rows below the rank have keys that are at most the key
  pub at_most-below : (i : ℕ) (d : T) → i < rank l rows key → at_most (get_or rows i d) ≡ true
  at_most-below i d h = prefix_len_passes at_most rows i d h

  -- and those from the rank on have greater ones
  pub greater-from : (i : ℕ) (d : T) → rank l rows key ≤ i → i < length rows → l.order (l.key_of (get_or rows i d)) key ≡ Greater
  greater-from i d h inside =
      let first = above _ (prefix_len_stops at_most rows d (omega (arith, h))) in
      elim (cases_eq i (rank l rows key)) [
        | inl same ↦ rw same first
        | inr apart ↦ later first (ascends (rank l rows key) i d (omega (arith, h, apart)) inside)
      ]
    where
      later : l.order (l.key_of (get_or rows (rank l rows key) d)) key ≡ Greater
          → l.order (l.key_of (get_or rows (rank l rows key) d)) (l.key_of (get_or rows i d)) ≡ Less
          → l.order (l.key_of (get_or rows i d)) key ≡ Greater
      later g s =
          let back = o.total.antisymm key (l.key_of (get_or rows (rank l rows key) d)) ∙ ap ordering_reverse g in
          o.total.antisymm (l.key_of (get_or rows i d)) key ∙ ap ordering_reverse (o.total.trans key _ _ back s)
