-- Which rows of a list a search of a key and a scan of closed ranges of keys give.
use Rattle.std.specs.Prelude.{List, [], ◌∷◌, Option, Some, None, if◌then◌else◌, ◌≡◌, ◌≢◌, Bool, not, ◌&&◌, filter, All, AllPairs}
use Rattle.std.specs.Ordering.{eq_by_cmp, is_gt}
use Rattle.btree_image.specs.Rows.{Layout}
use Rattle.std.specs.List.{list_any}
use Rattle.std.specs.declared.cmp.Ordering.{Ordering}
use Rattle.std.specs.declared.cmp.Ordering.TheVariants.{Less, Greater}

-- the row of a list that has a key
unfoldable pub row_with_key : {T K : Type 0} → Layout T K → List T → K → Option T
row_with_key l [] key = None
row_with_key l (row ∷ rows) key = if eq_by_cmp l.order (l.key_of row) key then Some row else row_with_key l rows key

-- closed ranges, each behind the one before it
pub record AreRanges {K : Type 0} (order : K → K → Ordering) (ranges : List (K × K)) : Type 0 where
  pub each : All (λ range. order range.0 range.1 ≢ Greater) ranges
  pub apart : AllPairs (λ a b. order a.1 b.0 ≡ Less) ranges

module _ {T K : Type 0} (l : Layout T K) where
  -- the key of a row lies in a range
  abbrev pub is_inside : K × K → T → Bool
  is_inside range row = not (is_gt (l.order range.0 (l.key_of row))) && not (is_gt (l.order (l.key_of row) range.1))

  module _ (list : List T) (ranges : List (K × K)) where
    -- the rows that a scan gives: those whose keys lie in a range, in the order of the list
    abbrev pub rows_met : List T
    rows_met = filter (λ row. list_any (λ range. is_inside range row) ranges) list
