-- No public contract needs this file: the steps of the readers.
use Rattle.std.specs.Prelude.{◌≡◌, ℕ, ◌<◌, ◌≤◌, Bool, true, false, not, List, [], take, length, slice_index_or, Option, None, if◌then◌else◌}
use Rattle.std.specs.Ordering.{is_gt, is_lt, eq_by_cmp}
use Rattle.btree_image.specs.Rows.{Layout}

-- the key at the front of a row is at most that key
abbrev pub reaches : {T K : Type 0} → Layout T K → K → List ℕ → Bool
reaches l key row = not (is_gt (l.order (l.key_of_bytes (take l.key_width row)) key))

-- the key at the front of a row is below that key
abbrev pub precedes : {T K : Type 0} → Layout T K → K → List ℕ → Bool
precedes l key row = is_lt (l.order (l.key_of_bytes (take l.key_width row)) key)

-- the last row whose key is at most that key, or the first row
pub record IsLastUpTo {T K : Type 0} (l : Layout T K) (key : K) (rows : List (List ℕ)) (place : ℕ) : Type 0 where
  pub inside : place < length rows
  pub up_to : (i : ℕ) → 1 ≤ i → i ≤ place → reaches l key (slice_index_or rows i []) ≡ true
  pub behind : (i : ℕ) → place < i → i < length rows → reaches l key (slice_index_or rows i []) ≡ false

-- the row in these bytes, if they begin with that key
abbrev pub row_at : {T K : Type 0} → Layout T K → K → List ℕ → Option T
row_at l key bytes = if eq_by_cmp l.order (l.key_of_bytes (take l.key_width bytes)) key then l.of_bytes bytes else None
