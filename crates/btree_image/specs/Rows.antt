-- How the rows of a tree are ordered and stored.
use Rattle.std.specs.Prelude.{◌≡◌, ℕ, List, Option, Some, length, take, AllPairs}
use Rattle.std.specs.declared.cmp.Ordering.{Ordering}
use Rattle.std.specs.declared.cmp.Ordering.TheVariants.{Less}
use Rattle.page_codec.specs.Page.{row_width}

-- the key of a row, the order of keys, the bytes of a row on a leaf and of a key on a page above, and the kinds of both pages
pub record Layout (T K : Type 0) : Type 0 where
  pub key_of : T → K
  pub order : K → K → Ordering
  pub to_bytes : T → List ℕ
  pub of_bytes : List ℕ → Option T
  pub key_to_bytes : K → List ℕ
  pub key_of_bytes : List ℕ → K
  pub leaf : ℕ
  pub inner : ℕ
  pub key_width : ℕ

-- a row that is found again in its bytes, which begin with its key
pub record IsStored {T K : Type 0} (l : Layout T K) (row : T) : Type 0 where
  pub row_length : length (l.to_bytes row) ≡ row_width l.leaf
  pub row_back : l.of_bytes (l.to_bytes row) ≡ Some row
  pub key_first : take l.key_width (l.to_bytes row) ≡ l.key_to_bytes (l.key_of row)
  pub key_length : length (l.key_to_bytes (l.key_of row)) ≡ l.key_width
  pub key_back : l.key_of_bytes (l.key_to_bytes (l.key_of row)) ≡ l.key_of row

-- the rows ascend strictly by key
abbrev pub Ascends : {T K : Type 0} → Layout T K → List T → Type 0
Ascends l rows = AllPairs (λ a b. l.order (l.key_of a) (l.key_of b) ≡ Less) rows
