-- A page is 4,096 bytes: a header of 8 (kind, level, the number of rows as two bytes, four bytes of 0), and the rows
-- without gaps. What stands past the last row is 0 when written, and is not looked at.
use Rattle.std.specs.Prelude.{◌≡◌, ℕ, zero, suc, ◌+◌, ◌-◌, ◌*◌, ◌/◌, ◌<◌, ◌≤◌, List, [], ◌∷◌, take, drop, slice_index}
use Rattle.page_codec.specs.declared.kinds.TheConstants.{WIDTHS}
use Rattle.page_codec.specs.declared.pages.TheConstants.{PAGE_BYTES, HEADER_BYTES, KIND_AT, LEVEL_AT, COUNT_AT, RESERVED_AT}

-- how many bytes a row of a kind of page takes, 0 where no page has that kind
abbrev pub row_width : ℕ → ℕ
row_width kind = slice_index WIDTHS kind

-- how many rows a page of a kind has at most
abbrev pub most_rows : ℕ → ℕ
most_rows kind = (PAGE_BYTES - HEADER_BYTES) / row_width kind

-- the fields of a header
abbrev pub kind_of : List ℕ → ℕ
kind_of bytes = slice_index bytes KIND_AT

abbrev pub level_of : List ℕ → ℕ
level_of bytes = slice_index bytes LEVEL_AT

abbrev pub row_count : List ℕ → ℕ
row_count bytes = slice_index bytes COUNT_AT * 256 + slice_index bytes (COUNT_AT + 1)

-- so many rows of that width, one after the other
unfoldable pub rows_in : (width count : ℕ) → List ℕ → List (List ℕ)
rows_in width zero bytes = []
rows_in width (suc n) bytes = take width bytes ∷ rows_in width n (drop width bytes)

-- the rows on a page, by its header
abbrev pub rows_on : List ℕ → List (List ℕ)
rows_on bytes = rows_in (row_width (kind_of bytes)) (row_count bytes) (drop HEADER_BYTES bytes)

-- a header that a page of this kind and level may have
pub record IsPage (kind level : ℕ) (bytes : List ℕ) : Type 0 where
  pub of_kind : kind_of bytes ≡ kind
  pub of_level : level_of bytes ≡ level
  pub fits : row_count bytes ≤ most_rows kind
  pub reserved : (k : ℕ) → RESERVED_AT ≤ k → k < HEADER_BYTES → slice_index bytes k ≡ 0

-- a page that shows these rows; what stands behind the last row is not looked at
pub record ShowsRows (kind level : ℕ) (rows : List (List ℕ)) (bytes : List ℕ) : Type 0 where
  pub page : IsPage kind level bytes
  pub all : rows_on bytes ≡ rows
