-- Which rows a page may have, and the page with one more.
use Rattle.std.specs.Prelude.{◌≡◌, ℕ, ◌+◌, ◌*◌, ◌/◌, ◌%◌, ◌<◌, List, [], ◌∷◌, ◌++◌, length, take, drop, slice_set}
use Rattle.page_codec.specs.declared.pages.TheConstants.{HEADER_BYTES, COUNT_AT}
use Rattle.page_codec.specs.Page.{row_width, row_count}

abbrev pub IsKind : ℕ → Type 0
IsKind kind = 0 < row_width kind

-- each row has that many bytes
abbrev pub AllOfWidth : ℕ → List (List ℕ) → Type 0
AllOfWidth width [] = Unit {0}
AllOfWidth width (row ∷ rows) = (length row ≡ width) × AllOfWidth width rows

-- the page with one more row: its count rises, the row stands behind the others, and all else stays
unfoldable pub with_row : List ℕ → List ℕ → List ℕ
with_row bytes row =
    let count = row_count bytes in
    let at = HEADER_BYTES + count * length row in
    slice_set (slice_set (take at bytes ++ row ++ drop (at + length row) bytes) COUNT_AT ((count + 1) / 256)) (COUNT_AT + 1) ((count + 1) % 256)
