-- The bytes of a page as it is written.
use Rattle.std.specs.Prelude.{ℕ, ◌+◌, ◌-◌, ◌/◌, ◌%◌, List, [], ◌∷◌, ◌++◌, length, replicate}
use Rattle.page_codec.specs.declared.pages.TheConstants.{PAGE_BYTES, HEADER_BYTES}

-- all rows, without gaps
unfoldable pub joined : List (List ℕ) → List ℕ
joined [] = []
joined (row ∷ rows) = row ++ joined rows

-- the bytes of a page with these rows and no others, as it is written
unfoldable pub page_of : (kind level : ℕ) → List (List ℕ) → List ℕ
page_of kind level rows =
    let count = length rows in
    kind ∷ level ∷ count / 256 ∷ count % 256 ∷ 0 ∷ 0 ∷ 0 ∷ 0 ∷ [] ++ joined rows
    ++ replicate (PAGE_BYTES - HEADER_BYTES - length (joined rows)) 0
