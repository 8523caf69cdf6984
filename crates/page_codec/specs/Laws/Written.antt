-- No public contract needs this file: laws of pages as they are written, for the crates above.
use Rattle.std.proofs.Common.{◌≡◌, ℕ, zero, suc, ◌-◌, ◌*◌, ◌/◌, ◌%◌, ◌<◌, ◌≤◌, List, [], ◌∷◌, ◌++◌, length, replicate, get_or, arith, refl, ◌∙◌, ap, append_assoc, length-append}
use Rattle.std.proofs.lemmas.List.{take_at, drop_at}
use Rattle.page_codec.specs.Page.{row_width, most_rows, row_count, rows_in, rows_on, ShowsRows}
use Rattle.page_codec.specs.Written.{joined, page_of}
use Rattle.page_codec.specs.Adding.{AllOfWidth}

pub length-joined : (width : ℕ) (rows : List (List ℕ)) → AllOfWidth width rows → length (joined rows) ≡ length rows * width
unfolding joined
length-joined width [] wide = omega arith
length-joined width (row ∷ rows) wide = omega (arith, length-append row (joined rows), length-joined width rows wide.1, wide.0)

-- rows that were joined are found again
pub rows_in-joined : (width : ℕ) (rows : List (List ℕ)) (rest : List ℕ) → AllOfWidth width rows
    → rows_in width (length rows) (joined rows ++ rest) ≡ rows
unfolding rows_in joined
rows_in-joined width [] rest wide = refl
rows_in-joined width (row ∷ rows) rest wide =
    let e : row ++ joined rows ++ rest ≡ row ++ (joined rows ++ rest) = append_assoc row (joined rows) rest in
    rw (e, take_at row (joined rows ++ rest) width wide.0, drop_at row (joined rows ++ rest) width wide.0, rows_in-joined width rows rest wide.1) refl

zeros_behind_four : (a b c d : ℕ) (rest : List ℕ) (k : ℕ) → 4 ≤ k → k < 8 → get_or (a ∷ b ∷ c ∷ d ∷ 0 ∷ 0 ∷ 0 ∷ 0 ∷ rest) k 0 ≡ 0
zeros_behind_four a b c d rest zero low high = absurd (omega arith)
zeros_behind_four a b c d rest (suc zero) low high = absurd (omega arith)
zeros_behind_four a b c d rest (suc (suc zero)) low high = absurd (omega arith)
zeros_behind_four a b c d rest (suc (suc (suc zero))) low high = absurd (omega arith)
zeros_behind_four a b c d rest (suc (suc (suc (suc zero)))) low high = refl
zeros_behind_four a b c d rest (suc (suc (suc (suc (suc zero))))) low high = refl
zeros_behind_four a b c d rest (suc (suc (suc (suc (suc (suc zero)))))) low high = refl
zeros_behind_four a b c d rest (suc (suc (suc (suc (suc (suc (suc zero))))))) low high = refl
zeros_behind_four a b c d rest (suc (suc (suc (suc (suc (suc (suc (suc k)))))))) low high = absurd (omega arith)

module _ (kind level : ℕ) (rows : List (List ℕ)) where
  pub row_count-page_of : row_count (page_of kind level rows) ≡ length rows
  unfolding page_of
  row_count-page_of = omega arith

  rows_on-page_of : AllOfWidth (row_width kind) rows → rows_on (page_of kind level rows) ≡ rows
  unfolding page_of
  rows_on-page_of wide =
      ap (λ n. rows_in (row_width kind) n (joined rows ++ replicate (4096 - 8 - length (joined rows)) 0)) row_count-page_of
      ∙ rows_in-joined (row_width kind) rows _ wide

  reserved-page_of : (k : ℕ) → 4 ≤ k → k < 8 → get_or (page_of kind level rows) k 0 ≡ 0
  unfolding page_of
  reserved-page_of k low high = zeros_behind_four kind level (length rows / 256) (length rows % 256) _ k low high

-- a page that was written with these rows shows them
pub ShowsRows-page_of : (kind level : ℕ) (rows : List (List ℕ)) → AllOfWidth (row_width kind) rows → length rows ≤ most_rows kind
    → ShowsRows kind level rows (page_of kind level rows)
unfolding page_of
ShowsRows-page_of kind level rows wide fits = record {
  page = record {
    of_kind = refl;
    of_level = refl;
    fits = rw (row_count-page_of kind level rows) fits;
    reserved = reserved-page_of kind level rows;
  };
  all = rows_on-page_of kind level rows wide;
}
