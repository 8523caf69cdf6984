-- The text of rows, one row more.
use Rattle.std.specs.Prelude.{◌≡◌, ℕ, ◌+◌, ◌<◌, List, [], ◌∷◌, ◌++◌, length, take, drop}
use Rattle.std.proofs.Common.{ap, sym, ◌∙◌, get_or, refl, append_assoc}
use Rattle.std.proofs.lemmas.List.{take_more, take-append-drop, append-nil}
use Rattle.geo_base.specs.declared.points.Row.{Row}
use Rattle.table_model.specs.Text.{row_text, rows_text}

pub rows_text-append : (xs ys : List Row) → rows_text (xs ++ ys) ≡ rows_text xs ++ rows_text ys
rows_text-append [] ys = refl
rows_text-append (x ∷ xs) ys = ap (λ t. row_text x ++ t) (rows_text-append xs ys) ∙ sym (append_assoc (row_text x) (rows_text xs) (rows_text ys))

pub rows_text-more : (rows : List Row) (i : ℕ) (row : Row) → i < length rows → row ≡ get_or rows i row → rows_text (take (i + 1) rows) ≡ rows_text (take i rows) ++ row_text row
rows_text-more rows i row within is =
    ap rows_text (take_more rows i row within)
    ∙ rows_text-append (take i rows) (get_or rows i row ∷ [])
    ∙ ap (λ t. rows_text (take i rows) ++ t) (append-nil (row_text (get_or rows i row)) ∙ ap row_text (sym is))

pub rows_text-all : (rows : List Row) (i : ℕ) (row : Row) → i < length rows → row ≡ get_or rows i row
    → (rows_text (take i rows) ++ row_text row) ++ rows_text (drop (i + 1) rows) ≡ rows_text rows
rows_text-all rows i row within is =
    ap (λ t. t ++ rows_text (drop (i + 1) rows)) (sym (rows_text-more rows i row within is))
    ∙ sym (rows_text-append (take (i + 1) rows) (drop (i + 1) rows))
    ∙ ap rows_text (take-append-drop (i + 1) rows)
