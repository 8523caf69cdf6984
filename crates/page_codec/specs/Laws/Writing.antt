-- How an image is written: rows are put on a page one after the other.
use Rattle.std.proofs.Common.{◌≡◌, ℕ, zero, suc, ◌+◌, ◌-◌, ◌<◌, ◌≤◌, min, slice_get, Some, List, [], ◌∷◌, ◌++◌, take, drop, map, length, get_or, arith, refl, sym, ◌∙◌, ap, inl, inr, length-drop, get_or-drop}
use Rattle.std.proofs.lemmas.Bool.{cases_lt}
use Rattle.std.proofs.lemmas.List.{take_more, map-append}
use Rattle.page_codec.specs.Page.{most_rows, kind_of, row_count, rows_in, rows_on}
use Rattle.page_codec.specs.Written.{page_of}
use Rattle.page_codec.specs.Adding.{AllOfWidth}
use Rattle.page_codec.specs.Laws.Written.{row_count-page_of}

length-rows_in : (w n : ℕ) (xs : List ℕ) → length (rows_in w n xs) ≡ n
unfolding rows_in
length-rows_in w zero xs = refl
length-rows_in w (suc n) xs = ap suc (length-rows_in w n (drop w xs))

pub length-rows_on : (bytes : List ℕ) → length (rows_on bytes) ≡ row_count bytes
length-rows_on bytes = length-rows_in _ _ _

pub take_of_length-le : {T : Type 0} (xs : List T) (n : ℕ) → length xs ≤ n → take n xs ≡ xs
take_of_length-le [] zero h = refl
take_of_length-le [] (suc n) h = refl
take_of_length-le (x ∷ xs) zero h = absurd (omega arith)
take_of_length-le (x ∷ xs) (suc n) h = ap (λ ys. x ∷ ys) (take_of_length-le xs n (omega arith))

pub kind_of-page_of : (kind level : ℕ) (rows : List (List ℕ)) → kind_of (page_of kind level rows) ≡ kind
unfolding page_of
kind_of-page_of kind level rows = refl

pub wide-snoc : (width : ℕ) (rows : List (List ℕ)) (row : List ℕ) → AllOfWidth width rows → length row ≡ width → AllOfWidth width (rows ++ row ∷ [])
wide-snoc width [] row wide e = (e, tt)
wide-snoc width (first ∷ rows) row wide e = (wide.0, wide-snoc width rows row wide.1 e)

module _ {T : Type 0} (f : T → List ℕ) (rows : List T) where
  pub one_more_row : (from i : ℕ) (row : T) → from ≤ i → i < length rows → row ≡ get_or rows i row
      → map f (take (i + 1 - from) (drop from rows)) ≡ map f (take (i - from) (drop from rows)) ++ f row ∷ []
  one_more_row from i row h inside is =
      let e : i + 1 - from ≡ i - from + 1 = omega arith in
      let here : from + (i - from) ≡ i = omega arith in
      let long = length-drop from rows in
      let row_is : get_or (drop from rows) (i - from) row ≡ row = get_or-drop from rows (i - from) row ∙ (ap (λ n. get_or rows n row) here ∙ sym is) in
      rw e (ap (map f) (take_more (drop from rows) (i - from) row (omega arith)) ∙ (map-append f (take (i - from) (drop from rows)) (get_or (drop from rows) (i - from) row ∷ [])
      ∙ ap (λ r. map f (take (i - from) (drop from rows)) ++ f r ∷ []) row_is))

  pub all_rows : (from w i : ℕ) → i ≡ min (from + w) (length rows) → from ≤ length rows → take (i - from) (drop from rows) ≡ take w (drop from rows)
  all_rows from w i e h = elim (cases_lt (length rows) (from + w)) [
    | inr le ↦ ap (λ n. take n (drop from rows)) (omega arith)
    | inl lt ↦ (
        let long = length-drop from rows in
        take_of_length-le (drop from rows) (i - from) (omega arith) ∙ sym (take_of_length-le (drop from rows) w (omega arith)))
  ]

-- a row fits where so many were put so far
pub room : (kind level w n : ℕ) (rows : List (List ℕ)) (page : List ℕ) → page ≡ page_of kind level rows → length rows ≡ n → n < most_rows kind
    → row_count page < most_rows (kind_of page)
room kind level w n rows page e count h =
    let k : kind_of page ≡ kind = ap kind_of e ∙ kind_of-page_of kind level rows in
    let c : row_count page ≡ length rows = ap row_count e ∙ row_count-page_of kind level rows in
    rw (k, c, count) h

-- what stands at a place within a list
pub record Stands {T : Type 0} (rows : List T) (i : ℕ) : Type 0 where
  pub row : T
  pub got : slice_get rows i ≡ Some row
  pub read : get_or rows i row ≡ row

pub stands : {T : Type 0} (rows : List T) (i : ℕ) → i < length rows → Stands rows i
stands [] i h = absurd (omega arith)
stands (x ∷ xs) zero h = record { row = x; got = refl; read = refl }
stands (x ∷ xs) (suc i) h = let s = stands xs i (omega arith) in record { row = s.row; got = s.got; read = s.read }

pub get_at : {T : Type 0} (rows : List T) (i : ℕ) (row : T) → i < length rows → row ≡ get_or rows i row → slice_get rows i ≡ Some row
get_at [] i row h e = absurd (omega arith)
get_at (x ∷ xs) zero row h e = ap Some (sym e)
get_at (x ∷ xs) (suc i) row h e = get_at xs i row (omega arith) e
