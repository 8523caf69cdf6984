-- Rows that are cut out of a page, and a row that is put on one.
use Rattle.std.proofs.Common.{◌≡◌, ℕ, zero, suc, ◌+◌, ◌-◌, ◌*◌, ◌/◌, ◌%◌, ◌<◌, ◌≤◌, List, [], ◌∷◌, ◌++◌, length, take, drop, replicate, get_or, set, arith, refl, sym, ◌∙◌, ap, append_assoc, length-append, length-drop, drop-drop, append-nil}
use Rattle.std.proofs.lemmas.List.{take_at, drop_at, drop-replicate, drop-take, drop-append-le, drop-set-lt, get_or-set_same, get_or-set_other, get_or_append_left, get_or-take, length-set, length-take-le}
use Rattle.std.proofs.Math.Seq.{take-add}
use Rattle.std.proofs.Math.Nat.{mul-le-mul_left}
use Rattle.page_codec.specs.Page.{row_width, most_rows, kind_of, row_count, rows_in, rows_on}
use Rattle.page_codec.specs.Written.{joined, page_of}
use Rattle.page_codec.specs.Adding.{with_row, AllOfWidth}
use Rattle.page_codec.specs.Laws.Written.{length-joined, row_count-page_of}

-- room for one row more
pub place_fits : (n width most : ℕ) → 0 < width → n < most / width → suc n * width ≤ most
place_fits n width most some h =
    let m : width * suc n ≤ width * (most / width) = mul-le-mul_left width h in
    omega arith

-- the row at a place
get_or-rows_in : (width n : ℕ) (xs : List ℕ) (i : ℕ) (d : List ℕ) → i < n → get_or (rows_in width n xs) i d ≡ take width (drop (i * width) xs)
unfolding rows_in
get_or-rows_in width zero xs i d h = absurd (omega arith)
get_or-rows_in width (suc n) xs zero d h = let z : 0 * width ≡ 0 = omega arith in rw z refl
get_or-rows_in width (suc n) xs (suc i) d h =
    let e : width + i * width ≡ suc i * width = omega arith in
    get_or-rows_in width n (drop width xs) i d (omega arith) ∙ ap (take width) (drop-drop (i * width) width xs ∙ ap (λ m. drop m xs) e)

-- a row's bytes, cut out of the page at once or row by row
pub cut_at_once : (page : List ℕ) (i w n width at : ℕ) → i < n → width ≡ w → at ≡ i
    → take (8 + at * width + width - (8 + at * width)) (drop (8 + at * width) page) ≡ get_or (rows_in w n (drop 8 page)) i []
cut_at_once page i w n width at h e f =
    let one : 8 + i * w + w - (8 + i * w) ≡ w = omega arith in
    rw (e, f, one) (sym (get_or-rows_in w n (drop 8 page) i [] h ∙ ap (take w) (drop-drop (i * w) 8 page)))

-- a part that was replaced, as three parts joined
pub replaced : (xs ys : List ℕ) (a n : ℕ) → take a xs ++ (ys ++ drop (a + n - a) (drop a xs)) ≡ take a xs ++ ys ++ drop (a + n) xs
replaced xs ys a n =
    let e : a + (a + n - a) ≡ a + n = omega arith in
    rw (drop-drop, e) (sym (append_assoc (take a xs) ys (drop (a + n) xs)))

-- rows are the same where width, count and bytes are
same_rows : (w v c d : ℕ) (xs ys : List ℕ) → w ≡ v → c ≡ d → xs ≡ ys → rows_in w c xs ≡ rows_in v d ys
same_rows w v c d xs ys e f g = cc

-- a row that stands behind n others is the last of n + 1
rows_in_more : (w n : ℕ) (body row rest : List ℕ) → length row ≡ w → n * w ≤ length body
    → rows_in w (suc n) (take (n * w) body ++ (row ++ rest)) ≡ rows_in w n body ++ row ∷ []
unfolding rows_in
rows_in_more w zero body row rest e h =
    let z : 0 * w ≡ 0 = omega arith in
    let one : List ℕ → List (List ℕ) = λ ys. ys ∷ [] in
    let none : ℕ → List (List ℕ) = λ k. take w (take k body ++ (row ++ rest)) ∷ [] in
    ap none z ∙ ap one (take_at row rest w e)
rows_in_more w (suc n) body row rest e h =
    let left : List ℕ = take (n * w) (drop w body) ++ (row ++ rest) in
    let many : suc n * w ≡ w + n * w = omega arith in
    let long : length (take w body) ≡ w = length-take-le w body (omega arith) in
    let joins : ℕ → List ℕ = λ k. take k body ++ (row ++ rest) in
    let behind : List ℕ → List ℕ = λ ys. ys ++ (row ++ rest) in
    let apart : take (suc n * w) body ++ (row ++ rest) ≡ take w body ++ left =
    ap joins many ∙ ap behind (take-add w (n * w) body) ∙ append_assoc (take w body) (take (n * w) (drop w body)) (row ++ rest) in
    let all : List ℕ → List (List ℕ) = λ ys. rows_in w (suc (suc n)) ys in
    let first : List ℕ → List (List ℕ) = λ ys. ys ∷ rows_in w (suc n) (drop w (take w body ++ left)) in
    let others : List ℕ → List (List ℕ) = λ ys. take w body ∷ rows_in w (suc n) ys in
    let onto : List (List ℕ) → List (List ℕ) = λ rows. take w body ∷ rows in
    ap all apart ∙ ap first (take_at (take w body) left w long) ∙ ap others (drop_at (take w body) left w long)
    ∙ ap onto (rows_in_more w n (drop w body) row rest e (omega (arith, length-drop w body)))

-- what stands before the row stays
before_stays : (page row rest : List ℕ) (at k : ℕ) → k < at → at ≤ length page → get_or (take at page ++ row ++ rest) k 0 ≡ get_or page k 0
before_stays page row rest at k below fits =
    let front : length (take at page) ≡ at = length-take-le at page fits in
    get_or_append_left (take at page ++ row) rest 0 k (omega (arith, length-append (take at page) row))
    ∙ get_or_append_left (take at page) row 0 k (omega arith) ∙ get_or-take at page k 0 below

-- the rows of a page with one more row
pub rows_on-with_row : (page row : List ℕ) → 0 < row_width (kind_of page) → length row ≡ row_width (kind_of page)
    → row_count page < most_rows (kind_of page) → length page ≡ 4096 → rows_on (with_row page row) ≡ rows_on page ++ row ∷ []
unfolding with_row
rows_on-with_row page row some wide room whole =
    let w : ℕ = row_width (kind_of page) in
    let n : ℕ = row_count page in
    let many : suc n * w ≤ 4088 = place_fits n w 4088 some room in
    let at : ℕ = 8 + n * length row in
    let used : n * length row ≡ n * w = ap (λ k. n * k) wide in
    let fits : at + length row ≤ length page = omega arith in
    let rest : List ℕ = drop (at + length row) page in
    let flat : List ℕ = take at page ++ row ++ rest in
    let long : 8 ≤ length flat = omega (arith, length-append (take at page ++ row) rest, length-append (take at page) row, length-take-le at page (omega arith)) in
    let high : ℕ = (n + 1) / 256 in
    let low : ℕ = (n + 1) % 256 in
    let counted : List ℕ = set flat 2 high in
    let kept : kind_of (set counted 3 low) ≡ kind_of page =
    get_or-set_other counted 3 0 low 0 (omega arith) ∙ get_or-set_other flat 2 0 high 0 (omega arith) ∙ before_stays page row rest at 0 (omega arith) (omega arith) in
    let first : get_or (set counted 3 low) 2 0 ≡ high =
    get_or-set_other counted 3 2 low 0 (omega arith) ∙ get_or-set_same flat 2 high 0 (omega arith) in
    let second : get_or (set counted 3 low) 3 0 ≡ low = get_or-set_same counted 3 low 0 (omega (arith, length-set flat 2 high)) in
    let count : row_count (set counted 3 low) ≡ suc n = omega arith in
    let body : drop 8 (set counted 3 low) ≡ take (n * w) (drop 8 page) ++ (row ++ rest) =
    drop-set-lt 8 counted 3 low (omega arith) ∙ drop-set-lt 8 flat 2 high (omega arith) ∙ ap (drop 8) (append_assoc (take at page) row rest)
    ∙ drop-append-le 8 (take at page) (row ++ rest) (omega (arith, length-take-le at page (omega arith)))
    ∙ ap (λ ys. ys ++ (row ++ rest)) (drop-take 8 (n * length row) page ∙ ap (λ k. take k (drop 8 page)) used) in
    same_rows (row_width (kind_of (set counted 3 low))) w (row_count (set counted 3 low)) (suc n) (drop 8 (set counted 3 low)) _ (ap row_width kept) count body
    ∙ rows_in_more w n (drop 8 page) row rest wide (omega (arith, length-drop 8 page))

joined-append : (xs ys : List (List ℕ)) → joined (xs ++ ys) ≡ joined xs ++ joined ys
unfolding joined
joined-append [] ys = refl
joined-append (x ∷ xs) ys = ap (λ t. x ++ t) (joined-append xs ys) ∙ sym (append_assoc x (joined xs) (joined ys))

joined-one : (row : List ℕ) → joined (row ∷ []) ≡ row
unfolding joined
joined-one row = append-nil row

-- a row behind a header with room
with_row-shape : (k l a b : ℕ) (body tail row : List ℕ) (n : ℕ) → a * 256 + b ≡ n → length body ≡ n * length row
    → with_row (k ∷ l ∷ a ∷ b ∷ 0 ∷ 0 ∷ 0 ∷ 0 ∷ (body ++ tail)) row
    ≡ k ∷ l ∷ (n + 1) / 256 ∷ (n + 1) % 256 ∷ 0 ∷ 0 ∷ 0 ∷ 0 ∷ (body ++ row ++ drop (length row) tail)
unfolding with_row
with_row-shape k l a b body tail row n count long =
    let front : List ℕ = k ∷ l ∷ a ∷ b ∷ 0 ∷ 0 ∷ 0 ∷ 0 ∷ body in
    let bytes : List ℕ = k ∷ l ∷ a ∷ b ∷ 0 ∷ 0 ∷ 0 ∷ 0 ∷ (body ++ tail) in
    let len : length front ≡ 8 + n * length row = omega (arith, long) in
    let at : take (8 + n * length row) bytes ≡ front = take_at front tail (8 + n * length row) len in
    let past : drop (8 + n * length row + length row) bytes ≡ drop (length row) tail =
    sym (drop-drop (length row) (8 + n * length row) bytes) ∙ ap (drop (length row)) (drop_at front tail (8 + n * length row) len) in
    rw (count, at, past) refl

-- a row put on a page as it is written
pub with_row-page_of : (kind level : ℕ) (rows : List (List ℕ)) (row : List ℕ) → 0 < row_width kind → AllOfWidth (row_width kind) rows
    → length row ≡ row_width kind → length rows < most_rows kind → with_row (page_of kind level rows) row ≡ page_of kind level (rows ++ row ∷ [])
unfolding page_of with_row
with_row-page_of kind level rows row some wide e room =
    let w : ℕ = row_width kind in
    let n : ℕ = length rows in
    let many : suc n * w ≤ 4088 = place_fits n w 4088 some room in
    let used : length (joined rows) ≡ n * w = length-joined w rows wide in
    let digits : n / 256 * 256 + n % 256 ≡ n = omega arith in
    let more : length (rows ++ row ∷ []) ≡ n + 1 = omega (arith, length-append rows (row ∷ [])) in
    let all : joined (rows ++ row ∷ []) ≡ joined rows ++ row = joined-append rows (row ∷ []) ∙ ap (λ t. joined rows ++ t) (joined-one row) in
    let left : 4088 - length (joined rows) - w ≡ 4088 - length (joined rows ++ row) = omega (arith, length-append (joined rows) row) in
    with_row-shape kind level (n / 256) (n % 256) (joined rows) (replicate (4088 - length (joined rows)) 0) row n digits (rw e used)
    ∙ rw (more, all, e, drop-replicate {X = ℕ} w (4088 - length (joined rows)) 0, left) refl

-- the same, of a page that is known to be one
pub with_row_written : (page : List ℕ) (kind level : ℕ) (rows : List (List ℕ)) (row : List ℕ) → page ≡ page_of kind level rows
    → AllOfWidth (row_width kind) rows → 0 < row_width (kind_of page) → length row ≡ row_width (kind_of page)
    → row_count page < most_rows (kind_of page) → with_row page row ≡ page_of kind level (rows ++ row ∷ [])
unfolding page_of
with_row_written page kind level rows row is wide some e room =
    let of_kind : kind_of page ≡ kind = ap kind_of is in
    let count : row_count page ≡ length rows = ap row_count is ∙ row_count-page_of kind level rows in
    let width : row_width (kind_of page) ≡ row_width kind = ap row_width of_kind in
    let most : most_rows (kind_of page) ≡ most_rows kind = ap most_rows of_kind in
    ap (λ bytes. with_row bytes row) is
    ∙ with_row-page_of kind level rows row (omega arith) wide (e ∙ width) (omega (arith, most, count))
