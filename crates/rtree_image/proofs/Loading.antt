-- How the rows of a list come onto a page.
use Rattle.std.proofs.Common.{◌≡◌, ℕ, ◌+◌, ◌-◌, ◌<◌, ◌≤◌, List, [], ◌∷◌, ◌++◌, take, drop, map, length, get_or, arith, ◌∙◌, ap, length-drop, get_or-drop}
use Rattle.std.proofs.lemmas.List.{take_more, map-append}

pub one_more_at : {T : Type 0} (f : T → List ℕ) (rows : List T) (from i : ℕ) (d : T) → from ≤ i → i < length rows
    → map f (take (i + 1 - from) (drop from rows)) ≡ map f (take (i - from) (drop from rows)) ++ f (get_or rows i d) ∷ []
one_more_at f rows from i d h inside =
    let e : i + 1 - from ≡ i - from + 1 = omega arith in
    let here : from + (i - from) ≡ i = omega arith in
    let long = length-drop from rows in
    let row_is : get_or (drop from rows) (i - from) d ≡ get_or rows i d = get_or-drop from rows (i - from) d ∙ ap (λ n. get_or rows n d) here in
    rw e (ap (map f) (take_more (drop from rows) (i - from) d (omega arith)) ∙ (map-append f (take (i - from) (drop from rows)) (get_or (drop from rows) (i - from) d ∷ [])
    ∙ ap (λ r. map f (take (i - from) (drop from rows)) ++ f r ∷ []) row_is))
