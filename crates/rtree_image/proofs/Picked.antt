-- Lists of what passes a test, one more at a time.
use Rattle.std.proofs.Common.{◌≡◌, ℕ, ◌+◌, ◌-◌, ◌<◌, Bool, List, [], ◌∷◌, ◌++◌, take, map, length, get_or, arith, refl, sym, ◌∙◌, ap, subst, append_assoc, append-nil, inl, inr}
use Rattle.std.specs.Prelude.{if◌then◌else◌}
use Rattle.std.specs.List.{filter, flat_map}
use Rattle.std.proofs.lemmas.Bool.{cases_Bool, cases_lt}
use Rattle.std.proofs.lemmas.List.{take_more, map-append}
use Rattle.std.proofs.lemmas.List.Concat.{flat_map-append}
use Rattle.std.proofs.Math.Numerals.{add-one}
use Rattle.tree_shape.specs.Shape.{numbers}
use Rattle.tree_shape.specs.Laws.Numbers.{numbers-snoc}

pub filter-append : {X : Type 0} (test : X → Bool) (xs ys : List X) → filter test (xs ++ ys) ≡ filter test xs ++ filter test ys
filter-append test [] ys = refl
filter-append test (x ∷ xs) ys = elim (cases_Bool (test x)) [
  | inl passes ↦ rw passes (ap (λ zs. x ∷ zs) (filter-append test xs ys))
  | inr fails ↦ rw fails (filter-append test xs ys)
]

module _ {X : Type 0} (test : X → Bool) (old so_far new xs : List X) (x : X) where
  pub one_more : so_far ≡ old ++ filter test xs → new ≡ so_far ++ (if test x then x ∷ [] else []) → new ≡ old ++ filter test (xs ++ x ∷ [])
  one_more before step =
      step ∙ (ap (λ ys. ys ++ filter test (x ∷ [])) before
      ∙ (append_assoc old (filter test xs) (filter test (x ∷ [])) ∙ ap (λ ys. old ++ ys) (sym (filter-append test xs (x ∷ [])))))

pub one_more_child : (test : List ℕ → Bool) (row : ℕ → List ℕ) (first i place : ℕ) (old so_far new : List ℕ)
    → so_far ≡ old ++ filter (λ c. test (row (c - first))) (numbers first i) → place ≡ first + i
    → new ≡ so_far ++ (if test (row i) then place ∷ [] else [])
    → new ≡ old ++ filter (λ c. test (row (c - first))) (numbers first (i + 1))
one_more_child test row first i place old so_far new before here step =
    let offset : i ≡ first + i - first = omega arith in
    let at_place : new ≡ so_far ++ (if test (row (first + i - first)) then (first + i) ∷ [] else []) =
    step ∙ (ap (λ n. so_far ++ (if test (row i) then n ∷ [] else [])) here ∙ ap (λ n. so_far ++ (if test (row n) then (first + i) ∷ [] else [])) offset) in
    one_more (λ c. test (row (c - first))) old so_far new (numbers first i) (first + i) before at_place
    ∙ ap (λ ns. old ++ filter (λ c. test (row (c - first))) ns) (sym (numbers-snoc first i) ∙ ap (numbers first) (sym (add-one i)))

pub one_more_row : {X : Type 0} (test : X → Bool) (f : List ℕ → X) (rows : List (List ℕ)) (i : ℕ) (row : X) (old so_far new : List X)
    → i < length rows → so_far ≡ old ++ filter test (map f (take i rows)) → row ≡ f (get_or rows i [])
    → new ≡ so_far ++ (if test row then row ∷ [] else [])
    → new ≡ old ++ filter test (map f (take (i + 1) rows))
one_more_row test f rows i row old so_far new inside before here step =
    let more : map f (take (i + 1) rows) ≡ map f (take i rows) ++ row ∷ [] =
    ap (map f) (take_more rows i [] inside) ∙ (map-append f (take i rows) (get_or rows i [] ∷ []) ∙ ap (λ r. map f (take i rows) ++ r ∷ []) (sym here)) in
    one_more test old so_far new (map f (take i rows)) row before step ∙ ap (λ ys. old ++ filter test ys) (sym more)

-- what one place more adds
pub flat-more : {X : Type 0} (f : ℕ → List X) (places : List ℕ) (i d : ℕ) → i < length places
    → flat_map f (take (i + 1) places) ≡ flat_map f (take i places) ++ f (get_or places i d)
flat-more f places i d inside =
    ap (flat_map f) (take_more places i d inside)
    ∙ (flat_map-append f (take i places) (get_or places i d ∷ []) ∙ ap (λ ys. flat_map f (take i places) ++ ys) (append-nil (f (get_or places i d))))

-- what holds below a number, and at it
pub below-more : (P : ℕ → Type 0) (i : ℕ) → ((k : ℕ) → k < i → P k) → P i → (k : ℕ) → k < i + 1 → P k
below-more P i so_far here k h = elim (cases_lt k i) [
  | inl less ↦ so_far k less
  | inr more ↦ (let e : i ≡ k = omega arith in subst P e here)
]
