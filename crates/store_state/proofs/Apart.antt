-- Extents that share no page.
use Rattle.std.proofs.Common.{◌≡◌, ℕ, suc, ◌+◌, ◌<◌, ◌≤◌, max, min, Bool, true, false, ◌||◌, nat_lt, List, [], ◌∷◌, ◌++◌, length, take, drop, get_or, All, inl, inr, arith, ap, refl, sym, ◌∙◌, subst, cond, drop-cons}
use Rattle.std.specs.Prelude.{AllPairs}
use Rattle.std.proofs.lemmas.Bool.{cases_Bool, or_cases, or_left, or_right, and_parts, ltb-true, ltb-false, leb-true}
use Rattle.std.proofs.lemmas.List.{take-append-drop, take_more, map-append}
use Rattle.std.proofs.lemmas.List.Elements.{All-head, All-tail}
use Rattle.std.proofs.lemmas.List.Folds.{list_any-append}
use Rattle.std.proofs.lemmas.List.Kept.{AllPairs-cons}
use Rattle.comp_dir.specs.Choosing.{shares_page}
use Rattle.comp_dir.specs.Directory.{Numbered}
use Rattle.comp_dir.specs.declared.slots.Slot.{Slot}
use Rattle.space_map.specs.declared.space.Extent.{Extent}
use Rattle.space_map.specs.Space.{is_in, is_reserved, with_extent}
use Rattle.store_state.specs.Lists.{extent_of, extents_of}
use Rattle.store_state.proofs.Lent.{All-front, All-back}

-- the extents of these slots share no page
abbrev pub Apart : Numbered → Numbered → Type 0
Apart e f = shares_page e.1 f.1 ≡ false

-- a page of the one is none of the other
pub not_both : (s t : Slot) → shares_page s t ≡ false → (page : ℕ) → is_in page (extent_of t) ≡ true → is_in page (extent_of s) ≡ false
not_both s t apart page in_t = elim (cases_Bool (is_in page (extent_of s))) [
  | inl in_s ↦ absurd (
      let over : min (s.first + s.pages) (t.first + t.pages) ≤ max s.first t.first = ltb-false _ _ apart in
      let a = leb-true s.first page (and_parts _ _ in_s).0 in
      let b = ltb-true page (s.first + s.pages) (and_parts _ _ in_s).1 in
      let c = leb-true t.first page (and_parts _ _ in_t).0 in
      let d = ltb-true page (t.first + t.pages) (and_parts _ _ in_t).1 in
      too_far s.first t.first (s.first + s.pages) (t.first + t.pages) page over a b c d)
  | inr out ↦ out
]
  where
    too_far : (a b c d page : ℕ) → min c d ≤ max a b → a ≤ page → page < c → b ≤ page → page < d → ⊥
    too_far a b c d page over h i j k = omega arith

-- a page of one of these slots is none of another one that stands apart from them
one_apart : (e : Numbered) (slots : List Numbered) → All (Apart e) slots → (page : ℕ) → is_reserved (extents_of slots) page ≡ true → is_in page (extent_of e.1) ≡ false
one_apart e [] all page h = cc
one_apart e (f ∷ slots) all page h = elim (or_cases (is_in page (extent_of f.1)) (is_reserved (extents_of slots) page) h) [
  | inl here ↦ not_both e.1 f.1 (All-head (Apart e) f slots all) page here
  | inr there ↦ one_apart e slots (All-tail (Apart e) f slots all) page there
]

first_apart : (e : Numbered) (slots : List Numbered) → AllPairs Apart (e ∷ slots) → All (Apart e) slots
first_apart e slots pairs k d h = pairs 0 (suc k) d (omega arith) (omega arith)

pub others_apart : (e : Numbered) (slots : List Numbered) → AllPairs Apart (e ∷ slots) → AllPairs Apart slots
others_apart e slots pairs i j d h l = pairs (suc i) (suc j) d (omega arith) (omega arith)

pub both_false : (a b : Bool) → a ≡ false → b ≡ false → (a || b) ≡ false
both_false a b p q = ap (λ x. x || b) p ∙ q

pub back-apart : (xs ys : List Numbered) → AllPairs Apart (xs ++ ys) → AllPairs Apart ys
back-apart [] ys pairs = pairs
back-apart (x ∷ xs) ys pairs = back-apart xs ys (others_apart x (xs ++ ys) pairs)

-- a page of the later slots is none of the earlier ones
pub cross : (xs ys : List Numbered) → AllPairs Apart (xs ++ ys) → (page : ℕ) → is_reserved (extents_of ys) page ≡ true → is_reserved (extents_of xs) page ≡ false
cross [] ys pairs page h = refl
cross (x ∷ xs) ys pairs page h =
    both_false _ _ (one_apart x ys (All-back (Apart x) xs ys (first_apart x (xs ++ ys) pairs)) page h)
    (cross xs ys (others_apart x (xs ++ ys) pairs) page h)

pub joined : (xs ys : List Numbered) (page : ℕ) → is_reserved (extents_of (xs ++ ys)) page ≡ (is_reserved (extents_of xs) page || is_reserved (extents_of ys) page)
joined xs ys page = ap (λ es. is_reserved es page) (map-append (λ (e : Numbered). extent_of e.1) xs ys) ∙ list_any-append (is_in page) (extents_of xs) (extents_of ys)

swap : (a b c : Bool) → (a || (b || c)) ≡ (b || (a || c))
swap true true c = refl
swap true false c = refl
swap false b c = refl

last : (a b c : Bool) → (c || (a || b)) ≡ (a || (b || (c || false)))
last true b true = refl
last true b false = refl
last false true true = refl
last false true false = refl
last false false true = refl
last false false false = refl

-- one extent more
pub is_reserved-with_extent : (e : Extent) (xs : List Extent) (page : ℕ) → is_reserved (with_extent e xs) page ≡ (is_in page e || is_reserved xs page)
is_reserved-with_extent e [] page = refl
is_reserved-with_extent e (x ∷ xs) page = go (nat_lt x.first e.first) (is_reserved-with_extent e xs page)
  where
    go : (b : Bool) → is_reserved (with_extent e xs) page ≡ (is_in page e || is_reserved xs page)
        → is_reserved (cond b (x ∷ with_extent e xs) (e ∷ x ∷ xs)) page ≡ (is_in page e || is_reserved (x ∷ xs) page)
    go true more = ap (λ r. is_in page x || r) more ∙ swap (is_in page x) (is_in page e) (is_reserved xs page)
    go false more = refl

module _ (slots : List Numbered) (i : ℕ) (e : Numbered) (inside : i < length slots) where
  -- a page of the slot at a place is one of a slot
  pub page-of : (page : ℕ) → is_in page (extent_of (get_or slots i e).1) ≡ true → is_reserved (extents_of slots) page ≡ true
  page-of page h =
      ap (λ xs. is_reserved (extents_of xs) page) (sym (take-append-drop i slots))
      ∙ joined (take i slots) (drop i slots) page
      ∙ or_right _ _ (ap (λ xs. is_reserved (extents_of xs) page) (drop-cons slots i e inside) ∙ or_left _ _ h)

  -- and none of those before it
  pub page-before : AllPairs Apart slots → (page : ℕ) → is_in page (extent_of (get_or slots i e).1) ≡ true → is_reserved (extents_of (take i slots)) page ≡ false
  page-before pairs page h =
      cross (take i slots) (drop i slots) (subst (AllPairs Apart) (sym (take-append-drop i slots)) pairs) page
      (ap (λ xs. is_reserved (extents_of xs) page) (drop-cons slots i e inside) ∙ or_left _ _ h)

  -- what is reserved behind it
  pub reserved-more : (before : Bool) (page : ℕ) (now : Bool) → now ≡ (before || is_reserved (extents_of (take i slots)) page)
      → (is_in page (extent_of (get_or slots i e).1) || now) ≡ (before || is_reserved (extents_of (take (i + 1) slots)) page)
  reserved-more before page now is =
      ap (λ r. is_in page (extent_of (get_or slots i e).1) || r) is
      ∙ last before (is_reserved (extents_of (take i slots)) page) (is_in page (extent_of (get_or slots i e).1))
      ∙ ap (λ r. before || r) (sym (ap (λ xs. is_reserved (extents_of xs) page) (take_more slots i e inside) ∙ joined (take i slots) (get_or slots i e ∷ []) page))

-- the earlier slots alone
pub front-apart : (xs ys : List Numbered) → AllPairs Apart (xs ++ ys) → AllPairs Apart xs
front-apart [] ys pairs = λ i j d h l. absurd (omega arith)
front-apart (x ∷ xs) ys pairs =
    AllPairs-cons Apart x xs (All-front (Apart x) xs ys (first_apart x (xs ++ ys) pairs)) (front-apart xs ys (others_apart x (xs ++ ys) pairs))
