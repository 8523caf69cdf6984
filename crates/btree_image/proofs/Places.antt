-- The places that a walk over a level reads.
use Rattle.std.proofs.Common.{◌≡◌, ℕ, zero, suc, ◌+◌, ◌-◌, ◌<◌, ◌≤◌, max, List, [], ◌∷◌, ◌++◌, map, drop, length, get_or, set, subst, arith, refl, sym, ◌∙◌, ap, inl, inr, append_assoc}
use Rattle.std.proofs.lemmas.Bool.{cases_lt, cases_eq, lt-ltb, le-ltb}
use Rattle.std.proofs.lemmas.List.{drop_more, drop_all, append-nil, map-append, get_or-set_same, get_or-set_other}
use Rattle.btree_image.specs.declared.runs.Run.{Run}
use Rattle.dev_model.specs.Asked.{EndsWith}
use Rattle.btree_image.specs.Rows.{Layout}
use Rattle.tree_shape.specs.Shape.{numbers}
use Rattle.btree_image.specs.Pages.{page_number}
use Rattle.btree_image.specs.Walks.{places_in, next_behind, walk, in_hand}

pub numbers-none : (from n : ℕ) → n ≡ 0 → numbers from n ≡ []
unfolding numbers
numbers-none from n e = rw e refl

pub numbers-append : (from m n : ℕ) → numbers from m ++ numbers (from + m) n ≡ numbers from (m + n)
unfolding numbers
numbers-append from zero n = let e : from + 0 ≡ from = omega arith in let f : 0 + n ≡ n = omega arith in rw (e, f) refl
numbers-append from (suc m) n =
    let e : from + suc m ≡ suc from + m = omega arith in
    let f : suc m + n ≡ suc (m + n) = omega arith in
    rw (e, f) (ap (λ xs. from ∷ xs) (numbers-append (suc from) m n))

-- numbers from one on, up to a second and then up to a third
pub numbers-then : (from m a b : ℕ) → from + m ≡ a → numbers from m ++ numbers a b ≡ numbers from (m + b)
numbers-then from m a b e = ap (λ x. numbers from m ++ numbers x b) (sym e) ∙ numbers-append from m b

pub behind-some : (next first end : ℕ) → first < end → next_behind next first end ≡ max next end
behind-some next first end h = rw (lt-ltb first end h) refl

pub behind-none : (next first end : ℕ) → end ≤ first → next_behind next first end ≡ next
behind-none next first end h = rw (le-ltb first end h) refl

-- the next place doesn't fall, and rises at most to the end
pub behind-least : (next first end : ℕ) → next ≤ next_behind next first end
behind-least next first end = elim (cases_lt first end) [
  | inl some ↦ rw (lt-ltb first end some) (omega arith)
  | inr none ↦ rw (le-ltb first end none) (omega arith)
]

pub behind-most : (next first end : ℕ) → next_behind next first end ≤ max next end
behind-most next first end = elim (cases_lt first end) [
  | inl some ↦ rw (lt-ltb first end some) (omega arith)
  | inr none ↦ rw (le-ltb first end none) (omega arith)
]

-- nothing is left to read up to a place that was passed
pub places-none : (next first end : ℕ) → end ≤ max first next → places_in next first end ≡ []
places-none next first end h = numbers-none (max first next) (end - max first next) (omega arith)

pub numbers-one : (number : ℕ → ℕ) (at : ℕ) → map number (numbers at 1) ≡ number at ∷ []
unfolding numbers
numbers-one number at = refl

-- a place that was not passed is read, and one that was passed is not
pub place-one : (number : ℕ → ℕ) (next at : ℕ) → next ≤ at → number at ∷ [] ≡ map number (places_in next at (suc at))
place-one number next at h =
    let n : max at next ≡ at = omega arith in
    let one : suc at - at ≡ 1 = omega arith in
    sym (ap (map number) (ap (λ x. numbers x (suc at - x)) n ∙ ap (numbers at) one) ∙ numbers-one number at)

pub place-passed : (number : ℕ → ℕ) (next at : ℕ) → at < next → [] ≡ map number (places_in next at (suc at))
place-passed number next at h = sym (ap (map number) (places-none next at (suc at) (omega arith)))

-- the places up to one between, and those from there
pub places-split : (next first at end : ℕ) → first ≤ at → at ≤ end → places_in next first at ++ places_in (next_behind next first at) at end ≡ places_in next first end
places-split next first at end h k = elim (cases_lt next at) [
  | inr passed ↦ (
      let same : next_behind next first at ≡ next = let least = behind-least next first at in let most = behind-most next first at in omega arith in
      let m : max at next ≡ max first next = omega arith in
      rw (places-none next first at (omega arith), same) (ap (λ x. numbers x (end - x)) m))
  | inl here ↦ (
      let n : max at (next_behind next first at) ≡ at = let most = behind-most next first at in omega arith in
      let second : places_in (next_behind next first at) at end ≡ numbers at (end - at) = ap (λ x. numbers x (end - x)) n in
      ap (λ xs. places_in next first at ++ xs) second
      ∙ (numbers-then (max first next) (at - max first next) at (end - at) (omega arith)
      ∙ ap (numbers (max first next)) (omega arith)))
]

-- at the end of a loop over a run
pub places-whole : (next first at end : ℕ) → first ≤ at → end ≤ at → at ≤ max first end → places_in next first at ≡ places_in next first end
places-whole next first at end a b c = elim (cases_lt first end) [
  | inl some ↦ let e : at ≡ end = omega arith in ap (places_in next first) e
  | inr none ↦ places-none next first at (omega arith) ∙ sym (places-none next first end (omega arith))
]

pub behind-whole : (next first at end : ℕ) → first ≤ at → end ≤ at → at ≤ max first end → next_behind next first at ≡ next_behind next first end
behind-whole next first at end a b c = elim (cases_lt first end) [
  | inl some ↦ let e : at ≡ end = omega arith in ap (next_behind next first) e
  | inr none ↦ behind-none next first at (omega arith) ∙ sym (behind-none next first end none)
]

-- the pages of a run so far, and one more
pub run-next : (number : ℕ → ℕ) (next first at now : ℕ) → first ≤ at → now ≡ next_behind next first at
    → map number (places_in next first at) ++ map number (places_in now at (suc at)) ≡ map number (places_in next first (at + 1))
run-next number next first at now h e =
    sym (map-append number (places_in next first at) (places_in now at (suc at)))
    ∙ ap (map number) (ap (λ n. places_in next first at ++ places_in n at (suc at)) e ∙ (places-split next first at (suc at) h (omega arith) ∙ ap (places_in next first) (omega arith)))

-- and the pages that are left
pub run-left : (number : ℕ → ℕ) (next first at end now : ℕ) → first ≤ at → at < end → now ≡ next_behind next first at
    → (map number (places_in next first at) ++ map number (places_in now at (suc at))) ++ map number (places_in (next_behind next first (at + 1)) (at + 1) end) ≡ map number (places_in next first end)
run-left number next first at end now h k e =
    ap (λ xs. xs ++ map number (places_in (next_behind next first (at + 1)) (at + 1) end)) (run-next number next first at now h e)
    ∙ (sym (map-append number (places_in next first (at + 1)) (places_in (next_behind next first (at + 1)) (at + 1) end))
    ∙ ap (map number) (places-split next first (at + 1) end (omega arith) (omega arith)))

-- the first place of a run, and then all of it
pub places-all : (next first end : ℕ) → first < end → places_in next first (suc first) ++ places_in (max next (suc first)) first end ≡ places_in next first end
places-all next first end h = elim (cases_lt first next) [
  | inl passed ↦ (
      let same : max next (suc first) ≡ next = omega arith in
      rw (places-none next first (suc first) (omega arith)) (ap (λ n. places_in n first end) same))
  | inr here ↦ (
      let a : max first next ≡ first = omega arith in
      let b : max first (max next (suc first)) ≡ suc first = omega arith in
      let one : places_in next first (suc first) ≡ numbers first 1 = ap (λ x. numbers x (suc first - x)) a ∙ ap (numbers first) (omega arith) in
      let rest : places_in (max next (suc first)) first end ≡ numbers (suc first) (end - suc first) = ap (λ x. numbers x (end - x)) b in
      let whole : places_in next first end ≡ numbers first (end - first) = ap (λ x. numbers x (end - x)) a in
      ap (λ xs. xs ++ places_in (max next (suc first)) first end) one
      ∙ (ap (λ xs. numbers first 1 ++ xs) rest
      ∙ (numbers-then first 1 (suc first) (end - suc first) (omega arith)
      ∙ (ap (numbers first) (omega arith) ∙ sym whole))))
]

-- the same for its first page, and then all
pub run-all : (number : ℕ → ℕ) (next first end now : ℕ) → first < end → now ≡ max next (suc first)
    → map number (places_in next first (suc first)) ++ map number (places_in now first end) ≡ map number (places_in next first end)
run-all number next first end now h e =
    sym (map-append number (places_in next first (suc first)) (places_in now first end))
    ∙ ap (map number) (ap (λ n. places_in next first (suc first) ++ places_in n first end) e ∙ places-all next first end h)

-- where no place is left the next one stays
pub unmoved : (next first end : ℕ) → end ≤ max first next → next_behind next first end ≡ next
unmoved next first end h = elim (cases_lt first end) [
  | inl some ↦ let e : max next end ≡ next = omega arith in behind-some next first end some ∙ e
  | inr none ↦ behind-none next first end none
]

pub behind-next : (next first at : ℕ) → first ≤ at → max (next_behind next first at) (suc at) ≡ next_behind next first (suc at)
behind-next next first at h =
    let least = behind-least next first at in
    let most = behind-most next first at in
    let e : max (next_behind next first at) (suc at) ≡ max next (suc at) = omega arith in
    e ∙ sym (behind-some next first (suc at) (omega arith))

pub behind-step : (next first at : ℕ) → first ≤ at → max (next_behind next first at) (suc at) ≡ next_behind next first (at + 1)
behind-step next first at h = behind-next next first at h ∙ ap (next_behind next first) (omega arith)

-- a walk over what is left of the runs, one run further
pub walk-next : (next i : ℕ) (runs : List Run) (run : Run) → i < length runs
    → places_in next (get_or runs i run).first (get_or runs i run).end ++ walk (next_behind next (get_or runs i run).first (get_or runs i run).end) (drop (i + 1) runs) ≡ walk next (drop i runs)
unfolding walk
walk-next next i runs run h = sym (ap (walk next) (drop_more runs i run h))

pub walk-nil : (next : ℕ) → walk next [] ≡ []
unfolding walk
walk-nil next = refl

-- one run further, as pages, behind those so far
pub pages-next : (number : ℕ → ℕ) (seen whole now rest all : List ℕ) → seen ++ map number all ≡ whole → now ++ rest ≡ all → (seen ++ map number now) ++ map number rest ≡ whole
pages-next number seen whole now rest all e f =
    append_assoc seen (map number now) (map number rest)
    ∙ (ap (λ xs. seen ++ xs) (sym (map-append number now rest) ∙ ap (map number) f) ∙ e)

module _ {T K : Type 0} (l : Layout T K) (first rows level : ℕ) where
  abbrev number : ℕ → ℕ
  number = page_number l first rows level

  abbrev holding : ℕ → List ℕ
  holding next = in_hand l first rows level next

  -- what was read last is in hand
  pub hand-follows : (next from end : ℕ) → (before : List ℕ) × (holding next ++ map number (places_in next from end) ≡ before ++ holding (next_behind next from end))
  hand-follows next from end = elim (cases_lt (max from next) end) [
    | inr none ↦ (
        let same : next_behind next from end ≡ next = unmoved next from end none in
        ([], rw (places-none next from end none, same) (append-nil (holding next))))
    | inl some ↦ (
        let m = end - suc (max from next) in
        let e : max next end ≡ suc (max from next + m) = omega arith in
        let behind : next_behind next from end ≡ suc (max from next + m) = behind-some next from end (omega arith) ∙ e in
        let places : places_in next from end ≡ numbers (max from next) m ++ numbers (max from next + m) 1 =
        sym (numbers-append (max from next) m 1 ∙ ap (numbers (max from next)) (omega arith)) in (
          holding next ++ map number (numbers (max from next) m),
          ap (λ xs. holding next ++ map number xs) places
              ∙ (ap (λ xs. holding next ++ xs) (map-append number (numbers (max from next) m) (numbers (max from next + m) 1))
              ∙ (sym (append_assoc (holding next) (map number (numbers (max from next) m)) (map number (numbers (max from next + m) 1)))
              ∙ ap (λ xs. (holding next ++ map number (numbers (max from next) m)) ++ xs) (numbers-one number (max from next + m) ∙ ap holding (sym behind)))),
        ))
  ]

-- a place of a list, whatever stands for one outside
pub same_default : {X : Type 0} (xs : List X) (i : ℕ) (d e : X) → i < length xs → get_or xs i d ≡ get_or xs i e
same_default [] i d e h = absurd (omega arith)
same_default (x ∷ xs) zero d e h = refl
same_default (x ∷ xs) (suc i) d e h = same_default xs i d e (omega arith)

-- what was kept in the elements before one, with this one too
pub one-more : {X : Type 0} (P : ℕ → X → Type 0) (xs : List X) (i : ℕ) (x : X) → i < length xs → ((j : ℕ) (d : X) → j < i → P j (get_or xs j d)) → P i x
    → (j : ℕ) (d : X) → j < i + 1 → P j (get_or (set xs i x) j d)
one-more P xs i x inside before here j d h = elim (cases_eq j i) [
  | inl same ↦ subst (λ k. P k (get_or (set xs i x) k d)) (sym same) (subst (P i) (sym (get_or-set_same xs i x d inside)) here)
  | inr apart ↦ subst (P j) (sym (get_or-set_other xs i j x d apart)) (before j d (omega (arith, h, apart)))
]

-- the pages of a walk that is over
pub pages-done : (number : ℕ → ℕ) (seen whole : List ℕ) (next i : ℕ) (runs : List Run) → length runs ≤ i → seen ++ map number (walk next (drop i runs)) ≡ whole → seen ≡ whole
pages-done number seen whole next i runs over e =
    sym (append-nil seen) ∙ (sym (ap (λ xs. seen ++ map number xs) (ap (walk next) (drop_all i runs over) ∙ walk-nil next)) ∙ e)

-- a step to a place ends with the page in hand
pub hand-ends : {T K : Type 0} (l : Layout T K) (first rows level next at now page : ℕ) → now ≡ max next (suc at) → page ≡ page_number l first rows level (now - 1)
    → EndsWith (in_hand l first rows level next ++ map (page_number l first rows level) (places_in next at (suc at))) page
hand-ends l first rows level next at now page e number_is =
    let follows = hand-follows l first rows level next at (suc at) in
    let behind : next_behind next at (suc at) ≡ suc (now - 1) = behind-some next at (suc at) (omega arith) ∙ omega arith in
    (follows.0, follows.1 ∙ ap (λ xs. follows.0 ++ xs) (ap (in_hand l first rows level) behind ∙ ap (λ n. n ∷ []) (sym number_is)))
