-- How many rows come before a key, and up to it.
use Rattle.std.proofs.Common.{◌≡◌, ◌≢◌, ℕ, suc, ◌+◌, ◌-◌, ◌*◌, ◌/◌, ◌<◌, ◌≤◌, Bool, true, false, not, List, [], ◌∷◌, length, get_or, arith, refl, sym, ◌∙◌, ap, subst, inl, inr, ◌⊎◌}
use Rattle.std.proofs.lemmas.Bool.{cases_Bool, cases_lt, cases_eq}
use Rattle.std.proofs.lemmas.Grind.{div_ceil_times}
use Rattle.std.proofs.lemmas.List.Sums.{prefix_len_passes, prefix_len_stops}
use Rattle.std.specs.Int.{div_ceil}
use Rattle.std.specs.List.{prefix_len}
use Rattle.std.specs.Ordering.{is_gt, is_lt}
use Rattle.std.specs.declared.cmp.Ordering.{Ordering}
use Rattle.std.specs.declared.cmp.Ordering.TheVariants.{Less, Equal, Greater}
use Rattle.btree_image.specs.Rows.{Layout, Ascends}
use Rattle.btree_image.specs.Kinds.{IsKeyOrder}
use Rattle.btree_image.specs.Descent.{rank}
use Rattle.btree_image.specs.Walks.{rank_below}
use Rattle.tree_shape.specs.Laws.Covers.{below_quotient, up_to_quotient}
use Rattle.btree_image.proofs.Rank.{rank-le, at_most-below}

pub prefix-mono : {X : Type 0} (p q : X → Bool) (xs : List X) → ((x : X) → p x ≡ true → q x ≡ true) → prefix_len p xs ≤ prefix_len q xs
prefix-mono p q [] h = omega arith
prefix-mono p q (x ∷ xs) h = elim (cases_Bool (p x)) [
  | inl passes ↦ rw (passes, h x passes) (let more = prefix-mono p q xs h in omega arith)
  | inr stops ↦ rw stops (omega arith)
]

at_most : (o : Ordering) → not (is_gt o) ≡ true → (o ≡ Less) ⊎ (o ≡ Equal)
at_most Less h = inl refl
at_most Equal h = inr refl
at_most Greater h = cc

pub isnt_greater : (o : Ordering) → o ≢ Greater → not (is_gt o) ≡ true
isnt_greater Less h = refl
isnt_greater Equal h = refl
isnt_greater Greater h = absurd (h refl)

less : (o : Ordering) → is_lt o ≡ true → o ≡ Less
less Less h = refl
less Equal h = cc
less Greater h = cc

is_less : (o : Ordering) → o ≡ Less → is_lt o ≡ true
is_less o e = rw e refl

less-at_most : (o : Ordering) → is_lt o ≡ true → not (is_gt o) ≡ true
less-at_most Less h = refl
less-at_most Equal h = cc
less-at_most Greater h = cc

module _ {K : Type 0} (order : K → K → Ordering) (o : IsKeyOrder order) where
  pub less-then : (x a b : K) → not (is_gt (order x a)) ≡ true → order a b ≡ Less → is_lt (order x b) ≡ true
  less-then x a b h k = elim (at_most (order x a) h) [
    | inl lt ↦ is_less _ (o.total.trans x a b lt k)
    | inr eq ↦ (let same = o.same x a eq in is_less _ (subst (λ y. order y b ≡ Less) (sym same) k))
  ]

  pub at_most-then : (x a b : K) → not (is_gt (order x a)) ≡ true → not (is_gt (order a b)) ≡ true → not (is_gt (order x b)) ≡ true
  at_most-then x a b h k = elim (at_most (order a b) k) [
    | inl lt ↦ less-at_most _ (less-then x a b h lt)
    | inr eq ↦ (let same = o.same a b eq in subst (λ y. not (is_gt (order x y)) ≡ true) same h)
  ]

  pub then-less : (x a b : K) → order x a ≡ Less → not (is_gt (order a b)) ≡ true → is_lt (order x b) ≡ true
  then-less x a b h k = elim (at_most (order a b) k) [
    | inl lt ↦ is_less _ (o.total.trans x a b h lt)
    | inr eq ↦ (let same = o.same a b eq in is_less _ (subst (λ y. order x y ≡ Less) same h))
  ]

module _ {T K : Type 0} (l : Layout T K) (o : IsKeyOrder l.order) (rows : List T) where
  pub rank-mono : (a b : K) → not (is_gt (l.order a b)) ≡ true → rank l rows a ≤ rank l rows b
  rank-mono a b h = prefix-mono _ _ rows (λ row k. at_most-then l.order o (l.key_of row) a b k h)

  -- rows up to a key come before a later one
  pub rank-before : (a b : K) → l.order a b ≡ Less → rank l rows a ≤ rank_below l rows b
  rank-before a b h = prefix-mono _ _ rows (λ row k. less-then l.order o (l.key_of row) a b k h)

  pub below-rank : (key : K) → rank_below l rows key ≤ rank l rows key
  below-rank key = prefix-mono _ _ rows (λ row k. less-at_most (l.order (l.key_of row) key) k)

  module _ (ascends : Ascends l rows) (key : K) where
    abbrev is_below : T → Bool
    is_below row = is_lt (l.order (l.key_of row) key)

    pub below-passes : (i : ℕ) (d : T) → i < rank_below l rows key → is_below (get_or rows i d) ≡ true
    below-passes i d h = prefix_len_passes is_below rows i d h

    pub below-stops : (i : ℕ) (d : T) → rank_below l rows key ≤ i → i < length rows → is_below (get_or rows i d) ≡ false
    below-stops i d h inside =
        let first : is_below (get_or rows (rank_below l rows key) d) ≡ false = prefix_len_stops is_below rows d (omega (arith, h)) in
        elim (cases_eq i (rank_below l rows key)) [
          | inl same ↦ rw same first
          | inr apart ↦ elim (cases_Bool (is_below (get_or rows i d))) [
            | inr stops ↦ stops
            | inl passes ↦ absurd (
                let earlier = ascends (rank_below l rows key) i d (omega (arith, h, apart)) inside in
                let both : is_below (get_or rows (rank_below l rows key) d) ≡ true = then-less l.order o _ _ _ earlier (less-at_most _ passes) in
                cc)
          ]
        ]

    -- at most one row has a key
    pub rank-next : (d : T) → rank l rows key ≤ rank_below l rows key + 1
    rank-next d = elim (cases_lt (rank_below l rows key + 1) (rank l rows key)) [
      | inr few ↦ few
      | inl many ↦ absurd (
          let le = rank-le l o rows ascends key in
          let n = rank_below l rows key in
          let first : is_below (get_or rows n d) ≡ false = prefix_len_stops is_below rows d (omega arith) in
          let second = at_most-below l o rows ascends key (n + 1) d many in
          let earlier = ascends n (n + 1) d (omega arith) (omega arith) in
          let both : is_below (get_or rows n d) ≡ true = then-less l.order o _ _ _ earlier second in
          cc)
    ]

-- the pages that hold some rows, by the place of the last one
pub ceil-some : (n m : ℕ) → 0 < m → 0 < n → div_ceil n m ≡ (n - 1) / m + 1
ceil-some n m p some =
    let times = div_ceil_times n m p in
    let d = div_ceil n m in
    let low : (n - 1) / m < d = below_quotient (n - 1) m d p (omega (arith, times.0)) in
    let e : d ≡ suc (d - 1) = omega arith in
    let product : d * m ≡ (d - 1) * m + m = ap (λ k. k * m) e ∙ omega arith in
    let high : d - 1 ≤ (n - 1) / m = up_to_quotient (n - 1) m (d - 1) p (omega (arith, times.1, product)) in
    omega arith

pub ceil-none : (m : ℕ) → 0 < m → div_ceil 0 m ≡ 0
ceil-none m p = omega arith
