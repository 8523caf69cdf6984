-- The pages and the rows that ranges meet, range by range.
use Rattle.std.proofs.Common.{◌≡◌, ◌≢◌, ℕ, zero, suc, ◌+◌, ◌-◌, ◌*◌, ◌/◌, ◌<◌, ◌≤◌, min, max, Bool, true, false, not, ◌&&◌, List, [], ◌∷◌, ◌++◌, drop, map, filter, length, get_or, slice_get, All, None, arith, refl, sym, ◌∙◌, ap, subst, inl, inr, get_or-drop, get_or-take, length-drop, length-take}
use Rattle.std.specs.List.{list_any, flat_map}
use Rattle.std.proofs.Math.Nat.{div-mul-le_self, mul-le-mul_left}
use Rattle.std.proofs.lemmas.Bool.{cases_Bool, cases_lt}
use Rattle.std.proofs.lemmas.List.{take-append-drop, drop-drop}
use Rattle.std.proofs.lemmas.List.Elements.{filter-append}
use Rattle.std.specs.Ordering.{is_gt, is_lt, ordering_reverse}
use Rattle.std.specs.declared.cmp.Ordering.{Ordering}
use Rattle.std.specs.declared.cmp.Ordering.TheVariants.{Less, Equal, Greater}
use Rattle.page_codec.specs.Page.{most_rows}
use Rattle.tree_shape.specs.Shape.{level_size, span, numbers}
use Rattle.btree_image.specs.Rows.{Layout}
use Rattle.btree_image.specs.Kinds.{IsKeyOrder}
use Rattle.btree_image.specs.Image.{shape_of, IsList}
use Rattle.btree_image.specs.Descent.{rank, place_of_key}
use Rattle.btree_image.specs.Visited.{begins_before, reaches_row, is_met}
use Rattle.btree_image.specs.Given.{AreRanges, is_inside, rows_met}
use Rattle.btree_image.specs.Walks.{rank_below, end_of_key, run_of, part, rows_of, next_behind, walk}
use Rattle.tree_shape.specs.Laws.Covers.{past_quotient, child_reached}
use Rattle.btree_image.proofs.Rank.{rank-le, at_most-below, greater-from}
use Rattle.btree_image.proofs.Ranks.{isnt_greater, rank-mono, rank-before, below-rank, below-passes, below-stops}
use Rattle.btree_image.proofs.Narrowed.{end-some, end-none, end-inside, span-some, run-follows, leads-own}
use Rattle.page_codec.specs.Laws.Writing.{stands}
use Rattle.btree_image.proofs.Places.{numbers-then, behind-some, places-none, unmoved}

pub filter-none : {X : Type 0} (p : X → Bool) (xs : List X) → All (λ x. p x ≡ false) xs → filter p xs ≡ []
filter-none p [] h = refl
filter-none p (x ∷ xs) h = rw (h 0 x (omega arith)) (filter-none p xs (λ i d k. h (suc i) d (omega arith)))

filter-all : {X : Type 0} (p : X → Bool) (xs : List X) → All (λ x. p x ≡ true) xs → filter p xs ≡ xs
filter-all p [] h = refl
filter-all p (x ∷ xs) h = rw (h 0 x (omega arith)) (ap (λ ys. x ∷ ys) (filter-all p xs (λ i d k. h (suc i) d (omega arith))))

filter-same : {X : Type 0} (p q : X → Bool) (xs : List X) → All (λ x. p x ≡ q x) xs → filter p xs ≡ filter q xs
filter-same p q [] h = refl
filter-same p q (x ∷ xs) h =
    let rest = filter-same p q xs (λ i d k. h (suc i) d (omega arith)) in
    elim (cases_Bool (q x)) [
      | inl passes ↦ rw (h 0 x (omega arith), passes) (ap (λ ys. x ∷ ys) rest)
      | inr stops ↦ rw (h 0 x (omega arith), stops) rest
    ]

-- numbers by their bounds
pub within : (P : ℕ → Type 0) (from n : ℕ) → ((c : ℕ) → from ≤ c → c < from + n → P c) → All P (numbers from n)
unfolding numbers
within P from zero h i d k = absurd (omega arith)
within P from (suc n) h zero d k = h from (omega arith) (omega arith)
within P from (suc n) h (suc i) d k = within P (suc from) n (λ c a b. h c (omega arith) (omega arith)) i d (omega arith)

any-none : {X : Type 0} (p : X → Bool) (xs : List X) → All (λ x. p x ≡ false) xs → list_any p xs ≡ false
any-none p [] h = refl
any-none p (x ∷ xs) h = rw (h 0 x (omega arith)) (any-none p xs (λ i d k. h (suc i) d (omega arith)))

both-false : (b : Bool) → (b && false) ≡ false
both-false true = refl
both-false false = refl

no_row : {T : Type 0} (xs : List T) (i : ℕ) → length xs ≤ i → slice_get xs i ≡ None
no_row [] i h = refl
no_row (x ∷ xs) zero h = absurd (omega arith)
no_row (x ∷ xs) (suc i) h = no_row xs i (omega arith)

isnt_before : (o p : Ordering) → p ≡ ordering_reverse o → is_lt o ≡ false → not (is_gt p) ≡ true
isnt_before Less p e h = cc
isnt_before Equal p e h = rw e refl
isnt_before Greater p e h = rw e refl

is_behind : (o p : Ordering) → p ≡ ordering_reverse o → is_lt o ≡ true → not (is_gt p) ≡ false
is_behind Less p e h = rw e refl
is_behind Equal p e h = cc
is_behind Greater p e h = cc

begins : (o p : Ordering) → p ≡ ordering_reverse o → o ≡ Greater → is_lt p ≡ true
begins o p e h = rw (e, h) refl

begins_not : (o p : Ordering) → p ≡ ordering_reverse o → not (is_gt o) ≡ true → is_lt p ≡ false
begins_not Less p e h = rw e refl
begins_not Equal p e h = rw e refl
begins_not Greater p e h = cc

module _ {T K : Type 0} (l : Layout T K) (o : IsKeyOrder l.order) (a : 1 ≤ most_rows l.leaf) (b : 2 ≤ most_rows l.inner)
    (rows : ℕ) (list : List T) (is : IsList l rows list) where
  -- a row of the list, by its place
  inside-low : (range : K × K) (p : ℕ) (d : T) → p < rank_below l list range.0 → is_inside l range (get_or list p d) ≡ false
  inside-low range p d h =
      let key = l.key_of (get_or list p d) in
      let low = is_behind (l.order key range.0) (l.order range.0 key) (o.total.antisymm range.0 key) (below-passes l o list is.ascends range.0 p d h) in
      rw low refl

  inside-high : (range : K × K) (p : ℕ) (d : T) → rank l list range.1 ≤ p → p < length list → is_inside l range (get_or list p d) ≡ false
  inside-high range p d h inside =
      let above = greater-from l o list is.ascends range.1 p d h inside in
      rw above (both-false (not (is_gt (l.order range.0 (l.key_of (get_or list p d))))))

  inside-yes : (range : K × K) (p : ℕ) (d : T) → rank_below l list range.0 ≤ p → p < rank l list range.1 → p < length list → is_inside l range (get_or list p d) ≡ true
  inside-yes range p d h k inside =
      let key = l.key_of (get_or list p d) in
      let low = isnt_before (l.order key range.0) (l.order range.0 key) (o.total.antisymm range.0 key) (below-stops l o list is.ascends range.0 p d h inside) in
      let high = at_most-below l o list is.ascends range.1 p d k in
      rw (low, high) refl

  -- what holds of the rows from one place up to another
  rows-hold : (P : T → Type 0) (from to : ℕ) → ((p : ℕ) (d : T) → from ≤ p → p < to → p < length list → P (get_or list p d)) → All P (part list from to)
  rows-hold P from to h i d k =
      let n = to - from in
      let long : length (part list from to) ≡ min n (length list - from) = length-take n (drop from list) ∙ ap (min n) (length-drop from list) in
      let there : get_or (part list from to) i d ≡ get_or list (from + i) d = get_or-take n (drop from list) i d (omega (arith, long, k)) ∙ get_or-drop from list i d in
      subst P (sym there) (h (from + i) d (omega arith) (omega (arith, long, k)) (omega (arith, long, k)))

  rest-hold : (P : T → Type 0) (from : ℕ) → ((p : ℕ) (d : T) → from ≤ p → p < length list → P (get_or list p d)) → All P (drop from list)
  rest-hold P from h i d k =
      let long = length-drop from list in
      subst P (sym (get_or-drop from list i d)) (h (from + i) d (omega arith) (omega (arith, long, k)))

  split-rows : (n low high : ℕ) → n ≤ low → low ≤ high → drop n list ≡ part list n low ++ (part list low high ++ drop high list)
  split-rows n low high h k =
      let one : drop n list ≡ part list n low ++ drop low list =
      sym (take-append-drop (low - n) (drop n list)) ∙ ap (λ xs. part list n low ++ xs) (drop-drop (low - n) n list ∙ ap (λ j. drop j list) (omega arith)) in
      let two : drop low list ≡ part list low high ++ drop high list =
      sym (take-append-drop (high - low) (drop low list)) ∙ ap (λ xs. part list low high ++ xs) (drop-drop (high - low) low list ∙ ap (λ j. drop j list) (omega arith)) in
      one ∙ ap (λ xs. part list n low ++ xs) two

  abbrev any_inside : List (K × K) → T → Bool
  any_inside ranges row = list_any (λ range. is_inside l range row) ranges

  ordered-rows : (range : K × K) → l.order range.0 range.1 ≢ Greater → rank_below l list range.0 ≤ rank l list range.1
  ordered-rows range h =
      let one = below-rank l o list range.0 in
      let two = rank-mono l o list range.0 range.1 (isnt_greater _ h) in
      omega arith

  rows-from : (ranges : List (K × K)) → AreRanges l.order ranges → (n : ℕ) → All (λ range. n ≤ rank_below l list range.0) ranges
      → filter (any_inside ranges) (drop n list) ≡ flat_map (rows_of l list) ranges
  rows-from [] are n h = filter-none (any_inside []) (drop n list) (λ i d k. refl)
  rows-from (r ∷ rs) are n h =
      let low = rank_below l list r.0 in
      let high = rank l list r.1 in
      let begin : n ≤ low = h 0 r (omega arith) in
      let forward = ordered-rows r (are.each 0 r (omega arith)) in
      let later : All (λ range. high ≤ rank_below l list range.0) rs = λ i d k. rank-before l o list r.1 (get_or rs i d).0 (are.apart 0 (suc i) d (omega arith) (omega arith)) in
      let test = any_inside (r ∷ rs) in
      let none = filter-none test (part list n low) (rows-hold (λ row. test row ≡ false) n low (λ p d f t inside.
      any-none (λ range. is_inside l range (get_or list p d)) (r ∷ rs) (λ i e k. outside p d t i e k))) in
      let all = filter-all test (part list low high) (rows-hold (λ row. test row ≡ true) low high (λ p d f t inside. rw (inside-yes r p d f t inside) refl)) in
      let rest = filter-same test (any_inside rs) (drop high list) (rest-hold (λ row. test row ≡ any_inside rs row) high (λ p d f inside. rw (inside-high r p d f inside) refl)) in
      ap (filter test) (split-rows n low high begin forward)
      ∙ (filter-append test (part list n low) (part list low high ++ drop high list)
      ∙ (ap (λ xs. xs ++ filter test (part list low high ++ drop high list)) none
      ∙ (filter-append test (part list low high) (drop high list)
      ∙ (ap (λ xs. xs ++ filter test (drop high list)) all
      ∙ ap (λ xs. part list low high ++ xs) (rest ∙ rows-from rs (record { each = λ i d k. are.each (suc i) d (omega arith); apart = λ i j d e k. are.apart (suc i) (suc j) d (omega arith) (omega arith) }) high later)))))
    where
      outside : (p : ℕ) (d : T) → p < rank_below l list r.0 → (i : ℕ) (e : K × K) → i < length (r ∷ rs) → is_inside l (get_or (r ∷ rs) i e) (get_or list p d) ≡ false
      outside p d t zero e k = inside-low r p d t
      outside p d t (suc i) e k =
          let forward = ordered-rows r (are.each 0 r (omega arith)) in
          let later = rank-before l o list r.1 (get_or rs i e).0 (are.apart 0 (suc i) e (omega arith) (omega arith)) in
          inside-low (get_or rs i e) p d (omega arith)

  -- the rows that ranges meet are those of each range, one after the other
  pub rows-ranges : (ranges : List (K × K)) → AreRanges l.order ranges → rows_met l list ranges ≡ flat_map (rows_of l list) ranges
  rows-ranges ranges are = rows-from ranges are 0 (λ i d h. omega arith)

  -- a row by its place, seen from a range
  reaches-yes : (range : K × K) (i : ℕ) → i < rank l list range.1 → reaches_row l range (slice_get list i) ≡ true
  reaches-yes range i h =
      let le = rank-le l o list is.ascends range.1 in
      let s = stands list i (omega arith) in
      rw s.got (subst (λ row. not (is_gt (l.order (l.key_of row) range.1)) ≡ true) s.read (at_most-below l o list is.ascends range.1 i s.row h))

  reaches-no : (range : K × K) (i : ℕ) → rank l list range.1 ≤ i → reaches_row l range (slice_get list i) ≡ false
  reaches-no range i h = elim (cases_lt i (length list)) [
    | inr past ↦ rw (no_row list i past) refl
    | inl inside ↦ (
        let s = stands list i inside in
        let above : l.order (l.key_of s.row) range.1 ≡ Greater = subst (λ row. l.order (l.key_of row) range.1 ≡ Greater) s.read (greater-from l o list is.ascends range.1 i s.row h inside) in
        rw (s.got, above) refl)
  ]

  begins-yes : (range : K × K) (i : ℕ) → rank l list range.0 ≤ i → begins_before l range (slice_get list i) ≡ true
  begins-yes range i h = elim (cases_lt i (length list)) [
    | inr past ↦ rw (no_row list i past) refl
    | inl inside ↦ (
        let s = stands list i inside in
        let above : l.order (l.key_of s.row) range.0 ≡ Greater = subst (λ row. l.order (l.key_of row) range.0 ≡ Greater) s.read (greater-from l o list is.ascends range.0 i s.row h inside) in
        rw s.got (begins (l.order (l.key_of s.row) range.0) (l.order range.0 (l.key_of s.row)) (o.total.antisymm range.0 (l.key_of s.row)) above))
  ]

  begins-no : (range : K × K) (i : ℕ) → i < rank l list range.0 → begins_before l range (slice_get list i) ≡ false
  begins-no range i h =
      let le = rank-le l o list is.ascends range.0 in
      let s = stands list i (omega arith) in
      let below = subst (λ row. not (is_gt (l.order (l.key_of row) range.0)) ≡ true) s.read (at_most-below l o list is.ascends range.0 i s.row h) in
      rw s.got (begins_not (l.order (l.key_of s.row) range.0) (l.order range.0 (l.key_of s.row)) (o.total.antisymm range.0 (l.key_of s.row)) below)

  module _ (level : ℕ) where
    abbrev m : ℕ
    m = span (shape_of l (length list)) level

    abbrev met : K × K → ℕ → Bool
    met range at = reaches_row l range (slice_get list (at * m)) && begins_before l range (slice_get list ((at + 1) * m))

    met-yes : (range : K × K) (at : ℕ) → place_of_key l list range.0 level ≤ at → at < end_of_key l list range.1 level → met range at ≡ true
    met-yes range at from before =
        let some : 0 < rank l list range.1 = elim (cases_lt 0 (rank l list range.1)) [
          | inl some ↦ some
          | inr none ↦ absurd (let e = end-none l o a b rows list is range.1 level (omega arith) in omega arith)
        ] in
        let e = end-some l o a b rows list is range.1 level some in
        let under = div-mul-le_self (rank l list range.1 - 1) m in
        let grown : m * at ≤ m * ((rank l list range.1 - 1) / m) = mul-le-mul_left m (omega arith) in
        let start = past_quotient (rank l list range.0 - 1) m (at + 1) (span-some l o a b rows list is level) (omega arith) in
        rw (reaches-yes range (at * m) (omega arith), begins-yes range ((at + 1) * m) (omega arith)) refl

    met-high : (range : K × K) (at : ℕ) → end_of_key l list range.1 level ≤ at → met range at ≡ false
    met-high range at over =
        let passed : rank l list range.1 ≤ at * m = elim (cases_lt 0 (rank l list range.1)) [
          | inr none ↦ omega arith
          | inl some ↦ (
              let e = end-some l o a b rows list is range.1 level some in
              let stop = past_quotient (rank l list range.1 - 1) m at (span-some l o a b rows list is level) (omega arith) in
              omega arith)
        ] in
        rw (reaches-no range (at * m) passed) refl

    met-low : (range : K × K) (at : ℕ) → at < place_of_key l list range.0 level → met range at ≡ false
    met-low range at before =
        let later = child_reached (rank l list range.0) m (at + 1) (span-some l o a b rows list is level) (omega arith) (omega arith) in
        rw (begins-no range ((at + 1) * m) later) (both-false (reaches_row l range (slice_get list (at * m))))

    abbrev any_met : List (K × K) → ℕ → Bool
    any_met ranges at = list_any (λ range. met range at) ranges

    -- the pages of a level that ranges meet, from a place on, are those of a walk
    walk-from : (ranges : List (K × K)) → AreRanges l.order ranges → (next : ℕ) → next ≤ level_size (shape_of l rows) level
        → filter (any_met ranges) (numbers next (level_size (shape_of l rows) level - next)) ≡ walk next (map (run_of l list level) ranges)
    unfolding walk
    walk-from [] are next h = filter-none (any_met []) (numbers next (level_size (shape_of l rows) level - next)) (λ i d k. refl)
    walk-from (r ∷ rs) are next h =
        let size = level_size (shape_of l rows) level in
        let first = place_of_key l list r.0 level in
        let end = end_of_key l list r.1 level in
        let fits : end ≤ size = end-inside l o a b rows list is r.1 level in
        let test = any_met (r ∷ rs) in
        let are_rest : AreRanges l.order rs = record { each = λ i d k. are.each (suc i) d (omega arith); apart = λ i j d e k. are.apart (suc i) (suc j) d (omega arith) (omega arith) } in
        elim (cases_lt (max first next) end) [
          | inr none ↦ (
              let same = filter-same test (any_met rs) (numbers next (size - next)) (within (λ c. test c ≡ any_met rs c) next (size - next) (λ c f t. passed c none f)) in
              let stays : next_behind next first end ≡ next = unmoved next first end none in
              same ∙ (walk-from rs are_rest next h
              ∙ (ap (λ n. walk n (map (run_of l list level) rs)) (sym stays)
              ∙ ap (λ xs. xs ++ walk (next_behind next first end) (map (run_of l list level) rs)) (sym (places-none next first end none)))))
          | inl some ↦ (
              let from = max first next in
              let three : numbers next (size - next) ≡ numbers next (from - next) ++ (numbers from (end - from) ++ numbers end (size - end)) =
              sym (ap (λ xs. numbers next (from - next) ++ xs) (numbers-then from (end - from) end (size - end) (omega arith))
              ∙ (numbers-then next (from - next) from ((end - from) + (size - end)) (omega arith) ∙ ap (numbers next) (omega arith))) in
              let before = filter-none test (numbers next (from - next)) (within (λ c. test c ≡ false) next (from - next) (λ c f t. earlier c (omega arith) (omega arith))) in
              let here = filter-all test (numbers from (end - from)) (within (λ c. test c ≡ true) from (end - from) (λ c f t. rw (met-yes r c (omega arith) (omega arith)) refl)) in
              let rest = filter-same test (any_met rs) (numbers end (size - end)) (within (λ c. test c ≡ any_met rs c) end (size - end) (λ c f t. rw (met-high r c f) refl)) in
              let moves : next_behind next first end ≡ end = behind-some next first end (omega arith) ∙ omega arith in
              ap (filter test) three
              ∙ (filter-append test (numbers next (from - next)) (numbers from (end - from) ++ numbers end (size - end))
              ∙ (ap (λ xs. xs ++ filter test (numbers from (end - from) ++ numbers end (size - end))) before
              ∙ (filter-append test (numbers from (end - from)) (numbers end (size - end))
              ∙ (ap (λ xs. xs ++ filter test (numbers end (size - end))) here
              ∙ ap (λ xs. numbers from (end - from) ++ xs) (rest ∙ (walk-from rs are_rest end fits ∙ ap (λ n. walk n (map (run_of l list level) rs)) (sym moves))))))))
        ]
      where
        -- of a place that was passed the first range says nothing
        passed : (c : ℕ) → end_of_key l list r.1 level ≤ max (place_of_key l list r.0 level) next → next ≤ c → any_met (r ∷ rs) c ≡ any_met rs c
        passed c none f = elim (cases_lt c (end_of_key l list r.1 level)) [
          | inr over ↦ rw (met-high r c over) refl
          | inl before ↦ rw (met-low r c (omega arith)) refl
        ]

        later-low : (c : ℕ) → place_of_key l list r.0 level < end_of_key l list r.1 level → c < place_of_key l list r.0 level → (i : ℕ) (d : K × K) → i < length rs → met (get_or rs i d) c ≡ false
        later-low c some h i d k =
            let range = get_or rs i d in
            let follows = run-follows l o a b rows list is level r range (run_of l list level r) (run_of l list level range)
            (leads-own l o a b rows list is level r) (leads-own l o a b rows list is level range) (are.apart 0 (suc i) d (omega arith) (omega arith)) in
            met-low range c (omega arith)

        earlier : (c : ℕ) → place_of_key l list r.0 level < end_of_key l list r.1 level → c < place_of_key l list r.0 level → any_met (r ∷ rs) c ≡ false
        earlier c some h = rw (met-low r c h) (any-none (λ range. met range c) rs (later-low c some h))

    -- the pages of a level that ranges meet are those of a walk over their runs
    pub walk-met : (ranges : List (K × K)) → AreRanges l.order ranges
        → filter (is_met l list ranges level) (numbers 0 (level_size (shape_of l rows) level)) ≡ walk 0 (map (run_of l list level) ranges)
    walk-met ranges are = ap (λ n. filter (any_met ranges) (numbers 0 n)) (omega arith) ∙ walk-from ranges are 0 (omega arith)
