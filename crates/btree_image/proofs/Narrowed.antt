-- What a page above the leaves tells of the run of a range.
use Rattle.std.proofs.Common.{◌≡◌, ◌≢◌, ℕ, suc, ◌+◌, ◌-◌, ◌*◌, ◌/◌, ◌<◌, ◌≤◌, min, Option, List, [], length, arith, refl, sym, ◌∙◌, ap, inl, inr, nat_lt, if◌then◌else◌}
use Rattle.std.specs.Prelude.{slice_index_or}
use Rattle.std.proofs.Math.Nat.{div-mul-le_self, zero-div}
use Rattle.std.proofs.lemmas.Bool.{cases_lt, lt-ltb, le-ltb}
use Rattle.std.proofs.lemmas.List.{length-map}
use Rattle.std.specs.Int.{div_ceil}
use Rattle.std.specs.declared.cmp.Ordering.TheVariants.{Less, Greater}
use Rattle.page_codec.specs.Page.{most_rows, rows_on, ShowsRows}
use Rattle.btree_image.specs.declared.hand.InHand.{InHand}
use Rattle.btree_image.specs.declared.runs.Run.{Run}
use Rattle.tree_shape.specs.Shape.{level_size, span, IsPlace, numbers}
use Rattle.btree_image.specs.Rows.{Layout}
use Rattle.btree_image.specs.Kinds.{IsKeyOrder}
use Rattle.btree_image.specs.Image.{shape_of, level_rows, IsList, child_row}
use Rattle.btree_image.specs.Shown.{IsShown}
use Rattle.btree_image.specs.Descent.{rank, place_of_key}
use Rattle.btree_image.specs.Steps.{reaches, IsLastUpTo}
use Rattle.btree_image.specs.Walks.{end_of_key, run_of, Leads, IsInHand}
use Rattle.tree_shape.specs.Laws.Numbers.{length-numbers}
use Rattle.tree_shape.specs.Laws.Covers.{span-pos, up_to_quotient}
use Rattle.btree_image.proofs.Ranks.{rank-mono, isnt_greater, ceil-some, ceil-none}
use Rattle.btree_image.proofs.Children.{child_at, level_rows-children, row_at_place, reaches-up_to, reaches-none}
use Rattle.btree_image.proofs.Told.{place-above, place-inside, in_page, shown_read}
use Rattle.tree_shape.specs.Laws.Places.{rows_above}

zero_less_one : (m : ℕ) → (0 - 1) / m ≡ 0
zero_less_one m = let e : 0 - 1 ≡ 0 = omega arith in ap (λ n. n / m) e ∙ zero-div m

div-mono : (x y m : ℕ) → 0 < m → x ≤ y → x / m ≤ y / m
div-mono x y m p h = up_to_quotient y m (x / m) p (let low = div-mul-le_self x m in omega arith)

same_run : (f f2 e e2 : ℕ) → f ≡ f2 → e ≡ e2 → ◌≡◌ {A = Run} (record { first = f; end = e }) (record { first = f2; end = e2 })
same_run f f2 e e2 p q = rw (p, q) refl

module _ {T K : Type 0} (l : Layout T K) (o : IsKeyOrder l.order) (a : 1 ≤ most_rows l.leaf) (b : 2 ≤ most_rows l.inner)
    (rows : ℕ) (list : List T) (is : IsList l rows list) where
  pub span-some : (level : ℕ) → 0 < span (shape_of l (length list)) level
  span-some level = span-pos (shape_of l (length list)) a (omega arith) level

  pub end-some : (key : K) (level : ℕ) → 0 < rank l list key → end_of_key l list key level ≡ place_of_key l list key level + 1
  end-some key level some = ceil-some (rank l list key) (span (shape_of l (length list)) level) (span-some level) some

  pub end-none : (key : K) (level : ℕ) → rank l list key ≡ 0 → end_of_key l list key level ≡ 0
  end-none key level none = ap (λ n. div_ceil n (span (shape_of l (length list)) level)) none ∙ ceil-none (span (shape_of l (length list)) level) (span-some level)

  pub place-none : (key : K) (level : ℕ) → rank l list key ≡ 0 → place_of_key l list key level ≡ 0
  place-none key level none = ap (λ n. (n - 1) / span (shape_of l (length list)) level) none ∙ zero_less_one (span (shape_of l (length list)) level)

  pub end-inside : (key : K) (level : ℕ) → end_of_key l list key level ≤ level_size (shape_of l rows) level
  end-inside key level = elim (cases_lt 0 (rank l list key)) [
    | inl some ↦ (let inside = place-inside l o a b rows list is key level in let e = end-some key level some in omega arith)
    | inr none ↦ (let e = end-none key level (omega arith) in omega arith)
  ]

  -- a range that lies before all rows has no pages below
  pub narrowed-none : (level : ℕ) (range : K × K) (run : Run) → Leads l list (suc level) range run → l.order range.0 range.1 ≢ Greater
      → run.end ≤ run.first → record { first = 0; end = 0 } ≡ run_of l list level range
  narrowed-none level range run leads ordered empty =
      let low : rank l list range.0 ≤ rank l list range.1 = rank-mono l o list range.0 range.1 (isnt_greater _ ordered) in
      let none : rank l list range.1 ≡ 0 = elim (cases_lt 0 (rank l list range.1)) [
        | inr none ↦ omega arith
        | inl some ↦ absurd (
            let m = span (shape_of l (length list)) (suc level) in
            let e = leads.end_is some in
            let f = end-some range.1 (suc level) some in
            let g = leads.first_is in
            let h : (rank l list range.0 - 1) / m ≤ (rank l list range.1 - 1) / m = div-mono (rank l list range.0 - 1) (rank l list range.1 - 1) m (span-some (suc level)) (omega arith) in
            omega arith)
      ] in
      same_run 0 _ 0 _ (sym (place-none range.0 level (omega arith))) (sym (end-none range.1 level none))

  -- a range's own run is one
  pub leads-own : (level : ℕ) (range : K × K) → Leads l list level range (run_of l list level range)
  leads-own level range = record {
    first_is = refl;
    end_is = λ some. refl;
    none = λ none. let e = end-none range.1 level none in omega arith;
  }

  -- the last page of a run is that of its greatest key
  pub last_place : (level : ℕ) (range : K × K) (run : Run) → Leads l list level range run → run.first < run.end → run.end - 1 ≡ place_of_key l list range.1 level
  last_place level range run leads some = elim (cases_lt 0 (rank l list range.1)) [
    | inl rows ↦ (let e = leads.end_is rows in let f = end-some range.1 level rows in omega arith)
    | inr none ↦ (let e = leads.none (omega arith) in let f = place-none range.1 level (omega arith) in omega arith)
  ]

  module _ (key : K) (level at : ℕ) (e : at ≡ place_of_key l list key (suc level)) (bytes : List ℕ)
      (shows : ShowsRows l.inner (suc level) (level_rows l list (suc level) at) bytes) where
    abbrev many : ℕ
    many = most_rows l.inner

    abbrev t : ℕ
    t = place_of_key l list key level

    low : at * many ≤ t
    low = rw (e ∙ place-above l o a b rows list is key level) (div-mul-le_self t many)

    -- the first child to which a key leads
    pub first-told : at * many + (t - at * many) ≡ t
    first-told = let below = low in omega arith

    -- the row of the child to which a key leads
    child-reached : 0 < rows → reaches l key (slice_index_or (rows_on bytes) (t - at * many) []) ≡ nat_lt 0 (rank l list key)
    child-reached some =
        let first = at * many in
        let n = min many (level_size (shape_of l (length list)) level - first) in
        let within = (in_page l o a b rows list is key level at e bytes shows).inside in
        let all : length (level_rows l list (suc level) at) ≡ n =
        ap length (level_rows-children l list is.stored level at) ∙ (length-map (numbers first n) (child_row l list level) ∙ length-numbers first n) in
        let same : length (rows_on bytes) ≡ length (level_rows l list (suc level) at) = ap length shows.all in
        let row : slice_index_or (rows_on bytes) (t - first) [] ≡ child_row l list level t =
        ap (λ ys. slice_index_or ys (t - first) []) (shows.all ∙ level_rows-children l list is.stored level at)
        ∙ (child_at l list is.stored level first n (t - first) (omega arith) ∙ ap (child_row l list level) first-told) in
        let there = row_at_place l o list is.ascends is.stored key a b level (let count = is.count in omega arith) in
        ap (reaches l key) row ∙ elim (cases_lt 0 (rank l list key)) [
          | inl more ↦ (
              let under = div-mul-le_self (rank l list key - 1) (span (shape_of l (length list)) level) in
              reaches-up_to l o list is.ascends is.stored key a b level t there (omega arith) ∙ sym (lt-ltb 0 (rank l list key) more))
          | inr none ↦ reaches-none l o list is.ascends is.stored key a b level t there (omega arith) ∙ sym (le-ltb 0 (rank l list key) none)
        ]

    -- the end of the children whose keys are at most a key
    pub end-told : 0 < rows → min (at * many + (if reaches l key (slice_index_or (rows_on bytes) (t - at * many) []) then t - at * many + 1 else t - at * many)) (level_size (shape_of l rows) level)
        ≡ end_of_key l list key level
    end-told some =
        let here = first-told in
        let fits = end-inside key level in
        ap (λ b. min (at * many + (if b then t - at * many + 1 else t - at * many)) (level_size (shape_of l rows) level)) (child-reached some)
        ∙ elim (cases_lt 0 (rank l list key)) [
          | inl more ↦ (let end = end-some key level more in rw (lt-ltb 0 (rank l list key) more) (omega arith))
          | inr none ↦ (
              let end = end-none key level (omega arith) in
              let first = place-none key level (omega arith) in
              rw (le-ltb 0 (rank l list key) none) (omega arith))
        ]

  -- a run ends before the page of a later range, or with it
  pub run-follows : (level : ℕ) (one two : K × K) (first second : Run) → Leads l list level one first → Leads l list level two second → l.order one.1 two.0 ≡ Less
      → first.end ≤ suc second.first
  run-follows level one two first second leads follows apart =
      let m = span (shape_of l (length list)) level in
      let low : rank l list one.1 ≤ rank l list two.0 = rank-mono l o list one.1 two.0 (isnt_greater _ (λ e. let both : Less ≡ Greater = sym apart ∙ e in cc)) in
      let f = follows.first_is in
      elim (cases_lt 0 (rank l list one.1)) [
        | inl some ↦ (
            let e = leads.end_is some in
            let g = end-some one.1 level some in
            let h : (rank l list one.1 - 1) / m ≤ (rank l list two.0 - 1) / m = div-mono (rank l list one.1 - 1) (rank l list two.0 - 1) m (span-some level) (omega arith) in
            omega arith)
        | inr none ↦ (let e = leads.none (omega arith) in omega arith)
      ]

  -- the run of the level below, from the first and the last page of a run
  pub run-told : (start : ℕ) (contents : Option (ℕ → List ℕ)) → IsShown l contents start rows list
      → (level : ℕ) → ((j : ℕ) → j < suc level → 1 < level_size (shape_of l rows) j) → (range : K × K) (run : Run) → Leads l list (suc level) range run → run.first < run.end
      → (at : ℕ) (left : InHand) → IsInHand l start rows contents (suc level) at left → at ≡ run.first
      → (last : ℕ) (right : InHand) → IsInHand l start rows contents (suc level) last right → last ≡ run.end - 1
      → (first end size : ℕ) → size ≡ level_size (shape_of l rows) level
      → ((place : ℕ) → IsLastUpTo l range.0 (rows_on left.buf) place → first ≡ at * most_rows l.inner + place)
      → ((place : ℕ) → IsLastUpTo l range.1 (rows_on right.buf) place
      → end ≡ min (last * most_rows l.inner + (if reaches l range.1 (slice_index_or (rows_on right.buf) place []) then place + 1 else place)) size)
      → record { first = first; end = end } ≡ run_of l list level range
  run-told start contents shown level up_to_root range run leads some at left in_left at_is last right in_right last_is first end size size_is firsts ends =
      let place : IsPlace (shape_of l rows) (suc level) at = record { inside = in_left.inside; up_to_root = up_to_root } in
      let place_last : IsPlace (shape_of l rows) (suc level) last = record { inside = in_right.inside; up_to_root = up_to_root } in
      let shows = shown_read l list start rows contents shown left.buf (suc level) at place in_left.told in
      let shows_last = shown_read l list start rows contents shown right.buf (suc level) last place_last in_right.told in
      let e = at_is ∙ leads.first_is in
      let f = last_is ∙ last_place (suc level) range run leads some in
      let filled = rows_above (shape_of l rows) level at a place in
      same_run first _ end _
      (firsts _ (in_page l o a b rows list is range.0 level at e left.buf shows) ∙ first-told range.0 level at e left.buf shows)
      (ends _ (in_page l o a b rows list is range.1 level last f right.buf shows_last)
      ∙ (ap (min (last * most_rows l.inner + (if reaches l range.1 (slice_index_or (rows_on right.buf) (place_of_key l list range.1 level - last * most_rows l.inner) []) then place_of_key l list range.1 level - last * most_rows l.inner + 1 else place_of_key l list range.1 level - last * most_rows l.inner))) size_is
      ∙ end-told range.1 level last f right.buf shows_last filled))
