-- A search that goes on only where bounds meet the rectangle leaves nothing out.
use Rattle.std.proofs.Common.{◌≡◌, ℕ, zero, suc, ◌+◌, ◌-◌, ◌*◌, ◌<◌, ◌≤◌, min, Bool, true, false, List, [], ◌∷◌, ◌++◌, take, drop, length, arith, refl, sym, ◌∙◌, ap, subst, inl, inr}
use Rattle.std.specs.Prelude.{if◌then◌else◌, nat_lt}
use Rattle.std.specs.List.{filter, flat_map}
use Rattle.std.proofs.Math.Nat.{mul-le-mul_left}
use Rattle.std.proofs.Math.Seq.{take-add}
use Rattle.std.proofs.lemmas.Bool.{cases_Bool, true≢false, false_from_ne_true, lt-ltb, cases_lt}
use Rattle.std.proofs.lemmas.Grind.{div_ceil_times}
use Rattle.geo_base.specs.Corners.{Corners}
use Rattle.tree_shape.specs.declared.levels.Shape.{Shape}
use Rattle.tree_shape.specs.Shape.{level_size, span, numbers, IsRoot}
use Rattle.tree_shape.specs.Laws.Covers.{span-next, size_covers, level_size-suc}
use Rattle.tree_shape.specs.Laws.Numbers.{children_at-numbers, length-numbers}
use Rattle.page_codec.specs.Laws.Writing.{take_of_length-le}
use Rattle.rtree_image.specs.declared.rows.RtRow.{RtRow}
use Rattle.rtree_image.specs.Image.{rows_below}
use Rattle.rtree_image.specs.Visits.{is_inside, rows_inside, is_met, visited_at}
use Rattle.rtree_image.specs.Steps.{children_met}
use Rattle.rtree_image.proofs.Bounded.{part_met, none_inside}
use Rattle.rtree_image.proofs.Picked.{filter-append}

drop_again : {X : Type 0} (k y : ℕ) (xs : List X) → drop k (drop y xs) ≡ drop (y + k) xs
drop_again k zero xs = let e : zero + k ≡ k = omega arith in rw e refl
drop_again zero (suc y) [] = let e : suc y + zero ≡ suc y = omega arith in rw e refl
drop_again (suc k) (suc y) [] = let e : suc y + suc k ≡ suc (y + suc k) = omega arith in rw e refl
drop_again k (suc y) (x ∷ xs) = let e : suc y + k ≡ suc (y + k) = omega arith in rw e (drop_again k y xs)

module _ {X : Type 0} (test : X → Bool) (many : ℕ) (xs : List X) where
  -- a list comes in parts of one length
  abbrev part : ℕ → List X
  part p = take many (drop (p * many) xs)

  parts : (from n : ℕ) → flat_map part (numbers from n) ≡ take (n * many) (drop (from * many) xs)
  unfolding numbers
  parts from zero = let e : zero * many ≡ zero = omega arith in rw e refl
  parts from (suc n) =
      let e : suc n * many ≡ many + n * many = omega arith in
      let next : suc from * many ≡ from * many + many = omega arith in
      rw e (ap (λ ys. part from ++ ys) (parts (suc from) n ∙ ap (λ k. take (n * many) (drop k xs)) next ∙ ap (take (n * many)) (sym (drop_again many (from * many) xs)))
      ∙ sym (take-add many (n * many) (drop (from * many) xs)))

  -- parts without an element that passes may be left out
  pruned : (keep : ℕ → Bool) (from n : ℕ) → ((p : ℕ) → from ≤ p → p < from + n → keep p ≡ false → filter test (part p) ≡ [])
      → flat_map (λ p. filter test (part p)) (filter keep (numbers from n)) ≡ filter test (flat_map part (numbers from n))
  unfolding numbers
  pruned keep from zero none = refl
  pruned keep from (suc n) none =
      let rest = pruned keep (suc from) n (λ p low high. none p (omega arith) (omega arith)) in
      elim (cases_Bool (keep from)) [
        | inl kept ↦ rw kept (ap (λ ys. filter test (part from) ++ ys) rest ∙ sym (filter-append test (part from) (flat_map part (numbers (suc from) n))))
        | inr left ↦ rw left (rest ∙ (ap (λ ys. ys ++ filter test (flat_map part (numbers (suc from) n))) (sym (none from (omega arith) (omega arith) left))
            ∙ sym (filter-append test (part from) (flat_map part (numbers (suc from) n)))))
      ]

  pub all_parts : (keep : ℕ → Bool) (n : ℕ) → length xs ≤ n * many → ((p : ℕ) → p < n → keep p ≡ false → filter test (part p) ≡ [])
      → flat_map (λ p. filter test (part p)) (filter keep (numbers 0 n)) ≡ filter test xs
  all_parts keep n enough none =
      let z : 0 * many ≡ 0 = omega arith in
      pruned keep 0 n (λ p low high. none p (omega arith))
      ∙ ap (filter test) (parts 0 n ∙ (ap (λ k. take (n * many) (drop k xs)) z ∙ take_of_length-le xs (n * many) enough))

none_pass : (test : ℕ → Bool) (from n : ℕ) → ((c : ℕ) → from ≤ c → c < from + n → test c ≡ false) → filter test (numbers from n) ≡ []
unfolding numbers
none_pass test from zero h = refl
none_pass test from (suc n) h = rw (h from (omega arith) (omega arith)) (none_pass test (suc from) n (λ c low high. h c (omega arith) (omega arith)))

module _ (s : Shape) (a : 1 ≤ s.per_leaf) (b : 2 ≤ s.per_inner) (list : List RtRow) (count : length list ≡ s.rows) (rect : Corners) where
  -- a page is read: below the root where its bounds meet the rectangle
  abbrev kept : (root level : ℕ) → ℕ → Bool
  kept root level = if nat_lt level root then is_met s list rect level else (λ at. true)

  visited-kept : (root level : ℕ) → IsRoot s root → level ≤ root → visited_at s list rect root level ≡ filter (kept root level) (numbers 0 (level_size s level))
  unfolding numbers
  visited-kept root level at_root h = elim (cases_Bool (nat_lt level root)) [
    | inl below ↦ rw below refl
    | inr top ↦ rw top (
        let same : level ≡ root = elim (cases_lt level root) [
          | inl lt ↦ absurd (true≢false (sym (lt-ltb level root lt) ∙ top))
          | inr le ↦ omega arith
        ] in
        let one : level_size s level ≡ 1 = ap (level_size s) same ∙ at_root.alone in
        rw one refl)
  ]

  not_met : (root level at : ℕ) → kept root level at ≡ false → is_met s list rect level at ≡ false
  not_met root level at h = elim (cases_Bool (nat_lt level root)) [
    | inl below ↦ subst (λ c. (if c then is_met s list rect level else (λ at. true)) at ≡ false) below h
    | inr top ↦ absurd (true≢false (subst (λ c. (if c then is_met s list rect level else (λ at. true)) at ≡ false) top h))
  ]

  -- where the bounds of a child meet the rectangle, so do those of its page
  child_met : (level p c : ℕ) → p * s.per_inner ≤ c → c < p * s.per_inner + s.per_inner → is_met s list rect level c ≡ true → is_met s list rect (suc level) p ≡ true
  child_met level p c low high h =
      let next = span-next s level in
      let first : span s level * (p * s.per_inner) ≤ span s level * c = mul-le-mul_left (span s level) low in
      let last : span s level * suc c ≤ span s level * (p * s.per_inner + s.per_inner) = mul-le-mul_left (span s level) high in
      let begins : p * span s (suc level) ≡ span s level * (p * s.per_inner) = ap (λ n. p * n) next ∙ omega arith in
      part_met (span s level) (c * span s level) (span s (suc level)) (p * span s (suc level)) list rect
      (omega (arith, begins, first)) (omega (arith, begins, next, last)) h

  no_child_met : (level p : ℕ) → is_met s list rect (suc level) p ≡ false → children_met s list rect level p ≡ []
  no_child_met level p h =
      ap (filter (is_met s list rect level)) (children_at-numbers (level_size s level) s.per_inner p)
      ∙ none_pass (is_met s list rect level) (p * s.per_inner) (min s.per_inner (level_size s level - p * s.per_inner))
      (λ c low high. false_from_ne_true _ (λ met. true≢false (sym (child_met level p c low (omega arith) met) ∙ h)))

  -- the places to read in the level below
  pub next_places : (root level : ℕ) → IsRoot s root → level < root → flat_map (children_met s list rect level) (visited_at s list rect root (suc level)) ≡ visited_at s list rect root level
  next_places root level at_root h =
      let size = level_size s level in
      let times = (div_ceil_times size s.per_inner (omega arith)).0 in
      let long = length-numbers 0 size in
      let next = level_size-suc s level in
      let room : size ≤ level_size s (suc level) * s.per_inner = rw next (omega (arith, times)) in
      ap (flat_map (children_met s list rect level)) (visited-kept root (suc level) at_root h)
      ∙ (all_parts (is_met s list rect level) s.per_inner (numbers 0 size) (kept root (suc level)) (level_size s (suc level)) (omega (arith, long, room))
      (λ p inside left. no_child_met level p (not_met root (suc level) p left))
      ∙ sym (rw (lt-ltb level root h) refl))

  -- the rows of the leaves that are read
  pub found_rows : (root : ℕ) → IsRoot s root → flat_map (λ at. rows_inside rect (rows_below s list 0 at)) (visited_at s list rect root 0) ≡ rows_inside rect list
  found_rows root at_root =
      ap (flat_map (λ at. rows_inside rect (rows_below s list 0 at))) (visited-kept root 0 at_root (omega arith))
      ∙ all_parts (is_inside rect) (span s 0) list (kept root 0) (level_size s 0) (let covers = size_covers s a b 0 in omega arith)
      (λ p inside left. none_inside (rows_below s list 0 p) rect (not_met root 0 p left))
