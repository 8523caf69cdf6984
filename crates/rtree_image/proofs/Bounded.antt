-- Where the bounds of some points meet a rectangle.
use Rattle.std.proofs.Common.{◌≡◌, ℕ, zero, suc, ◌+◌, ◌-◌, ◌<◌, ◌≤◌, min, max, true, false, List, [], ◌∷◌, ◌++◌, take, drop, length, get_or, arith, refl, sym, ◌∙◌, ap, subst, inl, inr}
use Rattle.std.proofs.lemmas.Bool.{leb-true, le-leb, and_parts, and_from, cases_Bool, true≢false}
use Rattle.std.proofs.lemmas.List.{take_more, drop-take}
use Rattle.geo_base.specs.Corners.{Corners}
use Rattle.geo_base.specs.Inside.{encloses}
use Rattle.geo_base.specs.declared.points.Point.{Point}
use Rattle.rtree_image.specs.declared.rows.RtRow.{RtRow}
use Rattle.rtree_image.specs.declared.bounds.Bounds.{Bounds}
use Rattle.rtree_image.specs.Bounds.{bounding, widened, meets}
use Rattle.rtree_image.specs.Visits.{rows_inside}

-- one point and then another, or the other way round
widened_twice : (b : Bounds) (p q : Point) → widened (widened b p) q ≡ widened (widened b q) p
widened_twice b p q =
    let x1 : min (min b.x1 p.x) q.x ≡ min (min b.x1 q.x) p.x = omega arith in
    let y1 : min (min b.y1 p.y) q.y ≡ min (min b.y1 q.y) p.y = omega arith in
    let x2 : max (max b.x2 p.x) q.x ≡ max (max b.x2 q.x) p.x = omega arith in
    let y2 : max (max b.y2 p.y) q.y ≡ max (max b.y2 q.y) p.y = omega arith in
    λ i. record { x1 = x1 i; y1 = y1 i; x2 = x2 i; y2 = y2 i }

bounding-snoc : (rows : List RtRow) (row : RtRow) → bounding (rows ++ row ∷ []) ≡ widened (bounding rows) row.point
unfolding bounding
bounding-snoc [] row = refl
bounding-snoc (first ∷ rows) row = ap (λ b. widened b first.point) (bounding-snoc rows row) ∙ widened_twice (bounding rows) row.point first.point

pub bounding-more : (rows : List RtRow) (i : ℕ) (d : RtRow) → i < length rows
    → bounding (take (i + 1) rows) ≡ widened (bounding (take i rows)) (get_or rows i d).point
bounding-more rows i d h = ap bounding (take_more rows i d h) ∙ bounding-snoc (take i rows) (get_or rows i d)

-- the four comparisons
record Meet (b : Bounds) (r : Corners) : Type 0 where
  left : b.x1 ≤ r.x2
  right : r.x1 ≤ b.x2
  low : b.y1 ≤ r.y2
  high : r.y1 ≤ b.y2

meet : (b : Bounds) (r : Corners) → meets b r ≡ true → Meet b r
meet b r h =
    let p = and_parts _ _ h in
    let q = and_parts _ _ p.0 in
    let s = and_parts _ _ q.0 in
    record { left = leb-true _ _ s.0; right = leb-true _ _ s.1; low = leb-true _ _ q.1; high = leb-true _ _ p.1 }

met : (b : Bounds) (r : Corners) → Meet b r → meets b r ≡ true
met b r m = and_from _ _ (and_from _ _ (and_from _ _ (le-leb _ _ m.left) (le-leb _ _ m.right)) (le-leb _ _ m.low)) (le-leb _ _ m.high)

still_met : (b : Bounds) (p : Point) (r : Corners) → meets b r ≡ true → meets (widened b p) r ≡ true
still_met b p r h =
    let m = meet b r h in
    let left = m.left in let right = m.right in let low = m.low in let high = m.high in
    met (widened b p) r (record { left = omega arith; right = omega arith; low = omega arith; high = omega arith })

-- a point inside makes them meet
met_by_point : (b : Bounds) (p : Point) (r : Corners) → encloses r p ≡ true → meets (widened b p) r ≡ true
met_by_point b p r h =
    let a = and_parts _ _ h in
    let c = and_parts _ _ a.0 in
    let d = and_parts _ _ c.0 in
    let x1 : r.x1 ≤ p.x = leb-true _ _ d.0 in
    let x2 : p.x ≤ r.x2 = leb-true _ _ d.1 in
    let y1 : r.y1 ≤ p.y = leb-true _ _ c.1 in
    let y2 : p.y ≤ r.y2 = leb-true _ _ a.1 in
    met (widened b p) r (record { left = omega arith; right = omega arith; low = omega arith; high = omega arith })

-- bounds that don't meet a rectangle have no point in it
pub none_inside : (rows : List RtRow) (r : Corners) → meets (bounding rows) r ≡ false → rows_inside r rows ≡ []
unfolding bounding
none_inside [] r h = refl
none_inside (row ∷ rows) r h =
    elim (cases_Bool (encloses r row.point)) [
      | inl inside ↦ absurd (true≢false (sym (met_by_point (bounding rows) row.point r inside) ∙ h))
      | inr outside ↦ elim (cases_Bool (meets (bounding rows) r)) [
        | inl more ↦ absurd (true≢false (sym (still_met (bounding rows) row.point r more) ∙ h))
        | inr none ↦ rw outside (none_inside rows r none)
      ]
    ]

met_behind : (k : ℕ) (rows : List RtRow) (r : Corners) → meets (bounding (drop k rows)) r ≡ true → meets (bounding rows) r ≡ true
unfolding bounding
met_behind zero rows r h = h
met_behind (suc k) [] r h = h
met_behind (suc k) (row ∷ rows) r h = still_met (bounding rows) row.point r (met_behind k rows r h)

-- the bounds of a front lie within those of all
record Lies (a b : Bounds) : Type 0 where
  x1 : b.x1 ≤ a.x1
  y1 : b.y1 ≤ a.y1
  x2 : a.x2 ≤ b.x2
  y2 : a.y2 ≤ b.y2

lies-widened : (a b : Bounds) (p : Point) → Lies a b → Lies (widened a p) (widened b p)
lies-widened a b p l =
    let x1 = l.x1 in let y1 = l.y1 in let x2 = l.x2 in let y2 = l.y2 in
    record { x1 = omega arith; y1 = omega arith; x2 = omega arith; y2 = omega arith }

lies-more : (a b : Bounds) (p : Point) → Lies a b → Lies a (widened b p)
lies-more a b p l =
    let x1 = l.x1 in let y1 = l.y1 in let x2 = l.x2 in let y2 = l.y2 in
    record { x1 = omega arith; y1 = omega arith; x2 = omega arith; y2 = omega arith }

lies-empty : (rows : List RtRow) → Lies (bounding []) (bounding rows)
unfolding bounding
lies-empty [] = record { x1 = omega arith; y1 = omega arith; x2 = omega arith; y2 = omega arith }
lies-empty (row ∷ rows) = lies-more (bounding []) (bounding rows) row.point (lies-empty rows)

lies-front : (n : ℕ) (rows : List RtRow) → Lies (bounding (take n rows)) (bounding rows)
unfolding bounding
lies-front n [] = subst (λ xs. Lies (bounding xs) (bounding [])) (sym (take_none n)) (lies-empty [])
  where
    take_none : (n : ℕ) → take {A = RtRow} n [] ≡ []
    take_none zero = refl
    take_none (suc n) = refl
lies-front zero (row ∷ rows) = lies-empty (row ∷ rows)
lies-front (suc n) (row ∷ rows) = lies-widened (bounding (take n rows)) (bounding rows) row.point (lies-front n rows)

lies-met : (a b : Bounds) (r : Corners) → Lies a b → meets a r ≡ true → meets b r ≡ true
lies-met a b r l h =
    let m = meet a r h in
    let x1 = l.x1 in let y1 = l.y1 in let x2 = l.x2 in let y2 = l.y2 in
    let left = m.left in let right = m.right in let low = m.low in let high = m.high in
    met b r (record { left = omega arith; right = omega arith; low = omega arith; high = omega arith })

take_shorter : (n b : ℕ) (rows : List RtRow) → n ≤ b → take n (take b rows) ≡ take n rows
take_shorter zero b rows h = refl
take_shorter (suc n) zero rows h = absurd (omega arith)
take_shorter (suc n) (suc b) [] h = refl
take_shorter (suc n) (suc b) (row ∷ rows) h = ap (λ xs. row ∷ xs) (take_shorter n b rows (omega arith))

drop_again : (k y : ℕ) (rows : List RtRow) → drop k (drop y rows) ≡ drop (y + k) rows
drop_again k zero rows = let e : zero + k ≡ k = omega arith in rw e refl
drop_again zero (suc y) [] = let e : suc y + zero ≡ suc y = omega arith in rw e refl
drop_again (suc k) (suc y) [] = let e : suc y + suc k ≡ suc (y + suc k) = omega arith in rw e refl
drop_again k (suc y) (row ∷ rows) = let e : suc y + k ≡ suc (y + k) = omega arith in rw e (drop_again k y rows)

-- where a part meets the rectangle, so does what it is a part of
pub part_met : (a x b y : ℕ) (rows : List RtRow) (r : Corners) → y ≤ x → x + a ≤ y + b
    → meets (bounding (take a (drop x rows))) r ≡ true → meets (bounding (take b (drop y rows))) r ≡ true
part_met a x b y rows r low high h =
    let k = x - y in
    let here : y + k ≡ x = omega arith in
    let all : k + a ≤ b = omega arith in
    let e : drop k (take (k + a) (drop y rows)) ≡ take a (drop x rows) =
    drop-take k a (drop y rows) ∙ ap (take a) (drop_again k y rows ∙ ap (λ n. drop n rows) here) in
    let front = met_behind k (take (k + a) (drop y rows)) r (subst (λ xs. meets (bounding xs) r ≡ true) (sym e) h) in
    lies-met (bounding (take (k + a) (drop y rows))) (bounding (take b (drop y rows))) r
    (subst (λ xs. Lies (bounding xs) (bounding (take b (drop y rows)))) (take_shorter (k + a) b (drop y rows) all) (lies-front (k + a) (take b (drop y rows)))) front
