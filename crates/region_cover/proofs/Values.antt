-- The values of the parts of a square of the curve.
use Rattle.std.proofs.Common.{◌≡◌, ℕ, zero, suc, ◌+◌, ◌-◌, ◌*◌, ◌^◌, ◌<◌, ◌≤◌, ◌↔◌, ◌⊎◌, inl, inr, arith, rules, ap, sym, ◌∙◌, subst, refl, List, Option, Some, None, Bool, true, false, IsTrue}
use Rattle.std.specs.Option.{IsSomeAnd, IfSome}
use Rattle.std.proofs.Math.Nat.{mul-le-mul_left}
use Rattle.std.proofs.lemmas.Nat.{pow_pos}
use Rattle.std.proofs.lemmas.Bool.{cases_order}
use Rattle.hilbert_key.specs.Curve.{curve_value}
use Rattle.hilbert_key.specs.laws.Quadrants.{raised, lies, curve_value-raised}
use Rattle.hilbert_key.specs.laws.Bounds.{curve_value-lt, square-suc, square_pos, last_place}
use Rattle.hilbert_key.specs.laws.Points.{point_at}
use Rattle.region_cover.proofs.Gathering.{Adds-both, Adds-same}
use Rattle.region_cover.specs.Steps.{Has, IsPart, HasValue, Adds}
use Rattle.region_cover.specs.declared.ranges.Range.{Range}
use Rattle.region_cover.specs.declared.parts.Part.{Part}

-- a whole square has one stretch of values
pub whole_values : (k first v : ℕ) (part : Part) → part.x.first ≡ 0 → part.x.last + 1 ≡ 2 ^ k → part.y.first ≡ 0 → part.y.last + 1 ≡ 2 ^ k
    → ((first ≤ v) × (v ≤ first + ((2 ^ k - 1) * 2 ^ k + (2 ^ k - 1)))) ↔ HasValue k first part v
whole_values k first v part a b c d = (to, from)
  where
    to : (first ≤ v) × (v ≤ first + ((2 ^ k - 1) * 2 ^ k + (2 ^ k - 1))) → HasValue k first part v
    to h =
        let l = last_place (2 ^ k) (pow_pos k) in
        let p = point_at k (v - first) (omega (arith, h.0, h.1)) in
        ((p.x, p.y), ((omega arith, omega (arith, p.x_below)), (omega arith, omega (arith, p.y_below))), omega (arith, p.value, h.0))

    from : HasValue k first part v → (first ≤ v) × (v ≤ first + ((2 ^ k - 1) * 2 ^ k + (2 ^ k - 1)))
    from h =
        let l = last_place (2 ^ k) (pow_pos k) in
        let x_in : h.0.0 < 2 ^ k = omega (arith, h.1.0.1) in
        let y_in : h.0.1 < 2 ^ k = omega (arith, h.1.1.1) in
        let below = curve_value-lt k h.0.0 h.0.1 x_in y_in in
        (omega (arith, h.2), omega (arith, h.2, below))

-- the values of a part that come before the quadrant q
abbrev pub HasValueBefore : (q k first : ℕ) → Part → ℕ → Type 0
HasValueBefore q k first part v = HasValue (suc k) first part v × (v < first + q * 2 ^ k * 2 ^ k)

-- what the code says of the part in a quadrant
abbrev pub IsInner : (q half : ℕ) → Part → Option Part → Type 0
IsInner q half part inner = (u w : ℕ) → u < half → w < half → IsSomeAnd inner (λ p. Has p (u, w)) ↔ Has part (raised half q u w)

product_up : (q r n m : ℕ) → q ≤ r → q * n * m ≤ r * n * m
product_up q r n m h = let t : n * m * q ≤ n * m * r = mul-le-mul_left (n * m) h in omega arith

-- what holds of the thing in an option that holds of it by another fact
some_map : (o : Option Part) (P Q : Part → Type 0) → ((p : Part) → P p → Q p) → IsSomeAnd o P → IsSomeAnd o Q
some_map None P Q f h = h
some_map (Some p) P Q f h = f p h

-- a value in a quadrant is one in the square before the next quadrant
from_quadrant : (q k first v : ℕ) (part : Part) (inner : Option Part) → q < 4 → IfSome inner (IsPart (2 ^ k)) → IsInner q (2 ^ k) part inner
    → IsSomeAnd inner (λ p. HasValue k (first + q * 2 ^ k * 2 ^ k) p v) → HasValueBefore (q + 1) k first part v
from_quadrant q k first v part None q_in inner_in is h = absurd h
from_quadrant q k first v part (Some p) q_in p_in is b =
    let u_in : b.0.0 < 2 ^ k = omega (arith, b.1.0.1, p_in.0.1) in
    let w_in : b.0.1 < 2 ^ k = omega (arith, b.1.1.1, p_in.1.1) in
    let has = (is b.0.0 b.0.1 u_in w_in).0 b.1 in
    let value = curve_value-raised k q b.0.0 b.0.1 q_in u_in w_in in
    let below = curve_value-lt k b.0.0 b.0.1 u_in w_in in
    ((raised (2 ^ k) q b.0.0 b.0.1, has, omega (arith, value, b.2)), omega (arith, b.2, below))

-- before the next quadrant lie those before this one and those in it
pub quadrant_values : (q k first v : ℕ) (part : Part) (inner : Option Part) → q < 4 → IsPart (2 ^ suc k) part → IfSome inner (IsPart (2 ^ k)) → IsInner q (2 ^ k) part inner
    → HasValueBefore (q + 1) k first part v ↔ (HasValueBefore q k first part v ⊎ IsSomeAnd inner (λ p. HasValue k (first + q * 2 ^ k * 2 ^ k) p v))
quadrant_values q k first v part inner q_in part_in inner_in is = (to, from)
  where
    to : HasValueBefore (q + 1) k first part v → HasValueBefore q k first part v ⊎ IsSomeAnd inner (λ p. HasValue k (first + q * 2 ^ k * 2 ^ k) p v)
    to h =
        let has = h.0.1 in
        let x_in : h.0.0.0 < 2 ^ suc k = omega (arith, has.0.1, part_in.0.1) in
        let y_in : h.0.0.1 < 2 ^ suc k = omega (arith, has.1.1, part_in.1.1) in
        let there = lies k h.0.0.0 h.0.0.1 x_in y_in in
        let below = curve_value-lt k there.x_there there.y_there there.x_below there.y_below in
        elim (cases_order there.quadrant q) [
          | inl e ↦
              let at : raised (2 ^ k) q there.x_there there.y_there ≡ h.0.0 = ap (λ n. raised (2 ^ k) n there.x_there there.y_there) (sym e) ∙ there.point in
              let inside = (is there.x_there there.y_there there.x_below there.y_below).1 (subst (Has part) (sym at) has) in
              let same : there.quadrant * 2 ^ k * 2 ^ k ≡ q * 2 ^ k * 2 ^ k = ap (λ n. n * 2 ^ k * 2 ^ k) e in
              let value : first + q * 2 ^ k * 2 ^ k + curve_value k there.x_there there.y_there ≡ v = omega (arith, there.value, h.0.2, same) in
              inr (some_map inner (λ p. Has p (there.x_there, there.y_there)) (λ p. HasValue k (first + q * 2 ^ k * 2 ^ k) p v)
              (λ p in_p. ((there.x_there, there.y_there), in_p, value)) inside)
          | inr o ↦ elim o [
            | inl less ↦
                let up = product_up (there.quadrant + 1) q (2 ^ k) (2 ^ k) (omega arith) in
                inl (h.0, omega (arith, there.value, h.0.2, up, below))
            | inr more ↦ absurd (
                let up = product_up (q + 1) there.quadrant (2 ^ k) (2 ^ k) (omega arith) in
                omega (arith, there.value, h.0.2, h.1, up))
          ]
        ]

    from : HasValueBefore q k first part v ⊎ IsSomeAnd inner (λ p. HasValue k (first + q * 2 ^ k * 2 ^ k) p v) → HasValueBefore (q + 1) k first part v
    from h = elim h [
      | inl a ↦ let up = product_up q (q + 1) (2 ^ k) (2 ^ k) (omega arith) in (a.0, omega (arith, a.1, up))
      | inr b ↦ from_quadrant q k first v part inner q_in inner_in is b
    ]

pub nothing_before : (k first : ℕ) (part : Part) (v : ℕ) → HasValueBefore 0 k first part v → ⊥
nothing_before k first part v h = absurd (omega (arith, h.0.2, h.1))

-- before the end of the square lie all
pub all_before : (order k first : ℕ) (part : Part) (v : ℕ) → order ≡ suc k → IsPart (2 ^ order) part → HasValueBefore 4 k first part v ↔ HasValue order first part v
all_before order k first part v e part_in = rw e (
  (λ h. h.0),
  λ h.
      let e' = e in
      let x_in : h.0.0 < 2 ^ suc k = omega (arith, h.1.0.1, (rw e at part_in).0.1) in
      let y_in : h.0.1 < 2 ^ suc k = omega (arith, h.1.1.1, (rw e at part_in).1.1) in
      let below = curve_value-lt (suc k) h.0.0 h.0.1 x_in y_in in
      (h, omega (arith, h.2, below, square-suc k)),
)

-- a part that isn't the whole lies in a square of more than one point
pub not_whole : (order side : ℕ) (part : Part) (b : Bool) → side ≡ 2 ^ order → IsPart (2 ^ order) part
    → (IsTrue b ↔ ((part.x.first ≡ 0) × (part.x.last + 1 ≡ side) × (part.y.first ≡ 0) × (part.y.last + 1 ≡ side))) → b ≡ false
    → order ≡ suc (order - 1)
not_whole zero side part b e part_in is off =
    let x : part.x.last + 1 ≡ 1 = omega (arith, part_in.0.0, part_in.0.1) in
    let y : part.y.last + 1 ≡ 1 = omega (arith, part_in.1.0, part_in.1.1) in
    let on : b ≡ true = is.1 (omega (arith, part_in.0.0, part_in.0.1), x ∙ sym e, omega (arith, part_in.1.0, part_in.1.1), y ∙ sym e) in
    cc
not_whole (suc k) side part b e part_in is off = omega arith

-- a quadrant has room where its square has
pub quadrant_room : (order k first q h n : ℕ) → order ≡ suc k → h ≡ 2 ^ k → q < 4 → first + 2 ^ order * 2 ^ order ≤ n
    → first + q * h * h + 2 ^ k * 2 ^ k ≤ n
quadrant_room order k first q h n e half q_in room =
    let up = product_up (q + 1) 4 (2 ^ k) (2 ^ k) (omega arith) in
    let all : first + 2 ^ suc k * 2 ^ suc k ≤ n = rw e at room in
    rw half (omega (arith, square-suc k, all, up))

-- before the next quadrant
pub next_quadrant : (first q h k : ℕ) → h ≡ 2 ^ k → first + q * h * h + 2 ^ k * 2 ^ k ≡ first + (q + 1) * 2 ^ k * 2 ^ k
next_quadrant first q h k e = rw e (omega arith)

pub four_quadrants : (first order k : ℕ) → order ≡ suc k → first + 4 * 2 ^ k * 2 ^ k ≡ first + 2 ^ order * 2 ^ order
four_quadrants first order k e = rw e (omega (arith, square-suc k))

pub whole_side : (order first v side : ℕ) (part : Part) → side ≡ 2 ^ order
    → (part.x.first ≡ 0) × (part.x.last + 1 ≡ side) × (part.y.first ≡ 0) × (part.y.last + 1 ≡ side)
    → ((first ≤ v) × (v ≤ first + ((side - 1) * side + (side - 1)))) ↔ HasValue order first part v
whole_side order first v side part e h = rw e (whole_values order first v part h.0 (h.1 ∙ e) h.2 (h.3 ∙ e))

-- a quadrant begins below the end of the square
pub quadrant_below : (order k first q h n : ℕ) → order ≡ suc k → h ≡ 2 ^ k → q < 4 → first + 2 ^ order * 2 ^ order ≤ n
    → first + q * h * h < n
quadrant_below order k first q h n e half q_in room =
    omega (arith, quadrant_room order k first q h n e half q_in room, square_pos k)

-- one more quadrant has been added
pub with_quadrant : (order k first q h : ℕ) (part p : Part) (old middle new : List Range) → order ≡ suc k → h ≡ 2 ^ k → q < 4
    → IsPart (2 ^ order) part → IsPart h p → IsInner q h part (Some p)
    → Adds (HasValueBefore q k first part) old middle → Adds (HasValue k (first + q * h * h) p) middle new
    → Adds (HasValueBefore (q + 1) k first part) old new
with_quadrant order k first q h part p old middle new e half q_in part_in p_in inner one two =
    Adds-both (HasValueBefore q k first part) (HasValue k (first + q * 2 ^ k * 2 ^ k) p) (HasValueBefore (q + 1) k first part) old middle new
    (λ v. quadrant_values q k first v part (Some p) q_in (subst (λ n. IsPart (2 ^ n) part) e part_in) (subst (λ n. IsPart n p) half p_in)
    (subst (λ n. IsInner q n part (Some p)) half inner))
    one (subst (λ n. Adds (HasValue k (first + q * n * n) p) middle new) half two)

-- one more quadrant, where the part has nothing
pub without_quadrant : (order k first q h : ℕ) (part : Part) (inner : Option Part) (old new : List Range) → order ≡ suc k → h ≡ 2 ^ k → q < 4
    → IsPart (2 ^ order) part → inner ≡ None → IsInner q h part inner
    → Adds (HasValueBefore q k first part) old new → Adds (HasValueBefore (q + 1) k first part) old new
without_quadrant order k first q h part inner old new e half q_in part_in none is one =
    let is' = subst (λ o. IsInner q (2 ^ k) part o) none (subst (λ n. IsInner q n part inner) half is) in
    Adds-same (HasValueBefore q k first part) (HasValueBefore (q + 1) k first part) old new
    (λ v. let n = quadrant_values q k first v part None q_in (subst (λ n. IsPart (2 ^ n) part) e part_in) (search rules) is' in
    ((λ a. n.1 (inl a)), (λ b. elim (n.0 b) [ inl a ↦ a | inr none ↦ absurd none ]))) one

-- what is nothing of all that it may be is None
pub is_none : (o : Option Part) → ((p : Part) → o ≡ Some p → ⊥) → o ≡ None
is_none None h = refl
is_none (Some p) h = absurd (h p refl)
