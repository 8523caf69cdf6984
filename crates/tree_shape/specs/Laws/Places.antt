-- Where the pages of a tree stand, how many there are, and which rows are below them.
use Rattle.std.proofs.Common.{◌≡◌, ℕ, zero, suc, ◌+◌, ◌-◌, ◌*◌, ◌/◌, ◌^◌, ◌<◌, ◌≤◌, arith, refl, sym, ◌∙◌, ap, subst, inl, inr}
use Rattle.std.proofs.Math.Nat.{mul-le-mul_left, pow-zero}
use Rattle.std.proofs.Math.Numerals.{add-one}
use Rattle.std.proofs.lemmas.Bool.{cases_lt, cases_order}
use Rattle.std.proofs.lemmas.Grind.{div_ceil_times}
use Rattle.std.specs.Int.{div_ceil}
use Rattle.tree_shape.specs.declared.levels.Shape.{Shape}
use Rattle.tree_shape.specs.Shape.{level_size, level_start, span, IsPlace, IsRoot}
use Rattle.tree_shape.specs.Laws.Sizes.{level_start-zero, still_halved, few_levels}
use Rattle.tree_shape.specs.Laws.Covers.{level_size-zero, level_size-suc, span-zero, span-next}

-- each child but the first of a level has a row
pub child_has_row : (s : Shape) → 1 ≤ s.per_leaf → 2 ≤ s.per_inner → (level c : ℕ) → 1 ≤ c → c < level_size s level → c * span s level < s.rows
child_has_row s a b zero c some h =
    let times = (div_ceil_times s.rows s.per_leaf a).1 in
    let size = level_size-zero s in
    let c_below : suc c ≤ div_ceil s.rows s.per_leaf = omega (arith, size, h) in
    let more : s.per_leaf * suc c ≤ s.per_leaf * div_ceil s.rows s.per_leaf = mul-le-mul_left s.per_leaf c_below in
    rw (span-zero s) (omega (arith, times, more))
child_has_row s a b (suc level) c some h =
    let times = (div_ceil_times (level_size s level) s.per_inner (omega arith)).1 in
    let c_below : suc c ≤ div_ceil (level_size s level) s.per_inner = subst (λ n. c < n) (level_size-suc s level) h in
    let more : s.per_inner * suc c ≤ s.per_inner * div_ceil (level_size s level) s.per_inner = mul-le-mul_left s.per_inner c_below in
    let one : c * 1 ≤ c * s.per_inner = mul-le-mul_left c (omega arith) in
    let below = child_has_row s a b level (c * s.per_inner) (omega arith) (omega (arith, times, more)) in
    rw (span-next s level) (let e : c * (span s level * s.per_inner) ≡ c * s.per_inner * span s level = omega arith in rw e below)

pub root_unique : (s : Shape) (m n : ℕ) → IsRoot s m → IsRoot s n → m ≡ n
root_unique s m n a b =
    elim (cases_order m n) [
      | inl same ↦ same
      | inr apart ↦ elim apart [
        | inl lt ↦ absurd (let more = b.lowest m lt in let one = a.alone in omega arith)
        | inr gt ↦ absurd (let more = a.lowest n gt in let one = b.alone in omega arith)
      ]
    ]

level_start-suc : (s : Shape) (level : ℕ) → level_start s (suc level) ≡ level_start s level + level_size s level
unfolding level_start
level_start-suc s level = refl

half : (n b : ℕ) → 2 ≤ b → 2 * div_ceil n b ≤ n + 1
half n b q =
    let twice : n / b * 2 ≤ n / b * b = mul-le-mul_left (n / b) q in
    omega arith

-- all pages up to a level are about twice as many as the leaves at most
few_pages : (s : Shape) → 2 ≤ s.per_inner → (level : ℕ) → level_start s level + 2 * level_size s level ≤ 2 * level_size s 0 + level
few_pages s b zero = let none = level_start-zero s in omega arith
few_pages s b (suc level) =
    let below = few_pages s b level in
    let start = level_start-suc s level in
    let size = level_size-suc s level in
    let h = half (level_size s level) s.per_inner b in
    omega arith

pub few_leaves : (s : Shape) → 52 ≤ s.per_leaf → s.rows < 2 ^ 32 → level_size s 0 ≤ 82595526
few_leaves s a h =
    let size = level_size-zero s in
    let times = (div_ceil_times s.rows s.per_leaf (omega arith)).1 in
    let least : (div_ceil s.rows s.per_leaf - 1) * 52 ≤ (div_ceil s.rows s.per_leaf - 1) * s.per_leaf = mul-le-mul_left (div_ceil s.rows s.per_leaf - 1) a in
    elim (cases_lt 0 (div_ceil s.rows s.per_leaf)) [
      | inr none ↦ omega arith
      | inl some ↦ (
          let e : (div_ceil s.rows s.per_leaf - 1) * s.per_leaf + s.per_leaf ≡ s.per_leaf * div_ceil s.rows s.per_leaf = more (div_ceil s.rows s.per_leaf) s.per_leaf some in
          omega arith)
    ]
  where
    more : (d p : ℕ) → 0 < d → (d - 1) * p + p ≡ p * d
    more zero p h = absurd (omega arith)
    more (suc d) p h = let e : suc d - 1 ≡ d = omega arith in rw e (omega arith)

pub pages_fit : (s : Shape) → 52 ≤ s.per_leaf → 2 ≤ s.per_inner → s.rows < 2 ^ 32 → (level : ℕ) → level ≤ 255 → level_start s level + 2 * level_size s level < 2 ^ 31
pages_fit s a b h level low =
    let few = few_pages s b level in
    let leaves = few_leaves s a h in
    omega arith

-- a level stands behind those below it
start-later : (s : Shape) (low more : ℕ) → level_start s low + level_size s low ≤ level_start s (suc low + more)
start-later s low zero = let e = level_start-suc s low in let z : suc low + 0 ≡ suc low = omega arith in rw z (omega arith)
start-later s low (suc more) =
    let z : suc low + suc more ≡ suc (suc low + more) = omega arith in
    let e = level_start-suc s (suc low + more) in
    let below = start-later s low more in
    rw z (omega arith)

pub start-after : (s : Shape) (low high : ℕ) → low < high → level_start s low + level_size s low ≤ level_start s high
start-after s low high h = subst (λ n. level_start s low + level_size s low ≤ level_start s n) (omega arith) (start-later s low (high - suc low))

-- no page of an image stands behind its root
pub before_root : (s : Shape) (root level at : ℕ) → IsRoot s root → IsPlace s level at → level_start s level + at ≤ level_start s root
before_root s root level at at_root place = elim (cases_order level root) [
  | inl same ↦ (
      let inside : at < level_size s root = subst (λ n. at < level_size s n) same place.inside in
      let one = at_root.alone in
      let starts = ap (level_start s) same in
      omega arith)
  | inr apart ↦ elim apart [
    | inl lt ↦ (let after = start-after s level root lt in let inside = place.inside in omega arith)
    | inr gt ↦ absurd (let more = place.up_to_root root gt in let one = at_root.alone in omega arith)
  ]
]

-- two places with one number are one
pub same_level : (s : Shape) (a x b y : ℕ) → IsPlace s a x → IsPlace s b y → level_start s a + x ≡ level_start s b + y → a ≡ b
same_level s a x b y p q e = elim (cases_order a b) [
  | inl same ↦ same
  | inr apart ↦ elim apart [
    | inl lt ↦ absurd (let after = start-after s a b lt in let inside = p.inside in omega arith)
    | inr gt ↦ absurd (let after = start-after s b a gt in let inside = q.inside in omega arith)
  ]
]

-- what holds of one place with a number holds of each
pub at_place : (s : Shape) (P : ℕ → ℕ → Type 0) (n a x b y : ℕ) → IsPlace s a x → level_start s a + x ≡ n → P a x → IsPlace s b y → level_start s b + y ≡ n → P b y
at_place s P n a x b y p e h q f =
    let same = same_level s a x b y p q (e ∙ sym f) in
    let at : x ≡ y = let starts = ap (level_start s) same in omega arith in
    subst (λ level. P level y) same (subst (P a) at h)

-- the page at a place begins within its list
pub page_within : (s : Shape) → 1 ≤ s.per_leaf → 2 ≤ s.per_inner → (at : ℕ) → at < level_size s 0 → at * s.per_leaf ≤ s.rows
page_within s a b zero h = omega arith
page_within s a b (suc at) h =
    let row = child_has_row s a b 0 (suc at) (omega arith) h in
    let one = span-zero s in
    let e : suc at * span s 0 ≡ suc at * s.per_leaf = ap (λ n. suc at * n) one in
    omega arith

-- and so does a page above the leaves
pub page_begins : (s : Shape) → 2 ≤ s.per_inner → (below at : ℕ) → at < level_size s (suc below) → at * s.per_inner ≤ level_size s below
page_begins s b below at h =
    let size = level_size-suc s below in
    let times = (div_ceil_times (level_size s below) s.per_inner (omega arith)).1 in
    let last : suc at ≤ div_ceil (level_size s below) s.per_inner = omega arith in
    let more : s.per_inner * suc at ≤ s.per_inner * div_ceil (level_size s below) s.per_inner = mul-le-mul_left s.per_inner last in
    omega (arith, times, more)

-- the places of the level below a place
pub place_below : (s : Shape) (level at below_at : ℕ) → IsPlace s (suc level) at → below_at < level_size s level → IsPlace s level below_at
place_below s level at below_at place inside = record { inside = inside; up_to_root = λ j h. place.up_to_root j (omega arith) }

-- a tree with a level above its leaves has rows
pub rows_above : (s : Shape) (level at : ℕ) → 1 ≤ s.per_leaf → IsPlace s (suc level) at → 0 < s.rows
rows_above s level at a place =
    elim (cases_lt 0 s.rows) [
      | inl some ↦ some
      | inr none ↦ absurd (
          let more : 1 < level_size s 0 = place.up_to_root 0 (omega arith) in
          let size = level_size-zero s in
          let times = (div_ceil_times s.rows s.per_leaf a).1 in
          let zero_rows : s.rows ≡ 0 = omega arith in
          let none_needed : div_ceil s.rows s.per_leaf ≡ 0 = rw zero_rows (div_ceil-zero s.per_leaf a) in
          omega arith)
    ]
  where
    div_ceil-zero : (m : ℕ) → 1 ≤ m → div_ceil 0 m ≡ 0
    div_ceil-zero m a = omega arith

halves : (s : Shape) → 2 ≤ s.per_inner → level_size s 0 ≤ 2 ^ 32 → (level : ℕ) → (level_size s level - 1) * 2 ^ level ≤ 2 ^ 32
halves s b few zero = rw (pow-zero 2) (omega arith)
halves s b few (suc level) =
    let below = halves s b few level in
    let next = still_halved (level_size s level) s.per_inner level (2 ^ 32) b below in
    rw (level_size-suc s level) (subst (λ n. (div_ceil (level_size s level) s.per_inner - 1) * 2 ^ n ≤ 2 ^ 32) (add-one level) next)

pub number_fits : (s : Shape) → 52 ≤ s.per_leaf → 2 ≤ s.per_inner → s.rows < 2 ^ 32 → (level at : ℕ) → IsPlace s level at → level_start s level + at < 2 ^ 31
number_fits s a b h zero at place =
    let fits = pages_fit s a b h 0 (omega arith) in
    let inside = place.inside in
    omega arith
number_fits s a b h (suc level) at place =
    let few = few_leaves s a h in
    let more = place.up_to_root level (omega arith) in
    let low = few_levels (level_size s level) level 32 more (halves s b (omega arith) level) in
    let fits = pages_fit s a b h (suc level) (omega arith) in
    let inside = place.inside in
    omega arith

-- the first row below a child is one of the list's
pub first_row : (s : Shape) (below at child step : ℕ) → 1 ≤ s.per_leaf → 2 ≤ s.per_inner
    → IsPlace s (suc below) at → child < level_size s below → step ≡ span s below → child * step < s.rows
first_row s below at child step a b place within step_is =
    let e = ap (λ n. child * n) step_is in
    elim (cases_lt 0 child) [
      | inl some ↦ (let row = child_has_row s a b below child some within in omega (arith, row, e))
      | inr none ↦ (
          let first : child ≡ 0 = omega arith in
          let some = rows_above s below at a place in
          let z : child * step ≡ 0 * step = ap (λ n. n * step) first in
          omega (arith, some, z))
    ]
