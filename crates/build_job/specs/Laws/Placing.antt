-- The pages of a tree and its places. No public contract needs these laws.
use Rattle.std.proofs.Common.{◌≡◌, ℕ, zero, suc, ◌+◌, ◌-◌, ◌<◌, arith, refl, inl, inr}
use Rattle.std.proofs.lemmas.Bool.{cases_lt}
use Rattle.tree_shape.specs.declared.levels.Shape.{Shape}
use Rattle.tree_shape.specs.Shape.{level_size, level_start, IsPlace}
use Rattle.tree_shape.specs.Laws.Places.{before_root}
use Rattle.tree_shape.specs.Laws.Sizes.{level_start-zero}
use Rattle.comp_dir.specs.Parts.{HasPages}

-- a page has a number
pub page_below : (s : Shape) (count : ℕ) → HasPages s count → (level at : ℕ) → IsPlace s level at → level_start s level + at < count
page_below s count has level at place =
    let counts = has.counts in
    let low = before_root s has.root level at has.is_root place in
    omega arith

level_start-suc : (s : Shape) (level : ℕ) → level_start s (suc level) ≡ level_start s level + level_size s level
unfolding level_start
level_start-suc s level = refl

-- a place of the tree has this number
abbrev pub HasPlace : Shape → ℕ → Type 0
HasPlace s n = (level at : ℕ) × IsPlace s level at × (level_start s level + at ≡ n)

place_below : (s : Shape) (top : ℕ) → ((below : ℕ) → below < top → 1 < level_size s below) → (n : ℕ) → n < level_start s top → HasPlace s n
place_below s zero more n h = let none = level_start-zero s in absurd (omega arith)
place_below s (suc level) more n h =
    let start = level_start-suc s level in
    elim (cases_lt n (level_start s level)) [
      | inl lower ↦ place_below s level (λ below b. more below (omega arith)) n lower
      | inr here ↦ (level, n - level_start s level, record { inside = omega arith; up_to_root = λ below b. more below (omega arith) }, omega arith)
    ]

-- and each number a place
pub place_of_page : (s : Shape) (count : ℕ) → HasPages s count → (n : ℕ) → n < count → HasPlace s n
place_of_page s count has n h =
    let counts = has.counts in
    let alone = has.is_root.alone in
    elim (cases_lt n (level_start s has.root)) [
      | inl lower ↦ place_below s has.root has.is_root.lowest n lower
      | inr last ↦ (has.root, 0, record { inside = omega arith; up_to_root = has.is_root.lowest }, omega arith)
    ]
