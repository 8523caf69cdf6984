-- How many pages each level of a tree has. The leaves are level 0; the pages of a level stand behind those of the levels
-- below it, and the root is the last page.
use Rattle.std.specs.Prelude.{◌≡◌, ℕ, zero, suc, ◌+◌, ◌*◌, ◌^◌, ◌<◌, max, List, [], ◌∷◌, take, drop}
use Rattle.std.specs.Int.{div_ceil}
use Rattle.tree_shape.specs.declared.levels.Shape.{Shape}

-- how many pages a level has
unfoldable pub level_size : Shape → ℕ → ℕ
level_size s zero = max (div_ceil s.rows s.per_leaf) 1
level_size s (suc level) = div_ceil (level_size s level) s.per_inner

-- how many pages stand before a level
unfoldable pub level_start : Shape → ℕ → ℕ
level_start s zero = 0
level_start s (suc level) = level_start s level + level_size s level

-- how many rows stand below each full page of a level
abbrev pub span : Shape → ℕ → ℕ
span s level = s.per_leaf * s.per_inner ^ level

-- the root's level: the lowest with one page
pub record IsRoot (s : Shape) (level : ℕ) : Type 0 where
  pub alone : level_size s level ≡ 1
  pub lowest : (below : ℕ) → below < level → 1 < level_size s below

-- a page of the tree: a place of a level up to the root's
pub record IsPlace (s : Shape) (level at : ℕ) : Type 0 where
  pub inside : at < level_size s level
  pub up_to_root : (below : ℕ) → below < level → 1 < level_size s below

-- the numbers from one on
unfoldable pub numbers : (from count : ℕ) → List ℕ
numbers from zero = []
numbers from (suc n) = from ∷ numbers (suc from) n

-- the places of the children of a page, in a level of that size
abbrev pub children_at : (size many at : ℕ) → List ℕ
children_at size many at = take many (drop (at * many) (numbers 0 size))
