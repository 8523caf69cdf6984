-- Passes by their numbers, and what each of them made of one history.
use Rattle.std.specs.Prelude.{◌≡◌, ℕ, ◌+◌, ◌≤◌, Bool, if◌then◌else◌, ◌==◌, Option, List, [], ◌∷◌, ◌++◌, length}
use mathlib.Core.Option.{some}
use lib.ListN.{get_elem?}
use Rattle.turn_cell.specs.declared.view.Row.{Row}
use Rattle.turn_cell.specs.History.{Picks, HasDrawer}

abbrev pub total : {A : Type 0} → (A → ℕ) → List A → ℕ
total f [] = 0
total f (x ∷ xs) = f x + total f xs

-- 1 where the numbers are the same
abbrev pub hit : List ℕ → List ℕ → ℕ
hit [] [] = 1
hit [] (y ∷ ys) = 0
hit (x ∷ xs) [] = 0
hit (x ∷ xs) (y ∷ ys) = if x == y then hit xs ys else 0

module _ {E : Type 0} where
  abbrev pub row : List ℕ → List E → Row E
  row number own = record { number = number; own = own }

  -- how often a number is one of these rows'
  abbrev pub hits : List ℕ → List (Row E) → ℕ
  hits number rows = total (λ r. hit number r.number) rows

  abbrev pub Every : (Row E → Type 0) → List (Row E) → Type 0
  Every P [] = Unit {0}
  Every P (r ∷ rs) = P r × Every P rs

  -- a sum over all entries of these rows
  abbrev pub made : (E → ℕ) → List (Row E) → ℕ
  made f rows = total (λ r. total f r.own) rows

  -- the first row is the pass's own
  abbrev pub own_of : List (Row E) → List E
  own_of [] = []
  own_of (r ∷ rs) = r.own

  abbrev pub number_of : List (Row E) → List ℕ
  number_of [] = []
  number_of (r ∷ rs) = r.number

  -- and the others are those of the passes that were joined into it
  abbrev pub joined_of : List (Row E) → List (Row E)
  joined_of [] = []
  joined_of (r ∷ rs) = rs

  -- one entry more in the first row
  abbrev pub adds : E → List (Row E) → List (Row E)
  adds e [] = []
  adds e (r ∷ rs) = row r.number (r.own ++ e ∷ []) ∷ rs

-- Each of the passes of these rows made exactly its own of these entries, in their order
pub record HasMade {E : Type 0} (owner : E → Option ℕ) (draws : E → Bool) (rows : List (Row E)) (seen : List E) : Type 0 where
  pub marks : List (List ℕ)
  pub marked : length marks ≡ length seen
  pub unique : (number : List ℕ) → hits number rows ≤ 1
  pub exact : Every (λ r. Picks r.number seen marks r.own) rows
  pub drawn : HasDrawer owner draws seen marks

-- and each entry is of one of these passes
pub record MadeBy {E : Type 0} (owner : E → Option ℕ) (draws : E → Bool) (rows : List (Row E)) (history : List E) : Type 0 where
  pub marks : List (List ℕ)
  pub marked : length marks ≡ length history
  pub known : (k : ℕ) (number : List ℕ) → get_elem? marks k ≡ some number → hits number rows ≡ 1
  pub unique : (number : List ℕ) → hits number rows ≤ 1
  pub exact : Every (λ r. Picks r.number history marks r.own) rows
  pub drawn : HasDrawer owner draws history marks
