-- A pass between two calls.
-- No public contract needs this file.
use Rattle.std.specs.Prelude.{◌≡◌, Bool, true, false, List, [], ◌∷◌}
use Rattle.turn_cell.specs.declared.view.Stage.{Stage}
use Rattle.turn_cell.specs.declared.view.Stage.TheVariants.{Resting, Serving}
use Rattle.turn_cell.specs.Steps.{Seated}

abbrev pub is_resting : Stage → Bool
is_resting Resting = true
is_resting (Serving t) = false

abbrev pub is_empty : {A : Type 0} → List A → Bool
is_empty [] = true
is_empty (x ∷ xs) = false

abbrev pub has_some : {A : Type 0} → List A → Bool
has_some [] = false
has_some (x ∷ xs) = true

module _ {T E : Type 0} where
  -- it has no turn and not the slot, and was not joined into another
  abbrev pub IsAtRest : Seated T E → Type 0
  IsAtRest m = (is_resting m.0.stage ≡ true) × (is_empty m.1 ≡ true) × (has_some m.0.tally.rows ≡ true)
