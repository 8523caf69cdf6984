-- What a pass at rest has.
use Rattle.std.proofs.Common.{◌≡◌, true, true≢false, List, [], ◌∷◌, refl, sym}
use Rattle.turn_cell.specs.declared.view.Stage.{Stage}
use Rattle.turn_cell.specs.declared.view.Stage.TheVariants.{Resting, Serving}
use Rattle.turn_cell.specs.Resting.{is_resting, is_empty, has_some}

pub rests : (st : Stage) → is_resting st ≡ true → st ≡ Resting
rests Resting e = refl
rests (Serving t) e = absurd (true≢false (sym e))

module _ {A : Type 0} where
  pub is_nil : (l : List A) → is_empty l ≡ true → l ≡ []
  is_nil [] e = refl
  is_nil (x ∷ xs) e = absurd (true≢false (sym e))

  pub head_of : (l : List A) → has_some l ≡ true → (x : A) × (xs : List A) × (l ≡ x ∷ xs)
  head_of [] e = absurd (true≢false (sym e))
  head_of (x ∷ xs) e = (x, xs, refl)
