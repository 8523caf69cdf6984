-- One history, and whose each entry of it is.
use Rattle.std.specs.Prelude.{◌≡◌, ◌≢◌, ℕ, ◌≤◌, ◌⊎◌, Bool, true, if◌then◌else◌, ltb, Option, Some, None, List, [], ◌∷◌, ◌++◌, length}
use mathlib.Core.Option.{some}
use lib.ListN.{get_elem?}

module _ {E : Type 0} where
  -- the history goes on from what was seen
  abbrev pub IsPrefix : List E → List E → Type 0
  IsPrefix seen history = (rest : List E) × (history ≡ seen ++ rest)

  abbrev pub longer : List E → List E → List E
  longer a b = if ltb (length a) (length b) then b else a

  -- each entry stands beside the number of the pass that made it, and these are the entries beside this number, in order
  abbrev pub Picks : List ℕ → List E → List (List ℕ) → List E → Type 0
  Picks number [] [] own = own ≡ []
  Picks number [] (m ∷ ms) own = ⊥
  Picks number (e ∷ es) [] own = ⊥
  Picks number (e ∷ es) (m ∷ ms) own = ((m ≡ number) × ((rest : List E) × (own ≡ e ∷ rest) × Picks number es ms rest)) ⊎ ((m ≢ number) × Picks number es ms own)

  module _ (owner : E → Option ℕ) (draws : E → Bool) where
    -- an entry that draws this owner
    abbrev pub IsDraw : ℕ → E → Type 0
    IsDraw o e = (draws e ≡ true) × (owner e ≡ Some o)

    -- no owner is drawn at two places
    abbrev pub DrawsOnce : List E → Type 0
    DrawsOnce history = (i j : ℕ) (a b : E) (o : ℕ) → get_elem? history i ≡ some a → get_elem? history j ≡ some b → IsDraw o a → IsDraw o b → i ≡ j

    -- each entry with an owner is of the pass that drew that owner, at an earlier entry or by this one
    abbrev pub HasDrawer : List E → List (List ℕ) → Type 0
    HasDrawer history marks =
        (j : ℕ) (b : E) (o : ℕ) → get_elem? history j ≡ some b → owner b ≡ Some o
        → (i : ℕ) × (a : E) × (i ≤ j) × (get_elem? history i ≡ some a) × IsDraw o a × (get_elem? marks i ≡ get_elem? marks j)

    -- from the draw of an owner on, each entry of that owner is of the pass that drew it
    abbrev pub StaysWithDrawer : List E → List (List ℕ) → Type 0
    StaysWithDrawer history marks =
        (i j : ℕ) (a b : E) (o : ℕ) → i ≤ j → get_elem? history i ≡ some a → get_elem? history j ≡ some b → IsDraw o a → owner b ≡ Some o → get_elem? marks i ≡ get_elem? marks j

    -- these entries of the history are those of one pass, and each entry with an owner is of the pass that drew that owner
    abbrev pub Fits : List E → List E → Type 0
    Fits own history = (number : List ℕ) × (marks : List (List ℕ)) × Picks number history marks own × HasDrawer history marks

    -- the entry draws its owner, has none, or has one that one of these entries drew
    abbrev pub MayHaveOwner : List E → E → Type 0
    MayHaveOwner own e = (draws e ≡ true) ⊎ ((owner e ≡ None) ⊎ ((o : ℕ) × (owner e ≡ Some o) × ((k : ℕ) × (a : E) × (get_elem? own k ≡ some a) × IsDraw o a)))
