-- What each step of a pass tells, and how passes are split and joined.
-- No public contract needs this file.
use Rattle.std.specs.Prelude.{◌≡◌, ◌≢◌, ℕ, ◌+◌, ◌-◌, ◌<◌, ◌⊎◌, Bool, Option, Some, List, [], ◌∷◌, ◌++◌, length}
use Rattle.atomic_table.specs.Table.{Me, Step, rest}
use Rattle.turn_cell.specs.declared.view.Stage.TheVariants.{Resting, Serving}
use Rattle.turn_cell.specs.declared.view.View.{View}
use Rattle.turn_cell.specs.History.{IsPrefix, Fits, longer}
use Rattle.turn_cell.specs.declared.limits.TheConstants.{MOST_TURNS}
use Rattle.turn_cell.specs.Rows.{row, own_of, number_of, adds, HasMade}
use Rattle.turn_cell.specs.Rule.{view, tally}

-- what a pass knows, and the slots that it holds
abbrev pub Seated : Type 0 → Type 0 → Type 0
Seated T E = Me (Option T) (View E)

module _ {T E : Type 0} where
  -- the pass has seen more of the history
  abbrev pub Watched : Seated T E → Seated T E → Type 0
  Watched m m' = (history : List E) × (m' ≡ (view Resting history m.0.tally, m.1)) × IsPrefix m.0.seen history

  -- the whole history was seen
  abbrev pub surveyed : Step (Option T) → Seated T E → ℕ → Seated T E → Type 0
  surveyed st m r m' = (history : List E) × (m' ≡ (view Resting history m.0.tally, m.1)) × IsPrefix m.0.seen history × (length history ≡ r)

  module _ (stands : T → List E → Type 0) (owner : E → Option ℕ) (draws : E → Bool) where
    -- The pass has the turn of this ticket, and with it the value, and what it had seen is the whole history
    abbrev pub HasTurn : Seated T E → ℕ → Seated T E → Type 0
    HasTurn m t m' =
        (x : T) × (m' ≡ (view (Serving t) m.0.seen m.0.tally, (0, Some x) ∷ m.1)) × stands x m.0.seen × Fits owner draws (own_of m.0.tally.rows) m.0.seen

    -- it saw the rest of the history, and then had its turn
    abbrev pub Claimed : Seated T E → ℕ → Seated T E → Type 0
    Claimed m t m' =
        (t < MOST_TURNS)
        × ((x : T) × (history : List E) × (m' ≡ (view (Serving t) history m.0.tally, (0, Some x) ∷ m.1))
        × IsPrefix m.0.seen history × (length history ≡ t) × stands x history × Fits owner draws (own_of m.0.tally.rows) history)

    -- the ticket was drawn, if it was still there
    abbrev pub drew : Step (Option T) → Seated T E → ℕ → Seated T E → Type 0
    drew st m r m' = ((r ≡ st.first) × HasTurn m st.first m') ⊎ ((r ≢ st.first) × (m' ≡ m))

    -- The turn is over, and added an entry of which `may` holds
    abbrev pub advanced : (E → Type 0) → Step (Option T) → Seated T E → ℕ → Seated T E → Type 0
    advanced may st m r m' =
        (e : E) × may e × (m' ≡ (view Resting (m.0.seen ++ e ∷ []) (tally m.0.tally.parts m.0.tally.splits (adds e m.0.tally.rows)), rest m.1))
        × ((x : T) × stands x (m.0.seen ++ e ∷ [])) × HasMade owner draws (adds e m.0.tally.rows) (m.0.seen ++ e ∷ [])

  -- nothing is known of the words by which passes wait
  abbrev pub noted : Step (Option T) → Seated T E → ℕ → Seated T E → Type 0
  noted st m r m' = m' ≡ m

  -- nothing changed, and each of the passes that are known made its own of what was seen
  abbrev pub recalled : (E → Option ℕ) → (E → Bool) → Step (Option T) → Seated T E → ℕ → Seated T E → Type 0
  recalled owner draws st m r m' = (m' ≡ m) × HasMade owner draws m.0.tally.rows m.0.seen

module _ {E : Type 0} where
  -- a pass gives up one part
  abbrev pub less_one : View E → View E
  less_one v = view v.stage v.seen (tally (v.tally.parts - 1) (v.tally.splits + 1) v.tally.rows)

  -- and a new pass, of a number that none has had, gets it
  abbrev pub with_one : View E → View E
  with_one v = view Resting v.seen (tally 1 0 (row (number_of v.tally.rows ++ v.tally.splits ∷ []) [] ∷ []))

  abbrev pub together : View E → View E → View E
  together v w = view v.stage (longer v.seen w.seen) (tally (v.tally.parts + w.tally.parts) v.tally.splits (v.tally.rows ++ w.tally.rows))
