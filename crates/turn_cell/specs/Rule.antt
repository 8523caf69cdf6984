-- The rule of a turn cell.
-- No public contract needs this file.
use Rattle.std.specs.Prelude.{◌≡◌, ℕ, ◌+◌, ◌<◌, ◌≤◌, ◌⊎◌, Bool, Option, Some, List, [], ◌∷◌, ◌++◌, map, length}
use mathlib.Core.Option.{some, none}
use lib.ListN.{get_elem?}
use Rattle.atomic_table.specs.Table.{State}
use Rattle.turn_cell.specs.declared.limits.TheConstants.{ALL_PARTS, MOST_TURNS}
use Rattle.turn_cell.specs.declared.view.Stage.{Stage}
use Rattle.turn_cell.specs.declared.view.Stage.TheVariants.{Resting, Serving}
use Rattle.turn_cell.specs.declared.view.Row.{Row}
use Rattle.turn_cell.specs.declared.view.Tally.{Tally}
use Rattle.turn_cell.specs.declared.view.View.{View}
use Rattle.turn_cell.specs.History.{IsPrefix, Picks, HasDrawer}
use Rattle.turn_cell.specs.Rows.{total, hits, Every, row}

-- 1 where it is the turn of the view
abbrev pub in_turn : Stage → ℕ
in_turn Resting = 0
in_turn (Serving t) = 1

module _ {E : Type 0} where
  -- how often a number is that of a row of these tallies
  abbrev pub found : List ℕ → List (Tally E) → ℕ
  found number tallies = total (λ t. hits number t.rows) tallies

  abbrev pub tally_of : View E → Tally E
  tally_of v = v.tally

  abbrev pub view : Stage → List E → Tally E → View E
  view stage seen tally = record { stage = stage; seen = seen; tally = tally }

  abbrev pub tally : ℕ → ℕ → List (Row E) → Tally E
  tally parts splits rows = record { parts = parts; splits = splits; rows = rows }

  abbrev pub first_view : View E
  first_view = view Resting [] (tally ALL_PARTS 0 (row [] [] ∷ []))

  abbrev pub spent_view : View E
  spent_view = view Resting [] (tally 0 0 [])

-- Turns, the slot and what was seen. Word 0 counts the turns that are over, word 1 those that were begun. Of the other words, by which passes wait, nothing is known
pub record Served {T E : Type 0} (stands : T → List E → Type 0) (history : List E) (s : State (Option T) (View E)) : Type 0 where
  pub begun : ℕ
  pub others : List ℕ
  pub words : s.words ≡ length history ∷ begun ∷ others
  pub few : length history ≤ MOST_TURNS
  pub count : begun ≡ length history + total (λ v. in_turn v.stage) s.views
  pub seen : (j : ℕ) (v : View E) → get_elem? s.views j ≡ some v → IsPrefix v.seen history
  pub serving : (j : ℕ) (v : View E) → get_elem? s.views j ≡ some v → (t : ℕ) → v.stage ≡ Serving t → (t ≡ length history) × (t < MOST_TURNS) × (v.seen ≡ history) × (0 < v.tally.parts)
  pub alone : (i j : ℕ) (v w : View E) (t u : ℕ) → get_elem? s.views i ≡ some v → get_elem? s.views j ≡ some w → v.stage ≡ Serving t → w.stage ≡ Serving u → i ≡ j
  pub slot : ((j : ℕ) × (v : View E) × (t : ℕ) × (get_elem? s.views j ≡ some v) × (v.stage ≡ Serving t) × (s.homes ≡ none ∷ [])) ⊎ ((x : T) × (s.homes ≡ some (Some x) ∷ []) × stands x history)

-- Whose each entry is
pub record Told {E : Type 0} (owner : E → Option ℕ) (draws : E → Bool) (history : List E) (marks : List (List ℕ)) (tallies : List (Tally E)) : Type 0 where
  pub marked : length marks ≡ length history
  pub shares : total (λ t. t.parts) tallies ≡ ALL_PARTS
  pub shared : (j : ℕ) (t : Tally E) → get_elem? tallies j ≡ some t → (r : Row E) (rs : List (Row E)) → t.rows ≡ r ∷ rs → 0 < t.parts
  pub unique : (number : List ℕ) → found number tallies ≤ 1
  pub known : (k : ℕ) (number : List ℕ) → get_elem? marks k ≡ some number → 1 ≤ found number tallies
  pub exact : (j : ℕ) (t : Tally E) → get_elem? tallies j ≡ some t → Every (λ r. Picks r.number history marks r.own) t.rows
  pub fresh : (j : ℕ) (t : Tally E) → get_elem? tallies j ≡ some t → (r : Row E) (rs : List (Row E)) → t.rows ≡ r ∷ rs → (k : ℕ) (more : List ℕ) → t.splits ≤ k → found (r.number ++ k ∷ more) tallies ≡ 0
  pub drawn : HasDrawer owner draws history marks

-- What the passes of a view's rows made lies in what the view has seen
abbrev pub InSeen : {E : Type 0} → List (List ℕ) → View E → Type 0
InSeen marks v = (k : ℕ) (number : List ℕ) → get_elem? marks k ≡ some number → 1 ≤ hits number v.tally.rows → k < length v.seen

module _ {T E : Type 0} (stands : T → List E → Type 0) (owner : E → Option ℕ) (draws : E → Bool) where
  -- There is one history for the cell
  abbrev pub OneHistory : State (Option T) (View E) → Type 0
  OneHistory s =
      (history : List E) × (marks : List (List ℕ)) × Served stands history s × Told owner draws history marks (map tally_of s.views)
      × ((j : ℕ) (v : View E) → get_elem? s.views j ≡ some v → InSeen marks v)
