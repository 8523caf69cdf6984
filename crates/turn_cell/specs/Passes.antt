-- A pass as its callers see it.
use Rattle.std.specs.Prelude.{◌≡◌, ℕ, ◌<◌, Bool, Option, List, [], ◌∷◌, ◌++◌, length}
use Rattle.atomic_table.specs.Seated.{TableId}
use Rattle.turn_cell.specs.declared.limits.TheConstants.{MOST_TURNS}
use Rattle.turn_cell.specs.declared.view.Row.{Row}
use Rattle.turn_cell.specs.declared.turned.Turned.{Ghosts}
use Rattle.turn_cell.specs.declared.pass.Pass.{Pass}
use Rattle.turn_cell.specs.declared.cell.TurnCell.{TurnCell}
use Rattle.turn_cell.specs.History.{Fits, MayHaveOwner}
use Rattle.turn_cell.specs.Rows.{own_of, number_of, joined_of}

module _ {T E : Type 0} {g : Ghosts T E} where
  -- which cell it is of
  abbrev pub table_of : Pass T E g → TableId
  table_of p = p.seat.table_id

  -- the history as far as the pass has seen it
  abbrev pub seen : Pass T E g → List E
  seen p = p.seat.me.0.seen

  -- the entries that it made
  abbrev pub own : Pass T E g → List E
  own p = own_of p.seat.me.0.tally.rows

  abbrev pub number : Pass T E g → List ℕ
  number p = number_of p.seat.me.0.tally.rows

  abbrev pub parts : Pass T E g → ℕ
  parts p = p.seat.me.0.tally.parts

  -- its own number and entries, and those of the passes that were joined into it
  abbrev pub rows : Pass T E g → List (Row E)
  rows p = p.seat.me.0.tally.rows

  -- the numbers and entries of the passes that were joined into it
  abbrev pub joined : Pass T E g → List (Row E)
  joined p = joined_of p.seat.me.0.tally.rows

module _ {T E A : Type 0} {g : Ghosts T E} where
  -- the pass is of this cell
  abbrev pub IsPassOf : TurnCell T A E → Pass T E g → Type 0
  IsPassOf cell p = table_of p ≡ cell.table.shared.table_id

-- the call may be made wherever this pass may come to its turn
abbrev pub MayRun : {T E C : Type 0} → (T → List E → Type 0) → (E → Option ℕ) → (E → Bool) → (C → List E → List E → Type 0) → C → List E → Type 0
MayRun {T} {E} stands owner draws may call own = (history : List E) (x : T) → length history < MOST_TURNS → stands x history → Fits owner draws own history → may call own history

-- each entry that the call may add draws its owner, has none, or has one that the pass drew
abbrev pub IsOfDrawn : {E C Out : Type 0} → (E → Option ℕ) → (E → Bool) → (C → Out → E → Type 0) → C → List E → Type 0
IsOfDrawn {E} {C} {Out} owner draws tells call own = (out : Out) (entry : E) → tells call out entry → MayHaveOwner owner draws own entry

module _ {T E : Type 0} {g : Ghosts T E} where
  -- what was seen became the history up to this entry, which is one more of the pass's own
  abbrev pub Adds : Pass T E g → E → Pass T E g → Type 0
  Adds p entry q = ((between : List E) × (seen q ≡ (seen p ++ between) ++ entry ∷ [])) × (own q ≡ own p ++ entry ∷ [])

  -- all but what it saw and made itself is as it was
  abbrev pub IsSamePass : Pass T E g → Pass T E g → Type 0
  IsSamePass p q = (table_of q ≡ table_of p) × (number q ≡ number p) × (parts q ≡ parts p) × (joined q ≡ joined p)
