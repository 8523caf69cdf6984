-- What lanes do with their passes.
use Rattle.std.specs.Prelude.{◌≡◌, ℕ, ◌+◌, List, ◌∷◌, ◌++◌}
use Rattle.turn_cell.specs.declared.turned.Turned.{Ghosts}
use Rattle.turn_cell.specs.declared.pass.Pass.{Pass}
use Rattle.turn_cell.specs.Rows.{total, made}
use Rattle.turn_cell.specs.Owners.{of_owner}
use Rattle.turn_cell.specs.Passes.{table_of, own, rows, parts, joined}
use Rattle.turn_cell_tests.specs.declared.counter.Entry.{Entry}
use Rattle.turn_cell_tests.specs.declared.counter.Entry.TheVariants.{Drew}
use Rattle.turn_cell_tests.specs.Run.{owner_of, draws_of, counts_of}

-- so many counts, all by this owner
abbrev pub CountsOf : ℕ → ℕ → List Entry → Type 0
CountsOf o times es = (total draws_of es ≡ 0) × (total counts_of es ≡ times) × (of_owner owner_of o es ≡ es)

module _ {T : Type 0} {g : Ghosts T Entry} where
  -- the pass drew this owner and then counted so often for it, and is else the same
  abbrev pub LaneMade : Pass T Entry g → ℕ → ℕ → Pass T Entry g → Type 0
  LaneMade p times o q =
      (table_of q ≡ table_of p) × (parts q ≡ parts p) × (joined q ≡ joined p)
      × ((es : List Entry) × (own q ≡ own p ++ Drew o ∷ es) × CountsOf o times es)

  -- the pass and those joined into it drew so many owners more and counted so often more
  abbrev pub Worked : Pass T Entry g → ℕ → ℕ → Pass T Entry g → Type 0
  Worked p owners times q =
      (table_of q ≡ table_of p) × (parts q ≡ parts p)
      × (made draws_of (rows q) ≡ made draws_of (rows p) + owners) × (made counts_of (rows q) ≡ made counts_of (rows p) + times)

-- the history has of this owner its draw and then so many counts
abbrev pub HasLane : List Entry → ℕ → ℕ → Type 0
HasLane history o times = (es : List Entry) × (of_owner owner_of o history ≡ Drew o ∷ es) × CountsOf o times es
