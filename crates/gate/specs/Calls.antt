-- The calls that write bytes behind a gate, and those that open and close it.
use Rattle.std.specs.Prelude.{ℕ, ◌+◌, List, [], ◌∷◌}
use Rattle.dev_model.specs.Story.{Write, Sync, Calls}
use Rattle.gate.specs.declared.gates.TheConstants.{OPEN, CLOSED}

-- the gate, open
abbrev pub open_calls : ℕ → Calls
open_calls at = Write at (OPEN ∷ []) ∷ Sync ∷ []

-- the gate, closed
abbrev pub close_calls : ℕ → Calls
close_calls at = Write at (CLOSED ∷ []) ∷ Sync ∷ []

-- the bytes behind the gate, and then the gate, open
abbrev pub gated_calls : ℕ → List ℕ → Calls
gated_calls at body = Write (at + 1) body ∷ Sync ∷ Write at (OPEN ∷ []) ∷ Sync ∷ []
