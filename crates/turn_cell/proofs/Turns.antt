-- What a pass that waits for its turn knows.
use Rattle.std.proofs.Common.{[], sym, append-nil}
use Rattle.turn_cell.specs.Rule.{view}
use Rattle.turn_cell.specs.Steps.{Seated, Watched}
use Rattle.turn_cell.specs.Resting.{IsAtRest}
use Rattle.turn_cell.proofs.Resting.{rests}

module _ {T E : Type 0} where
  pub watched_same : (m : Seated T E) → IsAtRest m → Watched m m
  watched_same m at_rest = (m.0.seen, (λ k. (view (rests m.0.stage at_rest.0 k) m.0.seen m.0.tally, m.1)), ([], sym (append-nil m.0.seen)))
