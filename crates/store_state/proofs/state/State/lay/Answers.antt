use Rattle.store_state.proofs.Keeping.{laid-IsLists}
use Rattle.store_state.proofs.state.State.lay.Goals as goal

pub invariant_of-self : goal.invariant_of-self
invariant_of-self c = laid-IsLists _ c.change.result c.add.new.self.0 c.rows_with-self-inside.result c.add.ensures.entries c.change.ensures.stored c.self.invariant

pub returns-clause-sound : goal.returns-clause-sound
returns-clause-sound c = invariant_of-self c
