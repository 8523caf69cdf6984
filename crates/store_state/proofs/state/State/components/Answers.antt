use Rattle.std.proofs.Common.{ℕ, subst}
use Rattle.primary_ix.specs.Pages.{AreAllLent}
use Rattle.space_map.specs.Space.{is_reserved}
use Rattle.store_state.specs.Lists.{Lists, trees_of, extents_of}
use Rattle.store_state.specs.EveryList.{IsOpenSlot}
use Rattle.store_state.proofs.Lent.{All-front, all_lent}
use Rattle.store_state.proofs.state.State.components.Goals as goal

pub returns-clause-lent : goal.returns-clause-lent
returns-clause-lent c =
    let slots = c.self.invariant.slots in
    subst (λ (v : Lists × ℕ). AreAllLent (is_reserved (extents_of v.0.components)) (trees_of v.0.components)) c.self.view_is
    (all_lent c.self.inside.space.pages _ c.self.inside.components (All-front (IsOpenSlot c.self.inside.space.pages) c.self.inside.components c.self.inside.ignored.items slots) (λ page h. h))
