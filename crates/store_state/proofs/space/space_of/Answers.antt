use Rattle.std.proofs.Common.{ℕ, ◌||◌, All, sym, ◌∙◌, ap, subst}
use Rattle.space_map.specs.Space.{Space, is_reserved}
use Rattle.store_state.specs.Lists.{extents_of}
use Rattle.store_state.specs.EveryList.{IsOpenSlot}
use Rattle.store_state.proofs.Apart.{front-apart, back-apart, cross}
use Rattle.store_state.proofs.Lent.{All-front, All-back}
use Rattle.store_state.proofs.space.space_of.Goals as goal

pub take_all-requires-clause-slots : goal.take_all-requires-clause-slots
take_all-requires-clause-slots c =
    subst (λ (space : Space). All (IsOpenSlot space.pages) c.args.components.now) (sym c.new-space.ensures)
    (All-front (IsOpenSlot c.args.pages) c.args.components.now c.args.ignored.now c.requires.slots)

pub take_all-requires-clause-apart : goal.take_all-requires-clause-apart
take_all-requires-clause-apart c = front-apart c.args.components.now c.args.ignored.now c.requires.apart

pub take_all-requires-2-clause-slots : goal.take_all-requires-2-clause-slots
take_all-requires-2-clause-slots c =
    subst (λ (pages : ℕ). All (IsOpenSlot pages) c.args.ignored.now) (sym (c.in_ok-take_all.ensures.pages ∙ ap (λ space. space.pages) c.new-space.ensures))
    (All-back (IsOpenSlot c.args.pages) c.args.components.now c.args.ignored.now c.requires.slots)

pub take_all-requires-2-clause-apart : goal.take_all-requires-2-clause-apart
take_all-requires-2-clause-apart c = back-apart c.args.components.now c.args.ignored.now c.requires.apart

pub take_all-requires-2-clause-free : goal.take_all-requires-2-clause-free
take_all-requires-2-clause-free c page h =
    c.in_ok-take_all.ensures.reserved page
    ∙ ap (λ (space : Space). is_reserved space.reserved page || is_reserved (extents_of c.args.components.now) page) c.new-space.ensures
    ∙ cross c.args.components.now c.args.ignored.now c.requires.apart page h
