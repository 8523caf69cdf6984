use Rattle.std.proofs.Common.{◌≡◌, ℕ, ◌||◌, take}
use Rattle.space_map.specs.Space.{is_reserved}
use Rattle.space_map.specs.Calls.{IsSpace}
use Rattle.store_state.specs.Lists.{extents_of}
use Rattle.store_state.proofs.space.take_all.Given as goal

abbrev pub invariant-loop-slot : goal.invariant-loop-slot
invariant-loop-slot l =
    (l.space.pages ≡ l.initial.space.pages) × IsSpace l.space
    × ((page : ℕ) → is_reserved l.space.reserved page ≡ (is_reserved l.initial.space.reserved page || is_reserved (extents_of (take l.slot-index l.slots)) page))
