use Rattle.std.proofs.Common.{◌≡◌, ◌≤◌, take}
use Rattle.std.specs.Prelude.{vec_capacity}
use Rattle.store_state.specs.Lists.{extents_of, trees_of}
use Rattle.store_state.proofs.components.Components.of_slots.Given as goal

abbrev pub invariant-loop-slot : goal.invariant-loop-slot
invariant-loop-slot l =
    (l.trees.items ≡ trees_of (take l.slot-index l.slot-items)) × (l.extents.items ≡ extents_of (take l.slot-index l.slot-items))
    × (16 ≤ vec_capacity l.trees) × (16 ≤ vec_capacity l.extents)
