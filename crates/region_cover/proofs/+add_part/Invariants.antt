use Rattle.std.proofs.Common.{◌+◌, ◌*◌, ◌^◌}
use Rattle.region_cover.specs.Steps.{AreRunsBelow, Adds}
use Rattle.region_cover.proofs.Values.{HasValueBefore}
use Rattle.region_cover.proofs.+add_part.Given as goal

abbrev pub decreases-add_part : goal.decreases-add_part
decreases-add_part l = l.order

-- the ranges have what lies before the quadrant
abbrev pub invariant-loop-quadrant : goal.invariant-loop-quadrant
invariant-loop-quadrant l = record {
  runs : AreRunsBelow (l.first + l.quadrant * 2 ^ l.below * 2 ^ l.below) l.ranges.items;
  adds : Adds (HasValueBefore l.quadrant l.below l.first l.part) l.initial.ranges.items l.ranges.items;
}
