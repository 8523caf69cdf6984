use Rattle.std.proofs.Common.{◌≡◌, drop}
use Rattle.space_map.specs.declared.space.TheConstants.{FIRST_DATA_PAGE}
use Rattle.space_map.specs.Calls.{AreApart}
use Rattle.space_map.proofs.Gaps.{gap_from}
use Rattle.space_map.proofs.space.first_gap.Given as goal

abbrev pub invariant-loop-extent : goal.invariant-loop-extent
invariant-loop-extent l =
    (gap_from l.from l.end l.count (drop l.extent-index l.extents) ≡ gap_from FIRST_DATA_PAGE l.end l.count l.extents)
    × AreApart l.from l.end (drop l.extent-index l.extents)
