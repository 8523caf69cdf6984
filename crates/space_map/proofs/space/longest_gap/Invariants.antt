use Rattle.std.proofs.Common.{◌≡◌, drop, max}
use Rattle.space_map.specs.declared.space.TheConstants.{FIRST_DATA_PAGE}
use Rattle.space_map.specs.Calls.{AreApart}
use Rattle.space_map.proofs.Gaps.{longest_from}
use Rattle.space_map.proofs.space.longest_gap.Given as goal

abbrev pub invariant-loop-extent : goal.invariant-loop-extent
invariant-loop-extent l =
    (max l.longest (longest_from l.from l.end (drop l.extent-index l.extents)) ≡ longest_from FIRST_DATA_PAGE l.end l.extents)
    × AreApart l.from l.end (drop l.extent-index l.extents)
