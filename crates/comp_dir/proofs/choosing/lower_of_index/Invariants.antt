use Rattle.std.proofs.Common.{◌≡◌, ◌≤◌, length, take}
use Rattle.comp_dir.specs.Choosing.{lower_of_index}
use Rattle.comp_dir.proofs.choosing.lower_of_index.Given as goal

abbrev pub invariant-loop-other : goal.invariant-loop-other
invariant-loop-other l = (l.count ≡ length (lower_of_index (take l.other-index l.live) l.numbered)) × (l.count ≤ l.other-index)
