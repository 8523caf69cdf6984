use Rattle.std.proofs.Common.{◌≡◌, take}
use Rattle.std.specs.List.{filter}
use Rattle.comp_dir.specs.Choosing.{is_live, is_ignored}
use Rattle.comp_dir.proofs.choosing.part.Given as goal

abbrev pub invariant-loop-numbered : goal.invariant-loop-numbered
invariant-loop-numbered l = (l.live.items ≡ filter (is_live l.slots) (take l.numbered-index l.slots)) × (l.ignored.items ≡ filter (is_ignored l.slots) (take l.numbered-index l.slots))
