use Rattle.std.proofs.Common.{◌≡◌, drop}
use Rattle.comp_dir.specs.Choosing.{first_bad}
use Rattle.comp_dir.proofs.choosing.first_bad.Given as goal

abbrev pub invariant-loop-numbered : goal.invariant-loop-numbered
invariant-loop-numbered l = first_bad l.slots l.slots ≡ first_bad l.slots (drop l.numbered-index l.slots)
