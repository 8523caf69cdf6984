use Rattle.std.proofs.Common.{◌+◌}
use Rattle.dev_model.specs.Story.{Bytes}
use Rattle.comp_dir.specs.Found.{Shows, HasFound, AreLawful}
use Rattle.comp_dir.proofs.reading.add_page.Given as goal

abbrev pub invariant-loop-place : goal.invariant-loop-place
invariant-loop-place l =
    ((bytes : Bytes) → Shows l.first l.page bytes → HasFound l.asked.pages l.asked.declared l.first bytes l.initial.found.items → HasFound l.asked.pages l.asked.declared (l.first + l.place) bytes l.found.items)
    × (AreLawful l.asked.pages l.asked.declared l.first l.initial.found.items → AreLawful l.asked.pages l.asked.declared (l.first + l.place) l.found.items)
