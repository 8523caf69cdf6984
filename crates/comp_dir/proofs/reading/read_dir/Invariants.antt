use Rattle.std.proofs.Common.{◌≡◌, ◌+◌, ◌*◌, ◌≤◌}
use Rattle.dev_model.specs.Story.{WhereTold, bytes_of}
use Rattle.comp_dir.specs.Reads.{ReadsDirectory}
use Rattle.comp_dir.specs.Resting.{IsAtRest}
use Rattle.comp_dir.specs.Found.{HasFound, AreLawful}
use Rattle.comp_dir.proofs.reading.read_dir.Given as goal

abbrev pub invariant-loop-number : goal.invariant-loop-number
invariant-loop-number g l =
    WhereTold (g.D.Device.seen l.fn.device).story (λ s. ReadsDirectory s (g.D.Device.seen l.device).story)
    × WhereTold (g.D.Device.seen l.fn.device).story (λ s. IsAtRest s → HasFound (g.D.Device.seen l.fn.device).pages l.fn.declared (64 * l.number) (bytes_of s) l.found.items)
    × AreLawful (g.D.Device.seen l.fn.device).pages l.fn.declared (64 * l.number) l.found.items
    × ((g.D.Device.seen l.device).clock ≡ (g.D.Device.seen l.fn.device).clock + l.number)
    × ((g.D.Device.seen l.device).pages ≡ (g.D.Device.seen l.fn.device).pages)
    × ((g.D.Device.seen l.fn.device).faults ≤ (g.D.Device.seen l.device).faults)
