use Rattle.std.proofs.Common.{arith}
use Rattle.dev_model.specs.Laws.Reads.{ReadsWithin-read}
use Rattle.wal_log.specs.Places.{IsInLog}
use Rattle.wal_log.proofs.reading.fill_window.Goals as goal

pub returns-in_err-read-clause-reads : goal.returns-in_err-read-clause-reads
returns-in_err-read-clause-reads g c s is = ReadsWithin-read (IsInLog c.args.log_start) s _ _ c.read.result _ _ is c.read.ensures.made.told (record { from = omega (arith, c.record_start.ensures); to = omega (arith, c.record_start.ensures, c.requires.below, c.requires.place, c.requires.width) })

pub returns-clause-reads : goal.returns-clause-reads
returns-clause-reads g c s is = ReadsWithin-read (IsInLog c.args.log_start) s _ _ c.read.result _ _ is c.read.ensures.made.told (record { from = omega (arith, c.record_start.ensures); to = omega (arith, c.record_start.ensures, c.requires.below, c.requires.place, c.requires.width) })
