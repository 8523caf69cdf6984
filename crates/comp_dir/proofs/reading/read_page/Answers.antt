use Rattle.std.proofs.Common.{arith}
use Rattle.comp_dir.proofs.Finding.{page-reads, shows-read}
use Rattle.comp_dir.proofs.reading.read_page.Goals as goal

pub returns-clause-reads : goal.returns-clause-reads
returns-clause-reads g c s is = page-reads s _ c.args.number _ c.read.result _ _ is c.read.ensures.made.told (omega arith) (omega arith) c.requires.below

pub returns-clause-shows : goal.returns-clause-shows
returns-clause-shows g c = shows-read c.args.number _ c.read.new.buf _ c.read.result (omega arith) (omega arith) c.requires.below c.read.ensures.bytes
