use Rattle.std.proofs.Common.{arith}
use Rattle.device_format.proofs.Counting.{counted, example_is}
use Rattle.device_format.proofs.examples.worked_formats.Goals as goal

pub returns-clause-superblock : goal.returns-clause-superblock
returns-clause-superblock c = example_is

pub returns-clause-calls : goal.returns-clause-calls
returns-clause-calls c = counted

pub returns-clause-zeros : goal.returns-clause-zeros
returns-clause-zeros c = record { settled = tt; closed = λ is_open. omega (arith, is_open) }
