use Rattle.std.proofs.Common.{arith}
use Rattle.mem_device.proofs.Records.{count_is}
use Rattle.mem_device.proofs.record.CallRecord.len.Goals as goal

pub returns : goal.returns
returns c = omega (arith, c.len.ensures, c.self.inside.calls.ok.0, count_is c.self.inside c.args.self.now c.self.view_is)
