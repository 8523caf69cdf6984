use Rattle.std.proofs.Common.{arith}
use Rattle.std.proofs.lemmas.Bool.Decides.{nat_tests}
use Rattle.mem_device.proofs.Records.{noted_is, room_bytes_is}
use Rattle.mem_device.proofs.record.CallRecord.has_room.Goals as goal

pub returns : goal.returns
returns c =
    let f = c.self.inside in
    grind (arith, nat_tests, c.len.ensures, f.written.ok.0, c.self.invariant.bytes_fit, noted_is f c.args.self.now c.self.view_is c.self.invariant.bytes_are, room_bytes_is f c.args.self.now c.self.view_is)
