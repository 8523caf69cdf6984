use Rattle.std.proofs.Common.{⊎_elim, arith}
use Rattle.std.proofs.lemmas.Bool.Decides.{nat_tests}
use Rattle.mem_device.proofs.Records.{count_is, room_calls_is}
use Rattle.mem_device.proofs.record.CallRecord.is_full.Goals as goal

pub returns : goal.returns
returns c =
    let count = count_is c.self.inside c.args.self.now c.self.view_is in
    let room = room_calls_is c.self.inside c.args.self.now c.self.view_is in
    ⊎_elim (λ none. grind (arith, nat_tests, none, count, room, c.len.ensures, c.self.inside.calls.ok.0))
    (λ full. grind (arith, nat_tests, full, count, room, c.len.ensures, c.self.inside.calls.ok.0)) c.self.invariant.missed_past_room
