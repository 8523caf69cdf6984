use Rattle.std.proofs.Common.{inr, ⊎_elim, arith}
use Rattle.mem_device.proofs.Records.{count_is, room_calls_is}
use Rattle.mem_device.proofs.record.CallRecord.miss.Goals as goal

pub overflow_add-self : goal.overflow_add-self
overflow_add-self c = omega (arith, c.requires.counted, count_is c.self.inside c.args.self.now c.self.view_is)

pub invariant_of-self : goal.invariant_of-self
invariant_of-self c =
    let sound = c.self.invariant in
    let count = count_is c.self.inside c.args.self.now c.self.view_is in
    record {
      calls_fit = sound.calls_fit;
      bytes_fit = sound.bytes_fit;
      bytes_are = sound.bytes_are;
      calls_taken = sound.calls_taken;
      bytes_taken = sound.bytes_taken;
      counted = omega (arith, c.requires.counted, count);
      missed_past_room = inr (⊎_elim (λ none. omega (arith, none, count, c.requires.full, room_calls_is c.self.inside c.args.self.now c.self.view_is)) (λ full. full) sound.missed_past_room);
    }
