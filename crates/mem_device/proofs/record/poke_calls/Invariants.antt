use Rattle.std.proofs.Common.{◌≡◌, take, drop, map}
use Rattle.std.specs.List.{sum_by}
use Rattle.mem_device.specs.Memory.{poked_call}
use Rattle.mem_device.specs.Inside.{calls_of, size_of}
use Rattle.mem_device.proofs.record.poke_calls.Given as goal

abbrev pub invariant-loop-call : goal.invariant-loop-call
invariant-loop-call l = record {
  from : l.from ≡ sum_by size_of (take l.call-index l.calls);
  done : calls_of (take l.call-index l.calls) (take l.from l.written) ≡ map (poked_call l.at l.byte) (calls_of (take l.call-index l.calls) (take l.from l.initial.written));
  rest : drop l.from l.written ≡ drop l.from l.initial.written;
}
