use Rattle.std.proofs.Common.{◌≡◌, length}
use Rattle.dev_model.proofs.UnderWay.{Sending}
use Rattle.dev_model.proofs.sending.send_all.Given as goal

abbrev pub invariant-loop-rest : goal.invariant-loop-rest
invariant-loop-rest g l = record {
  calm : g.K.Sink.fault_count l.out ≡ g.K.Sink.fault_count l.fn.out;
  told : Sending (g.K.Sink.taken l.fn.out) (g.K.Sink.taken l.out) l.text l.rest;
}

abbrev pub decreases-loop-rest : goal.decreases-loop-rest
decreases-loop-rest g l = length l.rest
