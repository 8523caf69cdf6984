use Rattle.std.proofs.Common.{[], ◌∷◌, ◌++◌}
use Rattle.dev_model.specs.Story.{Sync}
use Rattle.format_numbers.specs.declared.TheConstants.{LOG_START}
use Rattle.wal_log.specs.Places.{segment_start}
use Rattle.device_format.specs.Planning.{close_from}
use Rattle.device_format.proofs.Joining.{made_call, made_first, made_then}
use Rattle.device_format.proofs.gates.close_gates.Goals as goal

pub returns-in_err-close_each : goal.returns-in_err-close_each
returns-in_err-close_each g c = made_first (close_from (segment_start LOG_START) 0 4 ++ Sync ∷ []) c.from_residual.result c.from_residual.ensures.0 c.in_err-close_each.ensures

pub returns-in_err-close_each-2 : goal.returns-in_err-close_each-2
returns-in_err-close_each-2 g c =
    made_then c.in_ok-close_each.ensures (made_first (Sync ∷ []) c.from_residual-in_err-close_each-2.result c.from_residual-in_err-close_each-2.ensures.0 c.in_err-close_each-2.ensures)

pub returns : goal.returns
returns g c = made_then c.in_ok-close_each.ensures (made_then c.in_ok-close_each-2.ensures (made_call c.sync.ensures))
