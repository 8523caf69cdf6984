use Rattle.std.proofs.Common.{rules, ap, ◌-◌}
use Rattle.wal_log.specs.declared.log.Log.{Log}
use Rattle.kept_state.proofs.Froze.{freeze-failed, freeze-keeps}
use Rattle.kept_state.proofs.writing.freeze.Goals as goal

pub returns-in_err-next_segment-clause-table : goal.returns-in_err-next_segment-clause-table
returns-in_err-next_segment-clause-table g c =
    freeze-failed (g.D.Device.seen c.args.device.now) (g.D.Device.seen c.next_segment.new.device) c.args.log.now c.next_segment.new.self c.args.state.now.0 c.args.state.now.0
    c.requires.in_order c.requires.none_frozen c.next_segment.ensures.within (λ s is rest. (c.next_segment.ensures.turns s is rest).recovers) c.next_segment.ensures.later c.from_residual.result c.from_residual.ensures.0

pub returns-clause-table : goal.returns-clause-table
returns-clause-table g c =
    freeze-keeps (g.D.Device.seen c.args.device.now) (g.D.Device.seen c.next_segment.new.device) c.args.log.now c.next_segment.new.self c.args.state.now.0 c.freeze.new.self.0
    c.requires.in_order c.requires.none_frozen c.next_segment.ensures.within (λ s is rest. (c.next_segment.ensures.turns s is rest).recovers) c.next_segment.ensures.later tt (c.args.log.now.next_lsn - 1) (search rules)
    (ap (λ (l : Log). l.start) c.in_ok-next_segment.ensures.log) (ap (λ (l : Log). l.records) c.in_ok-next_segment.ensures.log)
    (λ s is rest. (c.in_ok-next_segment.ensures.turns s is rest).at_rest) (λ s is rest of. (c.in_ok-next_segment.ensures.turns s is rest).log_of of)
