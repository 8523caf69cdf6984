use Rattle.std.proofs.Common.{rules, refl, ap}
use Rattle.wal_log.specs.declared.log.Log.{Log}
use Rattle.kept_state.specs.Writing.{next_record}
use Rattle.kept_state.proofs.Logged.{write-failed, write-logged}
use Rattle.kept_state.proofs.writing.log_write.Goals as goal

pub returns-in_err-ack-clause-table : goal.returns-in_err-ack-clause-table
returns-in_err-ack-clause-table g c =
    write-failed (g.D.Device.seen c.args.device.now) (g.D.Device.seen c.append.new.device) c.args.log.now c.append.new.self c.args.state.now.0 c.args.state.now.0 (next_record c.args.log.now c.args.op.now c.args.old_point)
    c.requires.in_order c.requires.room refl c.append.ensures.within (λ s is rest. (c.append.ensures.appends s is rest).recovers) c.from_residual.result c.from_residual.ensures.0

pub returns-clause-table : goal.returns-clause-table
returns-clause-table g c =
    write-logged (g.D.Device.seen c.args.device.now) (g.D.Device.seen c.append.new.device) c.args.log.now c.append.new.self c.args.state.now.0 c.lay.new.self.0 (next_record c.args.log.now c.args.op.now c.args.old_point)
    c.requires.in_order c.requires.room refl c.append.ensures.within (λ s is rest. (c.append.ensures.appends s is rest).recovers) c.in_ok-ack.ack (search rules)
    (ap (λ (l : Log). l.start) c.in_ok-ack.ensures.log) (ap (λ (l : Log). l.records) c.in_ok-ack.ensures.log) (λ s is rest. (c.in_ok-ack.ensures.appends s is rest).at_rest)
    (λ s is rest of. (c.in_ok-ack.ensures.appends s is rest).log_of of) (λ s is rest of. (c.in_ok-ack.ensures.appends s is rest).logged of)
