use Rattle.std.proofs.Common.{◌∙◌, ap, refl}
use Rattle.gate.specs.Calls.{gated_calls}
use Rattle.gate.specs.Laws.Plans.{did-stopped, not-ok}
use Rattle.wal_log.specs.Places.{record_start}
use Rattle.wal_log.proofs.Spelled.{record-is}
use Rattle.wal_log.proofs.Calling.{append-within, appends}
use Rattle.wal_log.proofs.log.Log.append.Goals as goal

pub returns-in_err-write_gated-clause-within : goal.returns-in_err-write_gated-clause-within
returns-in_err-write_gated-clause-within g c s is = append-within c.args.self.now c.args.self.now c.args.logged.now s _ _ c.write_gated.result is _ _
    (c.record_start-gate.ensures ∙ ap (λ k. record_start c.args.self.now.start k c.args.self.now.records) c.newest.ensures.is)
    (c.bytes.ensures ∙ c.with_closed_gate-spelled.ensures.spelled) c.write_gated.ensures.made.did c.with_closed_gate-spelled.ensures.width

pub returns-in_err-write_gated-clause-appends : goal.returns-in_err-write_gated-clause-appends
returns-in_err-write_gated-clause-appends g c s is rest = appends c.args.self.now c.args.self.now c.args.logged.now s _ _ _ is _ _
    (c.record_start-gate.ensures ∙ ap (λ k. record_start c.args.self.now.start k c.args.self.now.records) c.newest.ensures.is)
    (c.bytes.ensures ∙ c.with_closed_gate-spelled.ensures.spelled) (did-stopped (gated_calls c.record_start-gate.result c.bytes.result.now) (g.D.Device.seen c.args.device.now).story (g.D.Device.seen c.write_gated.new.device).story _ c.from_residual.ensures.0 c.in_err-write_gated.ensures.made.did) c.with_closed_gate-spelled.ensures.width rest c.requires.room
    (record-is c.args.logged.now c.args.self.now.next_lsn (c.with_closed_gate-spelled.ensures.back c.requires.below) c.requires.next c.requires.below c.with_closed_gate-spelled.ensures.note c.with_closed_gate-spelled.ensures.short c.requires.has_old)
    (c.with_closed_gate-spelled.ensures.back c.requires.below) (not-ok _ _ c.from_residual.ensures.0)

pub returns-clause-within : goal.returns-clause-within
returns-clause-within g c s is = append-within c.args.self.now c.args.self.now c.args.logged.now s _ _ c.write_gated.result is _ _
    (c.record_start-gate.ensures ∙ ap (λ k. record_start c.args.self.now.start k c.args.self.now.records) c.newest.ensures.is)
    (c.bytes.ensures ∙ c.with_closed_gate-spelled.ensures.spelled) c.write_gated.ensures.made.did c.with_closed_gate-spelled.ensures.width

pub returns-clause-appends : goal.returns-clause-appends
returns-clause-appends g c s is rest = appends c.args.self.now _ c.args.logged.now s _ _ _ is _ _
    (c.record_start-gate.ensures ∙ ap (λ k. record_start c.args.self.now.start k c.args.self.now.records) c.newest.ensures.is)
    (c.bytes.ensures ∙ c.with_closed_gate-spelled.ensures.spelled) c.in_ok-write_gated.ensures.made.did c.with_closed_gate-spelled.ensures.width rest c.requires.room
    (record-is c.args.logged.now c.args.self.now.next_lsn (c.with_closed_gate-spelled.ensures.back c.requires.below) c.requires.next c.requires.below c.with_closed_gate-spelled.ensures.note c.with_closed_gate-spelled.ensures.short c.requires.has_old)
    (c.with_closed_gate-spelled.ensures.back c.requires.below) refl
