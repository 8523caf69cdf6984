use Rattle.std.proofs.Common.{◌+◌, [], ◌∷◌, Err}
use Rattle.dev_model.specs.Story.{Write, Sync}
use Rattle.dev_model.specs.Laws.Plans.{Did-cut, Did-then}
use Rattle.gate.specs.Calls.{gated_calls, open_calls}
use Rattle.gate.specs.Gates.{IsGated}
use Rattle.gate.specs.Laws.Plans.{leaves-did}
use Rattle.gate.specs.Laws.Gates.{gated-leaves}
use Rattle.gate.proofs.gates.write_gated.Goals as goal

pub returns-in_err-write_synced-clause-any_moment : goal.returns-in_err-write_synced-clause-any_moment
returns-in_err-write_synced-clause-any_moment g c s is closed settled =
    leaves-did {X = Unit {0}} {E = Unit {0}} s (gated_calls c.args.at c.args.body.now) (IsGated c.args.at c.args.body.now s) (g.D.Device.seen c.args.device.now).story (g.D.Device.seen c.write_synced.new.device).story (Err tt)
    (gated-leaves c.args.at c.args.body.now s closed settled) is
    (Did-cut (Unit {0}) (Unit {0}) (Unit {0}) (Unit {0}) tt tt (Write (c.args.at + 1) c.args.body.now ∷ Sync ∷ []) (open_calls c.args.at) _ _ c.in_err-write_synced.ensures.did)

pub returns-clause-any_moment : goal.returns-clause-any_moment
returns-clause-any_moment g c s is closed settled =
    leaves-did s (gated_calls c.args.at c.args.body.now) (IsGated c.args.at c.args.body.now s) (g.D.Device.seen c.args.device.now).story (g.D.Device.seen c.open_gate.new.device).story c.open_gate.result
    (gated-leaves c.args.at c.args.body.now s closed settled) is
    (Did-then (Unit {0}) _ _ tt (Write (c.args.at + 1) c.args.body.now ∷ Sync ∷ []) (open_calls c.args.at) _ _ _ c.open_gate.result c.in_ok-write_synced.ensures.did c.open_gate.ensures.did)
