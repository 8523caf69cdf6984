use Rattle.std.proofs.Common.{rules}
use Rattle.kept_state.proofs.Written.{page-keeps}
use Rattle.kept_state.proofs.flushing.write_job_page.Goals as goal

pub returns-in_err-write-clause-made : goal.returns-in_err-write-clause-made
returns-in_err-write-clause-made g c = search rules

pub returns-in_err-write-clause-table : goal.returns-in_err-write-clause-table
returns-in_err-write-clause-table g c log =
    let made = returns-in_err-write-clause-made g c in
    page-keeps c.args.state.now.0 c.lists_have_rules.ensures c.requires.begun.0 c.args.job.now c.requires.begun.1 c.requires.left made.0 made.1 made.2
    (g.D.Device.seen c.args.device.now) (g.D.Device.seen c.write.new.self) c.args.state.now.0 log c.from_residual.result made.3.did (search rules)

pub returns-clause-made : goal.returns-clause-made
returns-clause-made g c = search rules

pub returns-clause-table : goal.returns-clause-table
returns-clause-table g c log =
    let made = returns-clause-made g c in
    page-keeps c.args.state.now.0 c.lists_have_rules.ensures c.requires.begun.0 c.args.job.now c.requires.begun.1 c.requires.left made.0 made.1 made.2
    (g.D.Device.seen c.args.device.now) (g.D.Device.seen c.write.new.self) c.wrote-2.new.self.0 log _ made.3.did (search rules)
