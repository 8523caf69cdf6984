use Rattle.std.proofs.Common.{rules, ap}
use Rattle.comp_dir.specs.Ranges.{HasRanges}
use Rattle.build_job.specs.declared.plan.JobPlan.{JobPlan}
use Rattle.kept_state.proofs.Installed.{install-fails, install-keeps}
use Rattle.kept_state.proofs.flushing.install_job.Goals as goal

pub returns-in_err-install_slot-clause-table : goal.returns-in_err-install_slot-clause-table
returns-in_err-install_slot-clause-table g c log numbered =
    let ranges : HasRanges c.slot-slot.result = search rules in
    install-fails c.args.state.now.0 c.lists_have_rules.ensures c.requires.begun.0 c.args.job.now c.requires.begun.1 c.jobs_have_rules.ensures c.requires.written c.plan.result.slot c.slot-slot.result (ap (λ (p : JobPlan). p.slot) c.plan.ensures) c.slot-slot.ensures.slot
    log (g.D.Device.seen c.args.device.now) (g.D.Device.seen c.install_slot.new.device) c.args.state.now.0 numbered c.requires.on_device c.requires.below (λ placeable. c.slot-slot.ensures.sound (g.D.Device.seen c.args.device.now).pages 0 placeable) ranges
    (λ s is rest closed. (c.install_slot.ensures.installs s is rest closed).any_moment) c.from_residual.result c.from_residual.ensures.0 (search rules)

pub returns-clause-table : goal.returns-clause-table
returns-clause-table g c log numbered =
    let ranges : HasRanges c.slot-slot.result = search rules in
    install-keeps c.args.state.now.0 c.lists_have_rules.ensures c.requires.begun.0 c.args.job.now c.requires.begun.1 c.jobs_have_rules.ensures c.requires.written c.plan.result.slot c.slot-slot.result (ap (λ (p : JobPlan). p.slot) c.plan.ensures) c.slot-slot.ensures.slot
    log (g.D.Device.seen c.args.device.now) (g.D.Device.seen c.install_slot.new.device) c.install.new.self.0 numbered c.requires.on_device c.requires.below (λ placeable. c.slot-slot.ensures.sound (g.D.Device.seen c.args.device.now).pages 0 placeable) ranges
    (λ s is rest closed. (c.install_slot.ensures.installs s is rest closed).any_moment) tt c.in_ok-install_slot.ensures.made.did (c.install.ensures.lists c.requires.begun.1.row c.requires.begun.1.is) c.install.ensures.sound
    (λ s is rest closed. (c.in_ok-install_slot.ensures.installs s is rest closed).at_rest) (λ s is rest closed. (c.in_ok-install_slot.ensures.installs s is rest closed).reads)
