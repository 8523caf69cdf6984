use Rattle.std.proofs.Common.{ℕ, ◌++◌, Ok, Err, ◌∙◌, subst}
use Rattle.dev_model.specs.Doing.{Made}
use Rattle.dev_model.specs.declared.streams.Failed.{Failed}
use Rattle.superblock.specs.Calls.{write_superblock}
use Rattle.device_format.specs.Planning.{start_log}
use Rattle.device_format.proofs.Joining.{made_first, made_then}
use Rattle.device_format.proofs.format.write_store.Goals as goal

pub returns-in_err-close_gates : goal.returns-in_err-close_gates
returns-in_err-close_gates g c =
    made_then c.in_ok-close_superblock_if.ensures
    (made_first (start_log ++ write_superblock c.args.indexes (g.D.Device.seen c.args.device.now).pages) c.from_residual-in_err-close_gates.result c.from_residual-in_err-close_gates.ensures.0 c.in_err-close_gates.ensures)

pub returns-in_err-start_segment : goal.returns-in_err-start_segment
returns-in_err-start_segment g c =
    let stopped : Made {X = Unit {0}} {E = Failed} start_log (g.D.Device.seen c.close_gates.new.device) (g.D.Device.seen c.start_segment.new.device) (Err c.in_err-start_segment.field-0.0) =
    record { did = c.in_err-start_segment.ensures.did; ticks = c.in_err-start_segment.ensures.ticks; same_pages = c.in_err-start_segment.ensures.same_pages; cause = c.in_err-start_segment.ensures.cause } in
    made_then c.in_ok-close_superblock_if.ensures (made_then c.in_ok-close_gates.ensures
    (made_first (write_superblock c.args.indexes (g.D.Device.seen c.args.device.now).pages) c.from_residual-in_err-start_segment.result c.from_residual-in_err-start_segment.ensures.0 stopped))

pub returns : goal.returns
returns g c =
    let started : Made {X = Unit {0}} {E = Failed} start_log (g.D.Device.seen c.close_gates.new.device) (g.D.Device.seen c.start_segment.new.device) (Ok tt) =
    record { did = c.in_ok-start_segment.ensures.did; ticks = c.in_ok-start_segment.ensures.ticks; same_pages = c.in_ok-start_segment.ensures.same_pages; cause = c.in_ok-start_segment.ensures.cause } in
    made_then c.in_ok-close_superblock_if.ensures (made_then c.in_ok-close_gates.ensures (made_then started
    (subst (λ (n : ℕ). Made (write_superblock c.args.indexes n) (g.D.Device.seen c.start_segment.new.device) (g.D.Device.seen c.write_superblock.new.device) c.write_superblock.result)
    (started.same_pages ∙ (c.in_ok-close_gates.ensures.same_pages ∙ c.in_ok-close_superblock_if.ensures.same_pages)) c.write_superblock.ensures)))
