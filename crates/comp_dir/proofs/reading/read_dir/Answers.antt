use Rattle.std.proofs.Common.{◌∙◌, arith, refl}
use Rattle.dev_model.specs.Story.{bytes_of}
use Rattle.dev_model.specs.Laws.Reads.{ReadsWithin-start, ReadsWithin-then}
use Rattle.comp_dir.specs.Reads.{IsInDirectory}
use Rattle.comp_dir.proofs.Finding.{where-bad, dir-next, dir-bad, found-none, found-whole, found-all, all-obey, lawful-next, lawful-none}
use Rattle.comp_dir.proofs.reading.read_dir.Goals as goal

pub loop-number-init : goal.loop-number-init
loop-number-init g c = (
  λ s is. ReadsWithin-start IsInDirectory s _ is,
  λ s is rest. found-none (g.D.Device.seen c.args.device.now).pages c.args.declared (bytes_of s) c.new-found.result.items c.new-found.ensures.items,
  lawful-none (g.D.Device.seen c.args.device.now).pages c.args.declared c.new-found.result.items c.new-found.ensures.items,
  omega arith,
  refl,
  omega arith,
)

pub returns-in-Err-clause-reads : goal.returns-in-Err-clause-reads
returns-in-Err-clause-reads g c s is = ReadsWithin-then IsInDirectory s _ _ (c.loop-number.invariant.0 s is) (λ t mid. c.add_next_page.ensures.reads t mid)

pub returns-in-Err-clause-bad : goal.returns-in-Err-clause-bad
returns-in-Err-clause-bad g c =
    where-bad c.in-Err.fault _ _
    (λ n unsound s is rest. dir-bad (g.D.Device.seen c.args.device.now).pages _ c.args.declared c.loop-number.number s _ c.loop-number.found.items c.pages-pages.ensures (c.loop-number.invariant.0 s is) rest n unsound (c.loop-number.invariant.1 s is rest))
    c.in-Err.ensures.bad

pub loop-number-preserved : goal.loop-number-preserved
loop-number-preserved g c = (
  λ s is. ReadsWithin-then IsInDirectory s _ _ (c.loop-number.invariant.0 s is) (λ t mid. c.add_next_page.ensures.reads t mid),
  λ s is rest. dir-next (g.D.Device.seen c.args.device.now).pages _ c.args.declared c.loop-number.number s _ c.loop-number.found.items c.pages-pages.ensures (c.loop-number.invariant.0 s is) rest _ c.in_default.ensures.added (c.loop-number.invariant.1 s is rest),
  lawful-next (g.D.Device.seen c.args.device.now).pages _ c.args.declared c.loop-number.number c.loop-number.found.items _ c.pages-pages.ensures c.in_default.ensures.lawful c.loop-number.invariant.2,
  omega (arith, c.in_default.ensures.ticks, c.loop-number.invariant.3),
  c.add_next_page.ensures.same_pages ∙ c.loop-number.invariant.4,
  omega (arith, c.add_next_page.ensures.cause.later, c.loop-number.invariant.5),
)

pub returns-clause-slots : goal.returns-clause-slots
returns-clause-slots g c s is rest = found-all (g.D.Device.seen c.args.device.now).pages c.args.declared (bytes_of s) c.loop-number.found.items (found-whole (g.D.Device.seen c.args.device.now).pages c.args.declared c.loop-number.number (bytes_of s) c.loop-number.found.items (omega (arith, c.loop-number-test.false, c.loop-number.auto.number-end)) (c.loop-number.invariant.1 s is rest))

pub returns-clause-obeyed : goal.returns-clause-obeyed
returns-clause-obeyed g c s is rest = all-obey (g.D.Device.seen c.args.device.now).pages c.args.declared (bytes_of s) c.loop-number.found.items (found-whole (g.D.Device.seen c.args.device.now).pages c.args.declared c.loop-number.number (bytes_of s) c.loop-number.found.items (omega (arith, c.loop-number-test.false, c.loop-number.auto.number-end)) (c.loop-number.invariant.1 s is rest))
