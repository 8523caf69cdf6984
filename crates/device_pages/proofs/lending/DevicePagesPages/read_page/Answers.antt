use Rattle.std.proofs.Common.{rules, refl}
use Rattle.device_pages.specs.Laws.Lending.{lent_within}
use Rattle.device_pages.proofs.Asking.{asked-read, page_read, contents-read}
use Rattle.device_pages.proofs.lending.DevicePagesPages.read_page.Goals as goal

pub read-requires : goal.read-requires
read-requires g c =
    lent_within (g.D.Device.seen c.args.self.now.device.now).pages c.args.self.now.extents.now c.args.page _ _ c.args.self.now.on_device c.requires
    (search rules) (search rules)

pub returns-clause-bytes : goal.returns-clause-bytes
returns-clause-bytes g c =
    page_read c.args.self.now.extents.now c.args.page _ c.read.new.buf c.read.result (g.D.Device.seen c.args.self.now.device.now).story (search rules) (search rules)
    c.requires c.read.ensures.bytes

pub returns-clause-asked : goal.returns-clause-asked
returns-clause-asked g c = (
  refl,
  refl,
  asked-read c.args.page _ _ c.read.result (g.D.Device.seen c.args.self.now.device.now)
      (g.D.Device.seen c.read.new.self) (search rules) (search rules) c.read.ensures.made
      (g.met.D.Device.clock_told c.args.self.now.device.now) (g.met.D.Device.clock_told c.read.new.self),
)

pub returns-clause-stays : goal.returns-clause-stays
returns-clause-stays g c =
    let cause = c.read.ensures.made.cause in
    record {
      same_lent = refl;
      same_contents = contents-read c.args.self.now.extents.now _ _ c.read.result (g.D.Device.seen c.args.self.now.device.now).story (g.D.Device.seen c.read.new.self).story c.read.ensures.made.told;
      cause = cause;
    }
