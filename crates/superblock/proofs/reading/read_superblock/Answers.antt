use Rattle.std.proofs.Common.{◌≡◌, ◌∙◌, ℕ, subst, arith, length}
use Rattle.superblock.specs.Saying.{SaysOf}
use Rattle.superblock.proofs.Sixteen.{says-read}
use Rattle.superblock.proofs.reading.read_superblock.Goals as goal

pub returns-clause-says : goal.returns-clause-says
returns-clause-says g c s is calm =
    let sixteen : length c.read.new.buf ≡ 16 = omega arith in
    says-read s c.read.new.buf sixteen (c.in_ok-read.ensures.bytes s is) calm (g.D.Device.seen c.args.device.now).pages c.indexes_of.result
    (subst (λ (n : ℕ). SaysOf n c.read.new.buf c.indexes_of.result) (c.pages.ensures ∙ c.in_ok-read.ensures.made.same_pages) c.indexes_of.ensures)
