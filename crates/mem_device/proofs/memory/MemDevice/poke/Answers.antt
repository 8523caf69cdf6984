use Rattle.std.proofs.Common.{◌*◌, ◌<◌, slice_set, sym, ap, subst, arith}
use Rattle.mem_device.specs.Memory.{MemoryState}
use Rattle.mem_device.specs.Inside.{Noted, IsSoundMemory}
use Rattle.mem_device.proofs.Poking.{memory-poked}
use Rattle.mem_device.proofs.memory.MemDevice.poke.Goals as goal

pub invariant_of-self : goal.invariant_of-self
invariant_of-self c =
    let f = c.self.inside in
    let here : c.args.at < f.pages * 4096 = omega (arith, c.requires, ap (λ (d : MemoryState). d.pages) c.self.view_is) in
    subst (λ (n : Noted). IsSoundMemory f.pages (slice_set f.start.items c.args.at c.args.byte) (slice_set f.bytes.items c.args.at c.args.byte) n.past) (sym c.poke.ensures)
    (memory-poked c.args.at c.args.byte f.pages f.start.items f.bytes.items f.kept.past here c.self.invariant)
