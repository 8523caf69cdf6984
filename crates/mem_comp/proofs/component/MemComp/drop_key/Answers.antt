use Rattle.std.proofs.Common.{ap}
use Rattle.mem_comp.proofs.Edits.{dropped-place, dropped-gap}
use Rattle.mem_comp.proofs.component.MemComp.drop_key.Goals as goal

pub returns-in-Ok-clause-entries : goal.returns-in-Ok-clause-entries
returns-in-Ok-clause-entries g c =
    dropped-place g.E.Entry.reading g.met.E.Entry.key_order c.args.key.now c.self.inside.entries.items c.deref.result.now c.args.self.now.0 c.in-Ok.at c.self.invariant
    c.deref.ensures.value (ap (λ v. v.0) c.self.view_is) c.in-Ok.ensures c.remove.new.self.items c.remove.ensures.items

pub returns-in_default-clause-entries : goal.returns-in_default-clause-entries
returns-in_default-clause-entries g c =
    dropped-gap g.E.Entry.reading g.met.E.Entry.key_order c.args.key.now c.self.inside.entries.items c.deref.result.now c.args.self.now.0 c.in_default.field-0 c.self.invariant
    c.deref.ensures.value (ap (λ v. v.0) c.self.view_is) c.in_default.ensures
