use Rattle.std.proofs.Common.{◌≡◌, ap, arith, insert}
use Rattle.std.proofs.lemmas.Grind.{common_steps}
use Rattle.mem_comp.proofs.Edits.{added-place, added-gap}
use Rattle.mem_comp.proofs.component.MemComp.add.Goals as goal

pub returns-in-Ok-clause-entries : goal.returns-in-Ok-clause-entries
returns-in-Ok-clause-entries g c =
    added-place g.E.Entry.reading g.met.E.Entry.key_order c.args.entry c.self.inside.entries.items c.deref.result.now c.args.self.now.0 c.key.result c.in-Ok.at c.self.invariant
    c.deref.ensures.value (ap (λ v. v.0) c.self.view_is) c.key.ensures c.in-Ok.ensures

pub returns-in-Err-clause-entries : goal.returns-in-Err-clause-entries
returns-in-Err-clause-entries g c =
    let items : c.insert.new.self.items ≡ insert c.self.inside.entries.items c.in-Err.at c.args.entry = grind (arith, common_steps) in
    added-gap g.E.Entry.reading g.met.E.Entry.key_order c.args.entry c.self.inside.entries.items c.deref.result.now c.args.self.now.0 c.key.result c.in-Err.at c.self.invariant
    c.deref.ensures.value (ap (λ v. v.0) c.self.view_is) c.key.ensures c.in-Err.ensures c.insert.new.self.items items
