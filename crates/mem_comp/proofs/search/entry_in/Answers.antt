use Rattle.std.proofs.Common.{sym}
use Rattle.mem_comp.proofs.Searched.{entry_at-place, entry_at-gap}
use Rattle.mem_comp.proofs.search.entry_in.Goals as goal

pub returns-in-Ok : goal.returns-in-Ok
returns-in-Ok g c =
    sym (entry_at-place g.E.Entry.reading g.met.E.Entry.key_order c.args.entries.now c.args.key.now c.in-Ok.at c.index-entries-at.result c.requires c.in-Ok.ensures c.index-entries-at.is)

pub returns-in-Err : goal.returns-in-Err
returns-in-Err g c = sym (entry_at-gap g.E.Entry.reading g.met.E.Entry.key_order c.args.entries.now c.args.key.now c.in-Err.field-0 c.in-Err.ensures)
