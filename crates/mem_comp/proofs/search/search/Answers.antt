use Rattle.std.proofs.Common.{rules}
use Rattle.std.proofs.lemmas.Fn.{always_returns_same}
use Rattle.mem_comp.proofs.Searched.{searched}
use Rattle.mem_comp.proofs.search.search.Goals as goal

pub returns : goal.returns
returns g c =
    let r = g.E.Entry.reading in
    let facts = c.binary_search_by.ensures in
    searched r g.met.E.Entry.key_order c.args.entries.now c.requires c.args.key.now c.binary_search_by.result facts.bound
    (facts.position (λ e. r.order (r.key_of e) c.args.key.now) (always_returns_same _ _ _ (λ a res f called. (search rules, search rules))))
