use Rattle.std.proofs.Common.{rules, refl, ◌∙◌, ap}
use Rattle.primary_ix.specs.Lookups.{lookup_pages}
use Rattle.primary_ix.specs.Laws.Memory.{view-disk}
use Rattle.kept_state.proofs.Found.{found-memory, pages-memory, found-disk}
use Rattle.kept_state.proofs.Lent.{shown-there, found-as}
use Rattle.kept_state.proofs.Went.{went-nowhere, read-lent}
use Rattle.kept_state.proofs.reading.find_row.Goals as goal

pub returns-in-Some-clause-found : goal.returns-in-Some-clause-found
returns-in-Some-clause-found g c disk shown = found-memory c.args.state.now.0.active c.args.state.now.0.frozen c.args.key c.in-Some.row c.in-Some.ensures disk

pub returns-in-Some-clause-asked : goal.returns-in-Some-clause-asked
returns-in-Some-clause-asked g c =
    let D = g.D.Device in
    let d = c.args.device.now in
    read-lent D.seen _ c.args.state.now.0 g.met.D.Device.clock_told _ _ d d d d _ _ refl refl refl refl
    (λ disk roots. pages-memory c.args.state.now.0.active c.args.state.now.0.frozen c.args.key c.in-Some.row c.in-Some.ensures _ disk roots)
    (went-nowhere D.seen _ _ _ d)

pub returns-clause-found : goal.returns-clause-found
returns-clause-found g c disk shown =
    let lends = c.new-pages.ensures.extents ∙ c.extents.ensures.extents in
    let begins = ap (λ d. (g.D.Device.seen d).story) c.new-pages.ensures.untouched in
    found-as c.lookup_disk.result _ _ _
    (found-disk c.args.state.now.0.active c.args.state.now.0.frozen c.args.key c.in_default.ensures disk)
    (c.lookup_disk.ensures.found disk (shown-there _ _ lends _ _ begins _ _ c.components-components.ensures.trees disk shown))

pub returns-clause-asked : goal.returns-clause-asked
returns-clause-asked g c =
    let D = g.D.Device in
    let there = c.lookup_disk.ensures.reads in
    read-lent D.seen c.lookup_disk.result c.args.state.now.0 g.met.D.Device.clock_told c.new-pages.result.extents.now _
    c.args.device.now c.new-pages.result.device.now c.lookup_disk.new.pages.device.now _ (lookup_pages c.args.key) _
    (c.new-pages.ensures.extents ∙ c.extents.ensures.extents) c.components-components.ensures.trees c.new-pages.ensures.untouched (search rules)
    (λ disk roots. view-disk c.args.key c.args.state.now.0.active c.args.state.now.0.frozen _ disk roots c.in_default.ensures)
    (record {
      asked = there.0;
      went = record { asked_for = there.1.asked_for.2; are_lent = there.1.are_lent; stops = there.1.stops };
      damaged = there.1.damaged;
      tested = there.1.tested;
      goes = there.2;
    })
