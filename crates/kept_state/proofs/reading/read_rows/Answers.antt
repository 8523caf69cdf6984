use Rattle.std.proofs.Common.{rules, [], Ok, refl, ◌∙◌}
use Rattle.primary_ix.specs.AllPages.{all_pages}
use Rattle.kept_state.proofs.Went.{only-read, went-nowhere, read-lent}
use Rattle.kept_state.proofs.reading.read_rows.Goals as goal

pub returns-in_default-clause-stays : goal.returns-in_default-clause-stays
returns-in_default-clause-stays g c =
    let D = g.D.Device in
    let d = c.args.device.now in
    let asked = read-lent D.seen (Ok d) c.args.state.now.0 g.met.D.Device.clock_told _ _ d d d d _ (λ disk roots. []) refl refl refl refl (λ disk roots. refl) (went-nowhere D.seen d _ _ d) in
    only-read c.args.state.now.0 (D.seen d) (D.seen d) (Ok d) asked.0 c.components-components.ensures.lists asked.1

pub returns-clause-asked : goal.returns-clause-asked
returns-clause-asked g c =
    let D = g.D.Device in
    let there = c.living_rows.ensures.reads in
    read-lent D.seen c.living_rows.result c.args.state.now.0 g.met.D.Device.clock_told c.new-lent.result.extents.now _
    c.args.device.now c.new-lent.result.device.now c.living_rows.new.pages.device.now _ (λ comps disk roots. all_pages comps roots) _
    (c.new-lent.ensures.extents ∙ c.extents.ensures.extents) c.components-components.ensures.trees c.new-lent.ensures.untouched (search rules) (λ disk roots. refl)
    (record {
      asked = there.0;
      went = record { asked_for = there.1.asked_for.2; are_lent = there.1.are_lent; stops = there.1.stops };
      damaged = there.1.damaged;
      tested = there.1.tested;
      goes = there.2;
    })

pub returns-clause-stays : goal.returns-clause-stays
returns-clause-stays g c =
    let D = g.D.Device in
    let asked = returns-clause-asked g c in
    only-read c.args.state.now.0 (D.seen c.args.device.now) (D.seen _)
    c.living_rows.result asked.0 c.components-components.ensures.lists asked.1
