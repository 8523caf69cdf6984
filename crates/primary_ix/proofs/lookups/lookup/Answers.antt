use Rattle.std.proofs.Common.{None, sym, ◌∙◌, ap, subst}
use Rattle.primary_ix.specs.Components.{AreShown}
use Rattle.primary_ix.specs.Roots.{AreRoots}
use Rattle.primary_ix.specs.OnPages.{ReadsAmong}
use Rattle.primary_ix.specs.Lookups.{lookup_pages}
use Rattle.primary_ix.specs.Laws.Memory.{view-disk}
use Rattle.primary_ix.proofs.Memory.{record-memory, record-disk, record-table}
use Rattle.primary_ix.proofs.lookups.lookup.Goals as goal

pub returns-in-Some-clause-found : goal.returns-in-Some-clause-found
returns-in-Some-clause-found g c disk shown =
    c.row.ensures ∙ record-memory c.args.view.now.active c.args.view.now.frozen disk c.args.key c.in-Some.row c.in-Some.ensures

pub returns-in-Some-clause-table : goal.returns-in-Some-clause-table
returns-in-Some-clause-table g c disk table shown fits =
    record-table c.args.view.now.active c.args.view.now.frozen disk c.args.key table c.row.result (returns-in-Some-clause-found g c disk shown) fits

pub returns-clause-found : goal.returns-clause-found
returns-clause-found g c disk shown =
    c.record_of.ensures ∙ record-disk c.args.view.now.active c.args.view.now.frozen disk c.args.key c.in_ok-lookup_disk.field-0 c.in_default.ensures
    (c.in_ok-lookup_disk.ensures.found disk (subst (λ comps. AreShown (g.P.Pages.lending c.args.pages.now).contents comps disk) (sym c.deref.ensures.value) shown))

pub returns-clause-table : goal.returns-clause-table
returns-clause-table g c disk table shown fits =
    record-table c.args.view.now.active c.args.view.now.frozen disk c.args.key table c.record_of.result (returns-clause-found g c disk shown) fits

pub returns-clause-reads : goal.returns-clause-reads
returns-clause-reads g c =
    let view = c.args.view.now in
    let there = c.in_ok-lookup_disk.ensures.reads in
    let same = c.deref.ensures.value in (
      there.0,
      subst (λ comps. ReadsAmong comps g.P.Pages.lending g.P.Pages.asked c.args.pages.now c.lookup_disk.new.pages None there.0) same there.1,
      λ disk roots shown at.
          there.2 disk roots (subst (λ comps. AreShown (g.P.Pages.lending c.args.pages.now).contents comps disk) (sym same) shown) (subst (λ comps. AreRoots comps roots) (sym same) at)
          ∙ ap (λ comps. lookup_pages c.args.key comps disk roots) same
          ∙ view-disk c.args.key view.active view.frozen view.comps.items disk roots c.in_default.ensures,
    )
