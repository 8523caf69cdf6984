use Rattle.std.proofs.Common.{◌≡◌, suc, ◌+◌, ◌<◌, ◌≤◌, [], ◌++◌, Some, None, length, get_or, arith, rules, sym, ◌∙◌, ap, subst}
use Rattle.primary_ix.specs.declared.component.PrimComp.{PrimComp}
use Rattle.primary_ix.specs.Components.{AreShown}
use Rattle.primary_ix.specs.Lookups.{lookup_pages}
use Rattle.primary_ix.specs.OnPages.{ReadsAlong}
use Rattle.primary_ix.specs.Laws.Agreeing.{row_with_key-entry_at}
use Rattle.primary_ix.proofs.Passed.{newest-found, newest-passed, newest-end, way-here, way-found, way-passed, way-end, reads-next, way-refused, way-gone}
use Rattle.primary_ix.proofs.lookups.lookup_disk.Goals as goal

-- what stands for a component outside the list
abbrev none : PrimComp
none = record { tree = record { first = 0; rows = 0 } }

pub returns-then-is_some-clause-found : goal.returns-then-is_some-clause-found
returns-then-is_some-clause-found g c disk shown =
    let i = c.loop-comp.comp-index in
    let inv = c.loop-comp.invariant in
    let now = subst (λ contents. AreShown contents c.args.comps.now disk) (sym inv.reads.same_contents) shown in
    let inside : i < length disk = let count = shown.count in omega arith in
    let list = get_or disk i [] in
    newest-found c.args.key disk i inside _
    (c.in_ok-found.ensures.found list (now.each i none [] (omega arith)) ∙ row_with_key-entry_at list c.args.key)
    (sym c.is_some.ensures ∙ c.if-is_some.true) (inv.told disk shown)

pub returns-then-is_some-clause-reads : goal.returns-then-is_some-clause-reads
returns-then-is_some-clause-reads g c =
    let i = c.loop-comp.comp-index in
    let inv = c.loop-comp.invariant in
    let there = c.in_ok-found.ensures.reads in (
      inv.seen ++ there.0,
      reads-next c.args.comps.now none i (omega arith) g.met.P.Pages.asked_then None inv.reads there.1,
      λ disk roots shown at.
          let now = subst (λ contents. AreShown contents c.args.comps.now disk) (sym inv.reads.same_contents) shown in
          let inside : i < length disk = let count = shown.count in omega arith in
          let in_roots : i < length roots = let count = at.count in omega arith in
          let list = get_or disk i [] in
          let found = c.in_ok-found.ensures.found list (now.each i none [] (omega arith)) ∙ row_with_key-entry_at list c.args.key in
          ap (λ t. inv.seen ++ t) (there.2 list (get_or roots i 0) (now.each i none [] (omega arith)) (at.each i none 0 (omega arith))
          ∙ sym (way-found c.args.key disk i inside c.args.comps.now roots none (omega arith) in_roots _ found (sym c.is_some.ensures ∙ c.if-is_some.true)))
          ∙ inv.way disk roots shown at,
    )

pub returns-in_err-found-clause-found : goal.returns-in_err-found-clause-found
returns-in_err-found-clause-found g c disk shown =
    let i = c.loop-comp.comp-index in
    let now = subst (λ contents. AreShown contents c.args.comps.now disk) (sym c.loop-comp.invariant.reads.same_contents) shown in
    let told = c.in_err-found.ensures.found (get_or disk i []) (now.each i none [] (omega arith)) in
    search rules

pub returns-in_err-found-clause-reads : goal.returns-in_err-found-clause-reads
returns-in_err-found-clause-reads g c =
    let i = c.loop-comp.comp-index in
    let inv = c.loop-comp.invariant in
    let fault = c.in_err-found.field-0.0 in
    let there = c.in_err-found.ensures.reads in
    let reads : ReadsAlong c.args.comps.now g.P.Pages.lending g.P.Pages.asked c.args.pages.now c.find.new.pages (Some fault) (λ disk roots. lookup_pages c.args.key c.args.comps.now disk roots) = (
      inv.seen ++ there.0,
      reads-next c.args.comps.now none i (omega arith) g.met.P.Pages.asked_then (Some fault) inv.reads there.1,
      λ disk roots shown at.
          let now = subst (λ contents. AreShown contents c.args.comps.now disk) (sym inv.reads.same_contents) shown in
          let inside : i < length disk = let count = shown.count in omega arith in
          let in_roots : i < length roots = let count = at.count in omega arith in
          way-refused fault inv.seen there.0 _ _ _ (ap (λ t. inv.seen ++ t) (sym (way-here c.args.key disk i inside c.args.comps.now roots none (omega arith) in_roots)) ∙ inv.way disk roots shown at)
          (there.2 (get_or disk i []) (get_or roots i 0) (now.each i none [] (omega arith)) (at.each i none 0 (omega arith))),
    ) in
    search rules

pub loop-comp-preserved : goal.loop-comp-preserved
loop-comp-preserved g c =
    let i = c.loop-comp.comp-index in
    let inv = c.loop-comp.invariant in
    let there = c.in_ok-found.ensures in
    let e : i + 1 ≡ suc i = omega arith in
    rw e (record {
      seen = _;
      reads = reads-next c.args.comps.now none i (omega arith) g.met.P.Pages.asked_then None inv.reads there.reads.1;
      told = λ disk shown.
          let now = subst (λ contents. AreShown contents c.args.comps.now disk) (sym inv.reads.same_contents) shown in
          let inside : i < length disk = let count = shown.count in omega arith in
          let list = get_or disk i [] in
          newest-passed c.args.key disk i inside _ (there.found list (now.each i none [] (omega arith)) ∙ row_with_key-entry_at list c.args.key)
          (sym c.is_some.ensures ∙ c.if-is_some.false) (inv.told disk shown);
      way = λ disk roots shown at.
          let now = subst (λ contents. AreShown contents c.args.comps.now disk) (sym inv.reads.same_contents) shown in
          let inside : i < length disk = let count = shown.count in omega arith in
          let in_roots : i < length roots = let count = at.count in omega arith in
          let list = get_or disk i [] in
          let found = there.found list (now.each i none [] (omega arith)) ∙ row_with_key-entry_at list c.args.key in
          way-gone inv.seen _ _ _ _
          (ap (λ t. inv.seen ++ t) (sym (way-passed c.args.key disk i inside c.args.comps.now roots none (omega arith) in_roots _ found (sym c.is_some.ensures ∙ c.if-is_some.false))) ∙ inv.way disk roots shown at)
          (there.reads.2 list (get_or roots i 0) (now.each i none [] (omega arith)) (at.each i none 0 (omega arith)));
    })

pub returns-clause-found : goal.returns-clause-found
returns-clause-found g c disk shown =
    let inv = c.loop-comp.invariant in
    let end : length disk ≤ c.loop-comp.comp-index = let count = shown.count in omega arith in
    sym (inv.told disk shown ∙ newest-end c.args.key disk c.loop-comp.comp-index end)

pub returns-clause-reads : goal.returns-clause-reads
returns-clause-reads g c =
    let inv = c.loop-comp.invariant in (
      inv.seen,
      inv.reads,
      λ disk roots shown at. sym (way-end c.args.key c.args.comps.now disk roots c.loop-comp.comp-index inv.seen (omega arith)) ∙ inv.way disk roots shown at,
    )
