use Rattle.std.proofs.Common.{◌≡◌, suc, ◌+◌, ◌<◌, [], ◌∷◌, ◌++◌, Some, None, All, map, length, get_or, arith, rules, refl, sym, ◌∙◌, ap, subst, Vec, Global}
use Rattle.std.proofs.lemmas.List.{append-nil}
use Rattle.std.proofs.lemmas.List.Elements.{All-append, All-cons, All-nil}
use Rattle.dev_model.specs.Laws.Trail.{reads-none, reads-full, along-whole}
use Rattle.dev_model.specs.declared.page_faults.PageFault.TheVariants.{OutOfMemory}
use Rattle.primary_ix.specs.AllPages.{all_pages}
use Rattle.primary_ix.specs.OnPages.{ReadsAlong}
use Rattle.order_merge.specs.Ascending.{Ascends}
use Rattle.primary_ix.specs.declared.component.PrimComp.{PrimComp}
use Rattle.primary_ix.specs.declared.rows.PrimRow.{PrimRow}
use Rattle.primary_ix.specs.Reading.{prim_reading}
use Rattle.primary_ix.specs.Components.{AreShown}
use Rattle.primary_ix.proofs.Passed.{reads-next, way-refused, way-gone}
use Rattle.primary_ix.proofs.Everything.{all-here, all-end}
use Rattle.primary_ix.proofs.Whole.{lists-more}
use Rattle.primary_ix.proofs.living.scan_all.Goals as goal

-- what stands for a component outside the list
abbrev none : PrimComp
none = record { tree = record { first = 0; rows = 0 } }

pub loop-comp-init : goal.loop-comp-init
loop-comp-init g c = record {
  ascend = c.requires.ascend;
  seen = [];
  reads = reads-none [] (g.met.P.Pages.asked_none c.args.pages.now);
  told = λ disk shown. sym (append-nil _);
  way = λ disk roots shown at. refl;
}

pub loop-comp-preserved : goal.loop-comp-preserved
loop-comp-preserved g c =
    let i = c.loop-comp.comp-index in
    let inv = c.loop-comp.invariant in
    let rows = c.in_ok-scan_whole.ensures in
    let e : i + 1 ≡ suc i = omega arith in
    rw e (record {
      ascend = subst (All (λ (list : Vec PrimRow Global). Ascends prim_reading list.items)) (sym c.in_ok-push.ensures.items)
          (All-append (λ (list : Vec PrimRow Global). Ascends prim_reading list.items) c.loop-comp.lists.items (_ ∷ []) inv.ascend
          (All-cons (λ (list : Vec PrimRow Global). Ascends prim_reading list.items) _ [] rows.ascends (All-nil (λ (list : Vec PrimRow Global). Ascends prim_reading list.items))));
      seen = _;
      reads = reads-next c.args.comps.now none i (omega arith) g.met.P.Pages.asked_then None inv.reads rows.reads.1;
      told = λ disk shown.
          let now = subst (λ contents. AreShown contents c.args.comps.now disk) (sym inv.reads.same_contents) shown in
          let in_disk : i < length disk = let count = shown.count in omega arith in
          ap (map (λ (list : Vec PrimRow Global). list.items)) c.in_ok-push.ensures.items
          ∙ lists-more (λ (list : Vec PrimRow Global). list.items) c.loop-comp.lists.items _ (map (λ (list : Vec PrimRow Global). list.items) c.args.lists.now.items) disk i
          (inv.told disk shown) (rows.rows (get_or disk i []) (now.each i none [] (omega arith))) in_disk;
      way = λ disk roots shown at.
          let now = subst (λ contents. AreShown contents c.args.comps.now disk) (sym inv.reads.same_contents) shown in
          way-gone inv.seen _ _ _ _ (ap (λ t. inv.seen ++ t) (sym (all-here _ c.args.comps.now disk roots i none (omega arith) shown at)) ∙ inv.way disk roots shown at)
          (rows.reads.2 (get_or disk i []) (get_or roots i 0) (now.each i none [] (omega arith)) (at.each i none 0 (omega arith)));
    })

pub returns-in_err-scan_whole-clause-lists : goal.returns-in_err-scan_whole-clause-lists
returns-in_err-scan_whole-clause-lists g c disk shown =
    let i = c.loop-comp.comp-index in
    let now = subst (λ contents. AreShown contents c.args.comps.now disk) (sym c.loop-comp.invariant.reads.same_contents) shown in
    let told = c.in_err-scan_whole.ensures.rows (get_or disk i []) (now.each i none [] (omega arith)) in
    search rules

pub returns-in_err-scan_whole-clause-reads : goal.returns-in_err-scan_whole-clause-reads
returns-in_err-scan_whole-clause-reads g c =
    let i = c.loop-comp.comp-index in
    let inv = c.loop-comp.invariant in
    let fault = c.in_err-scan_whole.field-0.0 in
    let there = c.in_err-scan_whole.ensures.reads in
    let reads : ReadsAlong c.args.comps.now g.P.Pages.lending g.P.Pages.asked c.args.pages.now c.scan_whole.new.pages (Some fault) (λ disk roots. all_pages c.args.comps.now roots) = (
      inv.seen ++ there.0,
      reads-next c.args.comps.now none i (omega arith) g.met.P.Pages.asked_then (Some fault) inv.reads there.1,
      λ disk roots shown at.
          let now = subst (λ contents. AreShown contents c.args.comps.now disk) (sym inv.reads.same_contents) shown in
          way-refused fault inv.seen there.0 _ _ _ (ap (λ t. inv.seen ++ t) (sym (all-here _ c.args.comps.now disk roots i none (omega arith) shown at)) ∙ inv.way disk roots shown at)
          (there.2 (get_or disk i []) (get_or roots i 0) (now.each i none [] (omega arith)) (at.each i none 0 (omega arith))),
    ) in
    search rules

pub returns-in_err-push-clause-reads : goal.returns-in_err-push-clause-reads
returns-in_err-push-clause-reads g c =
    let i = c.loop-comp.comp-index in
    let inv = c.loop-comp.invariant in
    let there = c.in_ok-scan_whole.ensures.reads in
    let reads : ReadsAlong c.args.comps.now g.P.Pages.lending g.P.Pages.asked c.args.pages.now c.scan_whole.new.pages (Some OutOfMemory) (λ disk roots. all_pages c.args.comps.now roots) = (
      inv.seen ++ there.0,
      reads-full (reads-next c.args.comps.now none i (omega arith) g.met.P.Pages.asked_then None inv.reads there.1),
      λ disk roots shown at.
          let now = subst (λ contents. AreShown contents c.args.comps.now disk) (sym inv.reads.same_contents) shown in
          way-refused OutOfMemory inv.seen there.0 _ _ _ (ap (λ t. inv.seen ++ t) (sym (all-here _ c.args.comps.now disk roots i none (omega arith) shown at)) ∙ inv.way disk roots shown at)
          (along-whole (Some OutOfMemory) _ _ (there.2 (get_or disk i []) (get_or roots i 0) (now.each i none [] (omega arith)) (at.each i none 0 (omega arith)))),
    ) in
    search rules

pub returns-clause-reads : goal.returns-clause-reads
returns-clause-reads g c =
    let inv = c.loop-comp.invariant in (
      inv.seen,
      inv.reads,
      λ disk roots shown at. sym (all-end c.args.comps.now roots c.loop-comp.comp-index inv.seen (omega arith)) ∙ inv.way disk roots shown at,
    )
