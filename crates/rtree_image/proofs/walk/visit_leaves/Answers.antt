use Rattle.std.proofs.Common.{rules, ◌+◌, drop, Some, None, suc, ◌++◌, take, get_or, arith, sym, ◌∙◌, ap, subst, append_assoc}
use Rattle.std.specs.List.{flat_map}
use Rattle.std.proofs.lemmas.List.{take-append-drop}
use Rattle.page_codec.specs.Laws.Writing.{take_of_length-le}
use Rattle.rtree_image.specs.Image.{tree_of, rows_below, IsShown, page_number}
use Rattle.rtree_image.specs.Steps.{ReadsLevel}
use Rattle.rtree_image.specs.Visits.{rows_inside}
use Rattle.rtree_image.proofs.Ascending.{within-next, within-le}
use Rattle.rtree_image.proofs.Picked.{flat-more}
use Rattle.rtree_image.proofs.Walked.{reads-next}
use Rattle.rtree_image.proofs.walk.visit_leaves.Goals as goal

pub visit_leaf-requires-clause-place : goal.visit_leaf-requires-clause-place
visit_leaf-requires-clause-place g c =
    let next = within-next c.loop-i.invariant.mark _ c.args.places.now c.loop-i.i 0 c.loop-i-test.true c.loop-i.invariant.rest in
    let below = within-le _ _ _ next.1 in
    record { inside = omega arith; up_to_root = λ low h. absurd (omega arith) }

pub loop-i-preserved : goal.loop-i-preserved
loop-i-preserved g c =
    let s = tree_of c.args.tree.rows in
    let inv = c.loop-i.invariant in
    let at = get_or c.args.places.now c.loop-i.i 0 in
    let next = within-next inv.mark _ c.args.places.now c.loop-i.i 0 c.loop-i-test.true inv.rest in
    let added = c.in_ok-visit_leaf.ensures.keeps in
    record {
      reads = reads-next g.met.P.Pages.asked_then None (page_number s c.args.tree.first 0) c.args.places.now c.loop-i.i 0 c.loop-i-test.true inv.reads c.in_ok-visit_leaf.ensures.reads;
      mark = suc at;
      rest = next.1;
      keeps = (inv.keeps.0 ++ added.0, added.1 ∙ (ap (λ xs. xs ++ added.0) inv.keeps.1 ∙ append_assoc c.args.out.now.items inv.keeps.0 added.0));
      told = λ list shown.
          let found = flat_map (λ at. rows_inside c.args.rect.now (rows_below s list 0 at)) (take c.loop-i.i c.args.places.now) in
          c.in_ok-visit_leaf.ensures.told list (subst (λ contents. IsShown contents c.args.tree.first c.args.tree.rows list) (sym inv.reads.same_contents) shown)
          ∙ (ap (λ xs. xs ++ rows_inside c.args.rect.now (rows_below s list 0 at)) (inv.told list shown)
          ∙ (append_assoc c.args.out.now.items found (rows_inside c.args.rect.now (rows_below s list 0 at))
          ∙ ap (λ xs. c.args.out.now.items ++ xs) (sym (flat-more (λ at. rows_inside c.args.rect.now (rows_below s list 0 at)) c.args.places.now c.loop-i.i 0 c.loop-i-test.true))));
    }

pub returns-in_err-visit_leaf-clause-reads : goal.returns-in_err-visit_leaf-clause-reads
returns-in_err-visit_leaf-clause-reads g c =
    let inv = c.loop-i.invariant in
    let fault = c.in_err-visit_leaf.field-0.0 in
    let reads : ReadsLevel c.args.rect.now c.args.tree.first c.args.tree.rows g.P.Pages.lending g.P.Pages.asked c.args.pages.now c.visit_leaf.new.pages (Some fault) 0 c.args.places.now = (
      take (c.loop-i.i + 1) c.args.places.now,
      reads-next g.met.P.Pages.asked_then (Some fault) (page_number (tree_of c.args.tree.rows) c.args.tree.first 0) c.args.places.now c.loop-i.i 0 c.loop-i-test.true inv.reads c.in_err-visit_leaf.ensures.reads,
      (drop (c.loop-i.i + 1) c.args.places.now, take-append-drop (c.loop-i.i + 1) c.args.places.now),
    ) in
    search rules

pub returns-clause-told : goal.returns-clause-told
returns-clause-told g c list shown =
    c.loop-i.invariant.told list shown
    ∙ ap (λ places. c.args.out.now.items ++ flat_map (λ at. rows_inside c.args.rect.now (rows_below (tree_of c.args.tree.rows) list 0 at)) places)
    (take_of_length-le c.args.places.now c.loop-i.i (omega arith))

pub returns-clause-reads : goal.returns-clause-reads
returns-clause-reads g c = (_, c.loop-i.invariant.reads, take_of_length-le c.args.places.now c.loop-i.i (omega arith))
