use Rattle.std.proofs.Common.{rules, ◌+◌, drop, Some, None, ℕ, suc, ◌*◌, ◌≤◌, ◌++◌, List, min, take, [], get_or, arith, sym, ◌∙◌, ap, subst}
use Rattle.dev_model.specs.Laws.Trail.{reads-none}
use Rattle.tree_shape.specs.Shape.{level_size}
use Rattle.std.proofs.lemmas.List.{take-append-drop}
use Rattle.page_codec.specs.Laws.Writing.{take_of_length-le}
use Rattle.rtree_image.specs.Image.{tree_of, IsShown, page_number, AreLent}
use Rattle.rtree_image.specs.Steps.{ReadsLevel, AscendWithin, children_met}
use Rattle.rtree_image.proofs.Ascending.{within-next, within-le, within-none, within-append, within-higher}
use Rattle.rtree_image.proofs.Picked.{flat-more}
use Rattle.rtree_image.proofs.Walked.{reads-next}
use Rattle.rtree_image.proofs.walk.visit_level.Goals as goal

pub loop-i-init : goal.loop-i-init
loop-i-init g c = record {
  reads = reads-none [] (g.met.P.Pages.asked_none c.args.pages.now);
  mark = 0;
  rest = c.requires.places;
  ascends = subst (AscendWithin 0 (min (0 * 340) (level_size (tree_of c.args.tree.rows) c.args.below))) (sym c.requires.none) (within-none 0 _ (omega arith));
  told = λ list shown. c.requires.none;
}

pub visit-requires-clause-place : goal.visit-requires-clause-place
visit-requires-clause-place g c =
    let next = within-next c.loop-i.invariant.mark _ c.args.places.now c.loop-i.i 0 c.loop-i-test.true c.loop-i.invariant.rest in
    let below = within-le _ _ _ next.1 in
    record { inside = omega arith; up_to_root = c.requires.up_to_root }

pub visit-requires-clause-lent : goal.visit-requires-clause-lent
visit-requires-clause-lent g c = subst (λ lent. AreLent lent c.args.tree.first c.args.tree.rows) (sym c.loop-i.invariant.reads.same_lent) c.requires.lent

pub loop-i-preserved : goal.loop-i-preserved
loop-i-preserved g c =
    let s = tree_of c.args.tree.rows in
    let inv = c.loop-i.invariant in
    let at = get_or c.args.places.now c.loop-i.i 0 in
    let size = level_size s c.args.below in
    let next = within-next inv.mark _ c.args.places.now c.loop-i.i 0 c.loop-i-test.true inv.rest in
    let low : inv.mark ≤ at = next.0 in
    let added = c.in_ok-visit.ensures.ascends in
    record {
      reads = reads-next g.met.P.Pages.asked_then None (page_number s c.args.tree.first (suc c.args.below)) c.args.places.now c.loop-i.i 0 c.loop-i-test.true inv.reads c.in_ok-visit.ensures.reads;
      mark = suc at;
      rest = next.1;
      ascends = subst (AscendWithin 0 (min (suc at * 340) size)) (sym added.1)
          (added_behind inv.mark at size c.loop-i.next.items added.0 low inv.ascends added.2);
      told = λ list shown.
          c.in_ok-visit.ensures.told list (subst (λ contents. IsShown contents c.args.tree.first c.args.tree.rows list) (sym inv.reads.same_contents) shown)
          ∙ (ap (λ ps. ps ++ children_met s list c.args.rect.now c.args.below at) (inv.told list shown)
          ∙ sym (flat-more (children_met s list c.args.rect.now c.args.below) c.args.places.now c.loop-i.i 0 c.loop-i-test.true));
    }
  where
    -- the children of a page stand behind those of the pages before it
    added_behind : (mark at size : ℕ) (xs ys : List ℕ) → mark ≤ at → AscendWithin 0 (min (mark * 340) size) xs → AscendWithin (at * 340) (min (suc at * 340) size) ys
        → AscendWithin 0 (min (suc at * 340) size) (xs ++ ys)
    added_behind mark at size xs ys low front back =
        within-append 0 (at * 340) (min (suc at * 340) size) xs ys (within-higher 0 (min (mark * 340) size) (at * 340) xs (omega arith) front) back

pub returns-in_err-visit-clause-reads : goal.returns-in_err-visit-clause-reads
returns-in_err-visit-clause-reads g c =
    let inv = c.loop-i.invariant in
    let fault = c.in_err-visit.field-0.0 in
    let reads : ReadsLevel c.args.rect.now c.args.tree.first c.args.tree.rows g.P.Pages.lending g.P.Pages.asked c.args.pages.now c.visit.new.pages (Some fault) (suc c.args.below) c.args.places.now = (
      take (c.loop-i.i + 1) c.args.places.now,
      reads-next g.met.P.Pages.asked_then (Some fault) (page_number (tree_of c.args.tree.rows) c.args.tree.first (suc c.args.below)) c.args.places.now c.loop-i.i 0 c.loop-i-test.true inv.reads c.in_err-visit.ensures.reads,
      (drop (c.loop-i.i + 1) c.args.places.now, take-append-drop (c.loop-i.i + 1) c.args.places.now),
    ) in
    search rules

pub returns-clause-ascends : goal.returns-clause-ascends
returns-clause-ascends g c = within-higher _ _ _ _ (omega arith) c.loop-i.invariant.ascends

pub returns-clause-reads : goal.returns-clause-reads
returns-clause-reads g c = (_, c.loop-i.invariant.reads, take_of_length-le c.args.places.now c.loop-i.i (omega arith))
