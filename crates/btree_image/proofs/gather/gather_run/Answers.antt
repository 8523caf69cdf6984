use Rattle.std.proofs.Common.{rules, ◌-◌, ◌*◌, ◌≤◌, ◌++◌, max, min, suc, [], Some, None, map, arith, sym, ◌∙◌, ap, subst, append_assoc}
use Rattle.std.proofs.lemmas.List.{append-nil}
use Rattle.page_codec.specs.Page.{most_rows}
use Rattle.btree_image.specs.Descent.{rank}
use Rattle.btree_image.specs.Pages.{page_number}
use Rattle.btree_image.specs.Shown.{IsShown}
use Rattle.btree_image.specs.Walks.{IsInHand, in_hand, part, rank_below}
use Rattle.btree_image.proofs.Widths.{leaf_room, inner_room}
use Rattle.btree_image.proofs.Along.{goes-fault, none_ok, goes-then, goes-short, goes-same, goes-nowhere}
use Rattle.btree_image.proofs.Places.{places-none, places-whole, behind-none, behind-step, behind-whole, behind-most, run-next, run-left, hand-follows}
use Rattle.btree_image.proofs.Gathered.{part-none, rows-start, rows-next, rows-all}
use Rattle.btree_image.proofs.gather.gather_run.Goals as goal

pub loop-at-init : goal.loop-at-init
loop-at-init g c =
    let l = g.T.TreeRow.layout in
    let k = g.met.T.TreeRow.kinds in
    let number = page_number l c.args.tree.first c.args.tree.rows 0 in
    record {
      goes = goes-same (ap (map number) (sym (places-none c.args.hand.now.next c.args.run.first c.args.run.first (omega arith)))) (goes-nowhere _ (g.met.P.Pages.asked_none c.args.pages.now));
      from = omega arith;
      most = omega arith;
      next = sym (behind-none c.args.hand.now.next c.args.run.first c.args.run.first (omega arith));
      holds = c.requires.holds;
      added = [];
      out = sym (append-nil c.args.out.now.items);
      told = λ list shown leads near. sym (part-none list _ _ (rows-start l k.key_order (leaf_room l _ _ _ k) (inner_room l _ _ _ k) c.args.tree.rows list shown.is c.args.range.now c.args.run leads));
    }

pub returns-in_err-gather_page-clause-goes : goal.returns-in_err-gather_page-clause-goes
returns-in_err-gather_page-clause-goes g c =
    let l = g.T.TreeRow.layout in
    let number = page_number l c.args.tree.first c.args.tree.rows 0 in
    let inv = c.loop-at.invariant in
    let hand = in_hand l c.args.tree.first c.args.tree.rows 0 in
    let follows = hand-follows l c.args.tree.first c.args.tree.rows 0 c.args.hand.now.next c.args.run.first c.loop-at.at in
    goes-fault c.from_residual.result _ (search rules) (goes-short c.in_err-gather_page.field-0.0 _ _ _ _ (run-left number c.args.hand.now.next c.args.run.first c.loop-at.at c.args.run.end c.loop-at.hand.next inv.from c.loop-at-test.true inv.next)
    (goes-then g.met.P.Pages.asked_then (Some c.in_err-gather_page.field-0.0) _ _ follows.0 _ _ inv.goes (follows.1 ∙ ap (λ n. follows.0 ++ hand n) (sym inv.next)) c.in_err-gather_page.ensures.goes))

pub returns-in_err-gather_page-clause-adds : goal.returns-in_err-gather_page-clause-adds
returns-in_err-gather_page-clause-adds g c =
    let inv = c.loop-at.invariant in
    let adds = c.in_err-gather_page.ensures.adds in
    (inv.added ++ adds.0, adds.1 ∙ (ap (λ xs. xs ++ adds.0) inv.out ∙ append_assoc c.args.out.now.items inv.added adds.0), λ list shown leads near. none_ok c.from_residual.result c.in_err-gather_page.field-0.0 _ (search rules))

pub loop-at-preserved : goal.loop-at-preserved
loop-at-preserved g c =
    let l = g.T.TreeRow.layout in
    let k = g.met.T.TreeRow.kinds in
    let number = page_number l c.args.tree.first c.args.tree.rows 0 in
    let inv = c.loop-at.invariant in
    let adds = c.in_ok-gather_page.ensures.adds in
    let hand = in_hand l c.args.tree.first c.args.tree.rows 0 in
    let follows = hand-follows l c.args.tree.first c.args.tree.rows 0 c.args.hand.now.next c.args.run.first c.loop-at.at in
    record {
      goes = goes-same (run-next number c.args.hand.now.next c.args.run.first c.loop-at.at c.loop-at.hand.next inv.from inv.next)
          (goes-then g.met.P.Pages.asked_then None _ _ follows.0 _ _ inv.goes (follows.1 ∙ ap (λ n. follows.0 ++ hand n) (sym inv.next)) c.in_ok-gather_page.ensures.goes);
      from = let from = inv.from in omega arith;
      most = let test = c.loop-at-test.true in omega arith;
      next = c.in_ok-gather_page.ensures.next ∙ (ap (λ n. max n (suc c.loop-at.at)) inv.next ∙ behind-step c.args.hand.now.next c.args.run.first c.loop-at.at inv.from);
      holds = λ some. subst (λ contents. IsInHand l c.args.tree.first c.args.tree.rows contents 0 (c.gather_page.new.hand.next - 1) c.gather_page.new.hand) inv.goes.reads.same_contents (c.in_ok-gather_page.ensures.holds some);
      added = inv.added ++ adds.0;
      out = adds.1 ∙ (ap (λ xs. xs ++ adds.0) inv.out ∙ append_assoc c.args.out.now.items inv.added adds.0);
      told = λ list shown leads near.
          let shown_now = subst (λ contents. IsShown l contents c.args.tree.first c.args.tree.rows list) (sym inv.goes.reads.same_contents) shown in
          let most = behind-most c.args.hand.now.next c.args.run.first c.loop-at.at in
          let next = inv.next in
          let from = inv.from in
          let near_now : c.loop-at.hand.next ≤ suc c.loop-at.at = omega arith in
          let here = adds.2 list shown_now leads near_now inv.from c.loop-at-test.true in
          ap (λ xs. xs ++ adds.0) (inv.told list shown leads near)
          ∙ (ap (λ xs. part list (rank_below l list c.args.range.now.0) (min (rank l list c.args.range.now.1) (c.loop-at.at * most_rows l.leaf)) ++ xs) here
          ∙ rows-next l k.key_order (leaf_room l _ _ _ k) (inner_room l _ _ _ k) c.args.tree.rows list shown.is c.args.range.now c.args.run c.loop-at.at leads inv.from c.loop-at-test.true);
    }

pub returns-clause-adds : goal.returns-clause-adds
returns-clause-adds g c =
    let l = g.T.TreeRow.layout in
    let k = g.met.T.TreeRow.kinds in
    let inv = c.loop-at.invariant in (
      inv.added,
      inv.out,
      λ list shown leads near. inv.told list shown leads near
          ∙ rows-all l k.key_order (leaf_room l _ _ _ k) (inner_room l _ _ _ k) c.args.tree.rows list shown.is c.args.range.now c.args.run c.loop-at.at leads inv.from c.loop-at-test.false inv.most,
    )

pub returns-clause-goes : goal.returns-clause-goes
returns-clause-goes g c =
    let number = page_number g.T.TreeRow.layout c.args.tree.first c.args.tree.rows 0 in
    let inv = c.loop-at.invariant in
    goes-same (ap (map number) (places-whole c.args.hand.now.next c.args.run.first c.loop-at.at c.args.run.end inv.from c.loop-at-test.false inv.most)) inv.goes

pub returns-clause-next : goal.returns-clause-next
returns-clause-next g c =
    let inv = c.loop-at.invariant in
    inv.next ∙ behind-whole c.args.hand.now.next c.args.run.first c.loop-at.at c.args.run.end inv.from c.loop-at-test.false inv.most
