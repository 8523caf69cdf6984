use Rattle.std.proofs.Common.{rules, [], Some, None, map, arith, sym, ◌∙◌, ap, subst, max, suc, ◌-◌}
use Rattle.btree_image.specs.Pages.{page_number}
use Rattle.btree_image.specs.Walks.{IsInHand}
use Rattle.btree_image.proofs.Along.{goes-fault, goes-on, goes-short, goes-same, goes-nowhere}
use Rattle.btree_image.proofs.Places.{places-none, places-whole, behind-none, behind-step, behind-whole, run-next, run-left}
use Rattle.btree_image.proofs.narrow.pass.Goals as goal

pub loop-at-init : goal.loop-at-init
loop-at-init g c =
    let number = page_number g.T.TreeRow.layout c.args.tree.first c.args.tree.rows c.args.level in
    record {
      goes = goes-same (ap (map number) (sym (places-none c.args.hand.now.next c.args.run.first c.args.run.first (omega arith)))) (goes-nowhere [] (g.met.P.Pages.asked_none c.args.pages.now));
      from = omega arith;
      most = omega arith;
      next = sym (behind-none c.args.hand.now.next c.args.run.first c.args.run.first (omega arith));
      holds = c.requires.holds;
    }

pub returns-in_err-reach-clause-goes : goal.returns-in_err-reach-clause-goes
returns-in_err-reach-clause-goes g c =
    let number = page_number g.T.TreeRow.layout c.args.tree.first c.args.tree.rows c.args.level in
    let inv = c.loop-at.invariant in
    goes-fault c.from_residual.result _ (search rules) (goes-short c.in_err-reach.field-0.0 [] _ _ _ (run-left number c.args.hand.now.next c.args.run.first c.loop-at.at c.args.run.end c.loop-at.hand.next inv.from c.loop-at-test.true inv.next)
    (goes-on g.met.P.Pages.asked_then (Some c.in_err-reach.field-0.0) _ _ inv.goes c.in_err-reach.ensures.goes))

pub loop-at-preserved : goal.loop-at-preserved
loop-at-preserved g c =
    let l = g.T.TreeRow.layout in
    let number = page_number l c.args.tree.first c.args.tree.rows c.args.level in
    let inv = c.loop-at.invariant in
    record {
      goes = goes-same (run-next number c.args.hand.now.next c.args.run.first c.loop-at.at c.loop-at.hand.next inv.from inv.next)
          (goes-on g.met.P.Pages.asked_then None _ _ inv.goes c.in_ok-reach.ensures.goes);
      from = let from = inv.from in omega arith;
      most = let test = c.loop-at-test.true in omega arith;
      next = c.in_ok-reach.ensures.next ∙ (ap (λ n. max n (suc c.loop-at.at)) inv.next ∙ behind-step c.args.hand.now.next c.args.run.first c.loop-at.at inv.from);
      holds = λ some. subst (λ contents. IsInHand l c.args.tree.first c.args.tree.rows contents c.args.level (c.reach.new.hand.next - 1) c.reach.new.hand) inv.goes.reads.same_contents c.in_ok-reach.ensures.in_hand;
    }

pub returns-clause-goes : goal.returns-clause-goes
returns-clause-goes g c =
    let number = page_number g.T.TreeRow.layout c.args.tree.first c.args.tree.rows c.args.level in
    let inv = c.loop-at.invariant in
    goes-same (ap (map number) (places-whole c.args.hand.now.next c.args.run.first c.loop-at.at c.args.run.end inv.from c.loop-at-test.false inv.most)) inv.goes

pub returns-clause-next : goal.returns-clause-next
returns-clause-next g c =
    let inv = c.loop-at.invariant in
    inv.next ∙ behind-whole c.args.hand.now.next c.args.run.first c.loop-at.at c.args.run.end inv.from c.loop-at-test.false inv.most
