use Rattle.std.proofs.Common.{arith, ◌+◌, ◌-◌, ◌/◌, sym, ◌∙◌}
use Rattle.page_codec.specs.Page.{rows_on}
use Rattle.page_codec.specs.Laws.Writing.{length-rows_on}
use Rattle.btree_image.proofs.Halving.{at_or_behind, before_it}
use Rattle.btree_image.proofs.in_page.last_up_to.Goals as goal

pub loop-high-init : goal.loop-high-init
loop-high-init g c = record {
  some = omega arith;
  inside = omega arith;
  between = λ place is. record { from = omega arith; before = let all = length-rows_on c.args.page.now in let inside = is.inside in omega arith };
}

pub loop-high-preserved-then-reaches : goal.loop-high-preserved-then-reaches
loop-high-preserved-then-reaches g c = record {
  some = omega arith;
  inside = omega arith;
  between = λ place is. record {
    from =
        let all = length-rows_on c.args.page.now in
        at_or_behind g.T.TreeRow.layout c.args.key.now (rows_on c.args.page.now) place is (c.loop-high.low + (c.loop-high.high - c.loop-high.low) / 2)
        (omega arith) (omega arith) (sym c.reaches.ensures ∙ c.if-reaches.true);
    before = let so_far = c.loop-high.invariant.between place is in omega arith;
  };
}

pub loop-high-preserved : goal.loop-high-preserved
loop-high-preserved g c = record {
  some = omega arith;
  inside = omega arith;
  between = λ place is. record {
    from = let so_far = c.loop-high.invariant.between place is in omega arith;
    before =
        let all = length-rows_on c.args.page.now in
        before_it g.T.TreeRow.layout c.args.key.now (rows_on c.args.page.now) place is (c.loop-high.low + (c.loop-high.high - c.loop-high.low) / 2)
        (omega arith) (omega arith) (sym c.reaches.ensures ∙ c.if-reaches.false);
  };
}

pub returns-clause-last : goal.returns-clause-last
returns-clause-last g c place is = let so_far = c.loop-high.invariant.between place is in omega arith
