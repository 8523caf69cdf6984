use Rattle.store_opening.proofs.Restoring.{laid-more}
use Rattle.store_opening.proofs.replay.lay_all.Goals as goal

pub loop-logged-preserved : goal.loop-logged-preserved
loop-logged-preserved c = record {
  lists = laid-more c.args.after c.args.last c.args.records.now c.loop-logged.logged-index c.logged-item.result _ c.args.state.now.0 c.loop-logged.state.0 c.lay_between.new.state.0
      c.loop-logged-test.true c.logged-item.is c.loop-logged.invariant.lists c.in_ok-lay_between.ensures.lists;
  sound = λ first. c.in_ok-lay_between.ensures.sound (c.loop-logged.invariant.sound first);
}
