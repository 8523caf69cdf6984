use Rattle.std.proofs.Common.{◌∙◌, sym, subst, ap, refl, arith}
use Rattle.script_lang.specs.declared.limits.TheConstants.{MOST_BYTES, MOST_COMMANDS}
use Rattle.script_lang.specs.declared.reading.TheConstants.{FRONT}
use Rattle.script_lang.specs.Reader.{after_input}
use Rattle.script_lang.proofs.Sources.{Underway, CountsFaults-from_breaks, underway_begins, underway_step, underway_fails, underway_counts, underway_ends, underway_ends_badly}
use Rattle.script_lang.proofs.reading.read_script.Goals as goal

pub loop-n-init : goal.loop-n-init
loop-n-init g c = record {
  told = subst (λ p. Underway FRONT MOST_COMMANDS (g.R.Source.left c.args.src.now) (g.R.Source.left c.args.src.now) p) (sym c.new-reader.ensures)
      (underway_begins FRONT MOST_BYTES MOST_COMMANDS (omega arith) (g.R.Source.left c.args.src.now));
  calm = refl;
  within = omega (arith, ap (λ p. p.bytes) c.new-reader.ensures);
}

pub loop-n-preserved : goal.loop-n-preserved
loop-n-preserved g c = record {
  told = underway_step FRONT MOST_BYTES MOST_COMMANDS (omega arith) (Unit {0}) tt _ _ _ c.loop-n.reader c.take_piece.new.self _ c.in-Ok.n
      c.loop-n.invariant.told c.in-Ok.ensures.told c.in_default-take_piece.ensures.exact;
  calm = c.in-Ok.ensures.counts ∙ c.loop-n.invariant.calm;
  within = c.take_piece.ensures.within;
}

pub returns-in-Err-end_input-clause-exact : goal.returns-in-Err-end_input-clause-exact
returns-in-Err-end_input-clause-exact g c =
    underway_ends_badly FRONT MOST_BYTES MOST_COMMANDS (omega arith) _ _ _ c.loop-n.reader _ c.in-Ok.n c.in-Err-end_input.e c.if-n-eq0.true c.loop-n.invariant.within
    c.loop-n.invariant.told c.in-Ok.ensures.told c.in-Err-end_input.ensures.exact

pub returns-in-Err-end_input-clause-counts : goal.returns-in-Err-end_input-clause-counts
returns-in-Err-end_input-clause-counts g c =
    CountsFaults-from_breaks c.in-Err-end_input.e (after_input MOST_COMMANDS c.loop-n.reader) _ _ c.in-Err-end_input.ensures.exact (c.in-Ok.ensures.counts ∙ c.loop-n.invariant.calm)

pub returns-then-n-eq0-clause-exact : goal.returns-then-n-eq0-clause-exact
returns-then-n-eq0-clause-exact g c =
    underway_ends FRONT MOST_BYTES MOST_COMMANDS (omega arith) _ _ _ c.loop-n.reader c.end_input.new.self _ c.in-Ok.n c.into_script.result c.if-n-eq0.true c.loop-n.invariant.within
    c.loop-n.invariant.told c.in-Ok.ensures.told c.in_default.ensures.exact c.into_script.ensures.script

pub returns-in-Err-take_piece-clause-exact : goal.returns-in-Err-take_piece-clause-exact
returns-in-Err-take_piece-clause-exact g c =
    underway_fails FRONT MOST_BYTES MOST_COMMANDS (omega arith) (Unit {0}) _ _ _ c.loop-n.reader c.take_piece.new.self _ c.in-Ok.n c.in-Err-take_piece.e
    c.loop-n.invariant.told c.in-Ok.ensures.told c.in-Err-take_piece.ensures.exact

pub returns-in-Err-take_piece-clause-counts : goal.returns-in-Err-take_piece-clause-counts
returns-in-Err-take_piece-clause-counts g c =
    underway_counts FRONT MOST_BYTES MOST_COMMANDS (omega arith) (Unit {0}) _ _ c.loop-n.reader c.take_piece.new.self _ c.in-Err-take_piece.e _ _
    c.loop-n.invariant.told c.in-Err-take_piece.ensures.exact (c.in-Ok.ensures.counts ∙ c.loop-n.invariant.calm)
