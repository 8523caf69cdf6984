use Rattle.std.proofs.Common.{◌≡◌, ◌+◌, ◌-◌, ◌≤◌, refl, arith, subst, sym, length, take, drop, ℕ, List}
use Rattle.std.proofs.lemmas.List.{take_rest, length-take, length-drop}
use Rattle.script_lang.specs.declared.limits.TheConstants.{MOST_BYTES, MOST_COMMANDS}
use Rattle.script_lang.specs.declared.reading.TheConstants.{FRONT}
use Rattle.script_lang.proofs.Pieces.{IsPartway, nothing_taken, partway_line, partway_refused, partway_ends}
use Rattle.script_lang.proofs.reading.Reader.take_piece.Goals as goal

pub loop-at-init : goal.loop-at-init
loop-at-init c = record {
  partway = nothing_taken FRONT MOST_COMMANDS c.args.self.now c.args.piece.now;
  counted = refl;
  within = subst (λ p. p.bytes ≤ MOST_BYTES) c.self.view_is c.self.invariant.2;
}

pub returns-in-Err-clause-exact : goal.returns-in-Err-clause-exact
returns-in-Err-clause-exact c =
    partway_refused FRONT MOST_BYTES MOST_COMMANDS (omega arith) (Unit {0}) c.args.self.now c.loop-at.self c.end_line.new.self c.args.piece.now c.loop-at.rest.now c.in-Some.at c.in-Err.e
    c.loop-at.invariant.partway c.in-Some.ensures c.loop-at.invariant.within c.in-Err.ensures.exact

pub loop-at-preserved : goal.loop-at-preserved
loop-at-preserved c =
    let at : ℕ = c.in-Some.at in
    let rest : List ℕ = c.loop-at.rest.now in
    let behind : take (length rest - (at + 1)) (drop (at + 1) rest) ≡ drop (at + 1) rest = take_rest rest (at + 1) in
    record {
      partway = subst (λ r. IsPartway FRONT MOST_COMMANDS c.args.self.now c.end_line.new.self c.args.piece.now r) (sym behind)
          (partway_line FRONT MOST_BYTES MOST_COMMANDS (omega arith) c.args.self.now c.loop-at.self c.end_line.new.self c.args.piece.now rest at
          c.loop-at.invariant.partway c.in-Some.ensures c.in_default-end_line.ensures.exact);
      counted = rw behind (simp length-drop (omega (arith, c.in_default-end_line.ensures.counted, c.in-Some.ensures.within, length-take at rest)));
      within = c.end_line.ensures.within;
    }

pub returns-clause-exact : goal.returns-clause-exact
returns-clause-exact c =
    partway_ends FRONT MOST_BYTES MOST_COMMANDS (omega arith) (Unit {0}) c.args.self.now c.loop-at.self c.take_part.new.self c.args.piece.now c.loop-at.rest.now c.take_part.result
    c.loop-at.invariant.partway c.in_default.ensures c.loop-at.invariant.within c.take_part.ensures.exact
