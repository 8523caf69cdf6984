use Rattle.std.proofs.Common.{◌≡◌, ◌+◌, ◌≤◌, length}
use Rattle.script_lang.specs.declared.limits.TheConstants.{MOST_BYTES, MOST_COMMANDS}
use Rattle.script_lang.specs.declared.reading.TheConstants.{FRONT}
use Rattle.script_lang.proofs.Pieces.{IsPartway}
use Rattle.script_lang.proofs.reading.Reader.take_piece.Given as goal

abbrev pub invariant-loop-at : goal.invariant-loop-at
invariant-loop-at l = record {
  partway : IsPartway FRONT MOST_COMMANDS l.fn.self l.self l.piece l.rest;
  counted : l.self.bytes + length l.rest ≡ l.fn.self.bytes + length l.piece;
  within : l.self.bytes ≤ MOST_BYTES;
}

abbrev pub decreases-loop-at : goal.decreases-loop-at
decreases-loop-at l = length l.rest
