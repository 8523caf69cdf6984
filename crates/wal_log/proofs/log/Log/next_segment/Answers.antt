use Rattle.std.proofs.Common.{◌+◌, ℕ, set, true, ap, arith, refl}
use Rattle.std.proofs.lemmas.Nat.{mod_below}
use Rattle.dev_model.specs.Story.{bytes_of}
use Rattle.gate.specs.Laws.Plans.{did-stopped, not-ok}
use Rattle.wal_log.specs.Segments.{segments_of}
use Rattle.wal_log.proofs.Calling.{turn-within, turns}
use Rattle.wal_log.proofs.Later.{later-left}
use Rattle.wal_log.proofs.log.Log.next_segment.Goals as goal

pub returns-in_err-turn-clause-within : goal.returns-in_err-turn-clause-within
returns-in_err-turn-clause-within g c s is = turn-within c.args.self.now c.args.self.now s _ _ c.turn.result is _ c.from.ensures c.turn.ensures.did

pub returns-in_err-turn-clause-turns : goal.returns-in_err-turn-clause-turns
returns-in_err-turn-clause-turns g c s is rest = turns c.args.self.now c.args.self.now s _ _ _ is _ c.from.ensures (did-stopped _ _ _ _ c.from_residual.ensures.0 c.in_err-turn.ensures.did) rest c.requires.counted c.requires.some (assumption (c.fits-self)) (not-ok _ _ c.from_residual.ensures.0)

pub returns-in_err-turn-clause-later : goal.returns-in_err-turn-clause-later
returns-in_err-turn-clause-later g c s is of last there = later-left c.args.self.now (segments_of c.args.self.now.start (bytes_of s)) refl (mod_below _ 4 (omega arith)) c.requires.counted c.requires.some of last there

pub returns-clause-within : goal.returns-clause-within
returns-clause-within g c s is = turn-within c.args.self.now c.args.self.now s _ _ c.turn.result is _ c.from.ensures c.turn.ensures.did

pub returns-clause-turns : goal.returns-clause-turns
returns-clause-turns g c s is rest = turns c.args.self.now _ s _ _ _ is _ c.from.ensures c.in_ok-turn.ensures.did rest c.requires.counted c.requires.some (assumption (c.fits-self))
    (ap (λ (n : ℕ). record c.args.self.now { generation = c.args.self.now.generation + 1; records = 0; open_headers = set c.args.self.now.open_headers n true }) c.from-2.ensures)

pub returns-clause-later : goal.returns-clause-later
returns-clause-later g c s is of last there = later-left c.args.self.now (segments_of c.args.self.now.start (bytes_of s)) refl (mod_below _ 4 (omega arith)) c.requires.counted c.requires.some of last there
