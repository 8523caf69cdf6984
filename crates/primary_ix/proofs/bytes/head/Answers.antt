use Rattle.std.proofs.Common.{Some, None, arith}
use Rattle.primary_ix.proofs.Stored.{stored_as}
use Rattle.primary_ix.proofs.bytes.head.Goals as goal

pub returns-in-None-clause-stored : goal.returns-in-None-clause-stored
returns-in-None-clause-stored c = stored_as c.args.row.now None c.in-None.is (omega arith) tt

pub returns-in-Some-clause-stored : goal.returns-in-Some-clause-stored
returns-in-Some-clause-stored c =
    stored_as c.args.row.now (Some (c.in-Some.point, c.in-Some.note)) c.in-Some.is (omega arith)
    (record { x = c.point_bytes.ensures.x; y = c.point_bytes.ensures.y; note = c.note_length.ensures.note })
