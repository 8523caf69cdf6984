use Rattle.std.proofs.Common.{◌+◌, ◌*◌, ◌%◌, ap, subst, sym, ◌∙◌}
use Rattle.wal_log.specs.Records.{record_of, IsRecord}
use Rattle.wal_log.proofs.Finding.{slice-is}
use Rattle.wal_log.proofs.reading.find_place.Goals as goal

pub returns-in-Some-clause-found : goal.returns-in-Some-clause-found
returns-in-Some-clause-found c = (
  c.if-window-at.false,
  subst (IsRecord (c.args.first_lsn + c.args.place)) (slice-is (96 * (c.args.place % 42)) c.args.window.now) c.in-Some.ensures.there.1,
  c.in-Some.ensures.there.0 ∙ ap record_of (slice-is (96 * (c.args.place % 42)) c.args.window.now),
)

pub returns-in-None-clause-found : goal.returns-in-None-clause-found
returns-in-None-clause-found c = (
  c.if-window-at.false,
  λ lawful. c.in-None.ensures.none (subst (IsRecord (c.args.first_lsn + c.args.place)) (sym (slice-is (96 * (c.args.place % 42)) c.args.window.now)) lawful),
)
