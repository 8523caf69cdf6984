use Rattle.std.proofs.Common.{◌+◌, ◌*◌, ◌%◌, arith}
use Rattle.wal_log.specs.Places.{record_start}
use Rattle.wal_log.specs.Found.{window_start}
use Rattle.wal_log.proofs.Finding.{found-in, holds-next, place-in}
use Rattle.wal_log.proofs.reading.read_place.Goals as goal

pub returns-clause-found : goal.returns-clause-found
returns-clause-found g c s is holds still =
    found-in s (window_start c.args.log_start c.args.segment c.args.place) (96 * (c.args.place % 42)) (record_start c.args.log_start c.args.segment c.args.place) c.fill_window.new.window (place-in c.args.log_start c.args.segment c.args.place) (omega (arith, c.requires.width)) (omega arith) still
    (c.in_ok-fill_window.ensures.here s is holds) (c.args.first_lsn + c.args.place) c.find_place.result c.find_place.ensures.found

pub returns-clause-holds : goal.returns-clause-holds
returns-clause-holds g c before t now = holds-next c.args.log_start c.args.segment c.args.place c.fill_window.new.window t (c.in_ok-fill_window.ensures.holds before t now)
