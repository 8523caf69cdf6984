use Rattle.kept_state.proofs.Went.{only-read}
use Rattle.kept_state.proofs.reading.read_row.Goals as goal

pub returns-clause-stays : goal.returns-clause-stays
returns-clause-stays g c =
    let D = g.D.Device in
    only-read c.args.state.now.0 (D.seen c.args.device.now) (D.seen c.find_row.new.device)
    c.find_row.result c.find_row.ensures.asked.0 c.find_row.ensures.lists c.find_row.ensures.asked.1

pub returns-in_err-find_row-clause-stays : goal.returns-in_err-find_row-clause-stays
returns-in_err-find_row-clause-stays g c =
    let D = g.D.Device in
    only-read c.args.state.now.0 (D.seen c.args.device.now) (D.seen c.find_row.new.device)
    c.find_row.result c.find_row.ensures.asked.0 c.find_row.ensures.lists c.find_row.ensures.asked.1
