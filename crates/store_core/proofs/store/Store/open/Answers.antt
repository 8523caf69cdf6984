use Rattle.std.specs.Prelude.{[]}
use Rattle.std.proofs.Common.{sym, subst}
use Rattle.store_machine.specs.Standing.{StoreState, StandsSince}
use Rattle.store_machine.specs.Laws.Opening.{opens-from}
use Rattle.store_core.proofs.store.Store.open.Goals as goal

pub returns-in-Ok-clause-stands : goal.returns-in-Ok-clause-stands
returns-in-Ok-clause-stands g c =
    subst (λ (s : StoreState). StandsSince (g.D.Device.seen c.args.device) s []) (sym c.of_opened.ensures)
    (opens-from (g.D.Device.seen c.args.device)
    (g.D.Device.seen c.open_state.new.device)
    c.in-Ok.opened.indexes c.in-Ok.opened.log c.in-Ok.opened.state.0 c.in-Ok.ensures.same_pages (g.met.D.Device.clock_told c.open_state.new.device) c.open_state.ensures.later c.in-Ok.ensures.reads
    c.in-Ok.ensures.opens c.in-Ok.ensures.kept)
