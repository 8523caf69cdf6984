use Rattle.std.proofs.Common.{ℕ, Ok, Err, ap, sym, ◌∙◌, subst}
use Rattle.wal_log.specs.Records.{key_of}
use Rattle.store_machine.specs.Calls.{Makes}
use Rattle.store_machine.specs.Standing.{StoreState}
use Rattle.dev_model.specs.Story.{DeviceState}
use Rattle.store_machine.specs.declared.events.Wrote.{Wrote}
use Rattle.store_machine.specs.declared.events.Refusal.{Refusal}
use Rattle.store_machine.specs.declared.events.Action.TheVariants.{Write}
use Rattle.store_core.specs.Stores.{state_of}
use Rattle.store_core.specs.Writing.{CanWrite}
use Rattle.store_core.proofs.Answering.{ReadsRow, reads-row}
use Rattle.store_core.proofs.Found.{point-found, row-behind_reads}
use Rattle.store_core.proofs.WriteEvents.{refused-now, refused-memory, read-refused, was-read, nothing-there}
use Rattle.store_core.proofs.Tested.{damaged, tested, tested-write, untested}
use Rattle.store_core.specs.Tested.{TestsPages}
use Rattle.store_core.proofs.store.Store.write.Goals as goal

pub returns-in-Err-clause-event : goal.returns-in-Err-clause-event
returns-in-Err-clause-event g c = refused-now (state_of g.D.Device.seen c.args.self.now) c.args.owner c.args.op.now c.in-Err.refusal c.in-Err.ensures.refused

pub returns-then-is_err-clause-event : goal.returns-then-is_err-clause-event
returns-then-is_err-clause-event g c =
    refused-memory (state_of g.D.Device.seen c.args.self.now) _ c.args.owner c.args.op.now c.make_room.ensures.same c.in_default.ensures.can

pub returns-in-Err-read_row-clause-event : goal.returns-in-Err-read_row-clause-event
returns-in-Err-read_row-clause-event g c =
    let room : StoreState = state_of g.D.Device.seen c.make_room.new.self in
    let now : DeviceState = g.D.Device.seen c.read_row.new.device in
    let read : ReadsRow room now (key_of c.args.op.now) (Err c.in-Err-read_row.fault) c.in-Err-read_row.ensures.asked.0 =
    subst (λ (key : ℕ). ReadsRow room now key (Err c.in-Err-read_row.fault) c.in-Err-read_row.ensures.asked.0) c.key_of.ensures
    (reads-row room now c.key_of.result _ c.in-Err-read_row.ensures.asked.0 c.in-Err-read_row.ensures.asked.1 c.in-Err-read_row.ensures.asked.2 c.in-Err-read_row.ensures.stays c.in-Err-read_row.ensures.same_pages c.in-Err-read_row.ensures.later
    (λ s is. g.met.D.Device.clock_told _ s is) c.in-Err-read_row.ensures.row) in
    subst (λ (s : StoreState). Makes s (record room { device = now }) c.args.owner (Write c.args.op.now (Err c.refused.result))) c.make_room.ensures.same
    (subst (λ (r : Refusal). Makes room (record room { device = now }) c.args.owner (Write c.args.op.now (Err r))) (sym c.refused.ensures)
    (read-refused room now c.args.owner c.args.op.now c.in-Err-read_row.fault c.in-Err-read_row.ensures.asked.0 read c.in-Err-read_row.ensures.failed c.in-Err-read_row.ensures.needs_no_memory
    (subst CanWrite (sym c.make_room.ensures.same) c.in_default.ensures.can)))

pub write_over-requires-clause-says : goal.write_over-requires-clause-says
write_over-requires-clause-says g c table disk t told legible =
    let room : StoreState = state_of g.D.Device.seen c.make_room.new.self in
    let now : DeviceState = g.D.Device.seen c.read_row.new.device in
    let read : ReadsRow room now (key_of c.args.op.now) (Ok c.in-Ok.row) c.in-Ok.ensures.asked.0 =
    subst (λ (key : ℕ). ReadsRow room now key (Ok c.in-Ok.row) c.in-Ok.ensures.asked.0) c.key_of.ensures
    (reads-row room now c.key_of.result _ c.in-Ok.ensures.asked.0 c.in-Ok.ensures.asked.1 c.in-Ok.ensures.asked.2 c.in-Ok.ensures.stays c.in-Ok.ensures.same_pages c.in-Ok.ensures.later (λ s is. g.met.D.Device.clock_told _ s is) c.in-Ok.ensures.row) in
    point-found table (key_of c.args.op.now) c.in-Ok.row (row-behind_reads room now (key_of c.args.op.now) c.in-Ok.row c.in-Ok.ensures.asked.0 read.reads read.row table disk t told legible)

pub returns-then-has_to_log-clause-event : goal.returns-then-has_to_log-clause-event
returns-then-has_to_log-clause-event g c =
    let room : StoreState = state_of g.D.Device.seen c.make_room.new.self in
    let now : DeviceState = g.D.Device.seen c.read_row.new.device in
    let read : ReadsRow room now (key_of c.args.op.now) (Ok c.in-Ok.row) c.in-Ok.ensures.asked.0 =
    subst (λ (key : ℕ). ReadsRow room now key (Ok c.in-Ok.row) c.in-Ok.ensures.asked.0) c.key_of.ensures
    (reads-row room now c.key_of.result _ c.in-Ok.ensures.asked.0 c.in-Ok.ensures.asked.1 c.in-Ok.ensures.asked.2 c.in-Ok.ensures.stays c.in-Ok.ensures.same_pages c.in-Ok.ensures.later (λ s is. g.met.D.Device.clock_told _ s is) c.in-Ok.ensures.row) in
    let new : StoreState = state_of g.D.Device.seen c.write_over.new.self in
    subst (λ (s : StoreState). Makes s new c.args.owner (Write c.args.op.now c.write_over.result)) c.make_room.ensures.same
    (c.write_over.ensures.event room c.args.owner (was-read room now (key_of c.args.op.now) c.in-Ok.row c.in-Ok.ensures.asked.0 read))

pub returns-else-has_to_log-clause-event : goal.returns-else-has_to_log-clause-event
returns-else-has_to_log-clause-event g c =
    let room : StoreState = state_of g.D.Device.seen c.make_room.new.self in
    let now : DeviceState = g.D.Device.seen c.read_row.new.device in
    let read : ReadsRow room now (key_of c.args.op.now) (Ok c.in-Ok.row) c.in-Ok.ensures.asked.0 =
    subst (λ (key : ℕ). ReadsRow room now key (Ok c.in-Ok.row) c.in-Ok.ensures.asked.0) c.key_of.ensures
    (reads-row room now c.key_of.result _ c.in-Ok.ensures.asked.0 c.in-Ok.ensures.asked.1 c.in-Ok.ensures.asked.2 c.in-Ok.ensures.stays c.in-Ok.ensures.same_pages c.in-Ok.ensures.later (λ s is. g.met.D.Device.clock_told _ s is) c.in-Ok.ensures.row) in
    let new : StoreState = state_of g.D.Device.seen c.nothing_there.new.self in
    subst (λ (s : StoreState). Makes s new c.args.owner (Write c.args.op.now (Ok c.nothing_there.result))) c.make_room.ensures.same
    (nothing-there room (record room { device = now }) new c.args.owner c.args.op.now c.in-Ok.row c.nothing_there.result (was-read room now (key_of c.args.op.now) c.in-Ok.row c.in-Ok.ensures.asked.0 read)
    (subst CanWrite (sym c.make_room.ensures.same) c.in_default.ensures.can) (sym c.has_to_log.ensures ∙ c.if-has_to_log.false) c.nothing_there.ensures.wrote
    (ap (state_of g.D.Device.seen) c.nothing_there.ensures.rest))

pub returns-in-Err-clause-pages : goal.returns-in-Err-clause-pages
returns-in-Err-clause-pages g c = untested Wrote (state_of g.D.Device.seen c.args.self.now) (g.D.Device.seen c.args.self.now.device) c.in-Err.refusal c.in-Err.ensures.refused

pub returns-in-Err-read_row-clause-pages : goal.returns-in-Err-read_row-clause-pages
returns-in-Err-read_row-clause-pages g c =
    let room : StoreState = state_of g.D.Device.seen c.make_room.new.self in
    let now : DeviceState = g.D.Device.seen c.read_row.new.device in
    subst (λ (s : StoreState). TestsPages {X = Wrote} s now (Err c.refused.result)) c.make_room.ensures.same
    (subst (λ (r : Refusal). TestsPages {X = Wrote} room now (Err r)) (sym c.refused.ensures)
    (damaged room now Wrote c.in-Err-read_row.fault c.in-Err-read_row.ensures.asked.0 c.in-Err-read_row.ensures.asked.1))

pub returns-then-has_to_log-clause-pages : goal.returns-then-has_to_log-clause-pages
returns-then-has_to_log-clause-pages g c =
    let room : StoreState = state_of g.D.Device.seen c.make_room.new.self in
    let mid : DeviceState = g.D.Device.seen c.read_row.new.device in
    let now : DeviceState = g.D.Device.seen c.write_over.new.self.device in
    subst (λ (s : StoreState). TestsPages s now c.write_over.result) c.make_room.ensures.same
    (tested-write room mid now c.args.op.now c.in-Ok.row c.write_over.result c.in-Ok.ensures.asked.0 c.in-Ok.ensures.asked.1 c.write_over.ensures.logged c.write_over.ensures.fault)

pub returns-else-has_to_log-clause-pages : goal.returns-else-has_to_log-clause-pages
returns-else-has_to_log-clause-pages g c =
    let room : StoreState = state_of g.D.Device.seen c.make_room.new.self in
    let mid : DeviceState = g.D.Device.seen c.read_row.new.device in
    let now : DeviceState = g.D.Device.seen c.nothing_there.new.self.device in
    subst (λ (s : StoreState). TestsPages s now (Ok c.nothing_there.result)) c.make_room.ensures.same
    (subst (λ (d : DeviceState). TestsPages room d (Ok c.nothing_there.result)) (sym (ap (λ (s : StoreState). s.device) (ap (state_of g.D.Device.seen) c.nothing_there.ensures.rest)))
    (tested room mid c.in-Ok.row c.nothing_there.result c.in-Ok.ensures.asked.0 c.in-Ok.ensures.asked.1))
