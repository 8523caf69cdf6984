use Rattle.std.proofs.Common.{◌≡◌, ℕ, List, length, Option, Some, is_some, refl, sym, ◌∙◌, ap, subst, arith}
use Rattle.dev_model.specs.Story.{WhereTold}
use Rattle.geo_base.specs.declared.points.Point.{Point}
use Rattle.table_model.specs.Table.{Table}
use Rattle.wal_log.specs.Records.{record_bytes}
use Rattle.primary_ix.specs.declared.rows.PrimRow.{PrimRow}
use Rattle.component_image.specs.Told.{SaysOld}
use Rattle.store_machine.specs.Standing.{StoreState}
use Rattle.dev_model.specs.Story.{DeviceState}
use Rattle.store_state.specs.Lists.{Lists}
use Rattle.store_state.specs.Reading.{IsLegible}
use Rattle.kept_state.specs.Writing.{next_record}
use Rattle.store_machine.specs.Laws.Logging.{LogsAll, LogFails}
use Rattle.store_core.specs.Stores.{state_of}
use Rattle.store_core.proofs.store.Store.log_op.Goals as goal

pub returns-in-Ok-clause-logged : goal.returns-in-Ok-clause-logged
returns-in-Ok-clause-logged g c =
    let old : StoreState = state_of g.D.Device.seen c.args.self.now in
    let now : DeviceState = g.D.Device.seen c.log_write.new.device in
    record {
      all = subst (λ (p : Option Point). LogsAll old now c.args.op.now (next_record old.log c.args.op.now p) (is_some p) c.log_write.new.log c.log_write.new.state.0 c.in-Ok.ack) c.old_point.ensures
          (record {
            logs = record {
              going = c.requires.can.going;
              op_is = refl;
              any_moment = λ table s told kept says. c.in-Ok.ensures.table.any_moment table says s told kept;
              says = subst (λ (p : Option Point). (table : Table) (disk : List (List PrimRow)) → WhereTold old.device.story (λ s. IsLegible table disk old.lists s → SaysOld table (next_record old.log c.args.op.now p))) (sym c.old_point.ensures) c.requires.says;
              legible = c.in-Ok.ensures.table.legible;
              pages = c.in-Ok.ensures.made.same_pages;
              clock_told = λ s is. g.met.D.Device.clock_told _ s is;
            };
            did = c.in-Ok.ensures.made.did;
            kept = λ table s told kept says. c.in-Ok.ensures.table.kept table says s told kept;
            log_is = c.in-Ok.ensures.log;
            lists_are = c.in-Ok.ensures.lists;
            ack_is = c.in-Ok.ensures.ack;
          });
      width = subst (λ (p : Option Point). length (record_bytes (next_record old.log c.args.op.now p)) ≡ 95) c.old_point.ensures c.in-Ok.ensures.width;
      time = omega (arith, c.in-Ok.ensures.made.ticks);
      later = c.in-Ok.ensures.made.cause.later;
      rest = ap (λ (acks : List ℕ). record old { device = now; log = c.log_write.new.log; lists = c.log_write.new.state.0; acks = acks }) c.add.ensures.items;
    }

pub returns-in-Ok-clause-ready : goal.returns-in-Ok-clause-ready
returns-in-Ok-clause-ready g c = record {
  pages = omega (arith, c.requires.ready.pages, c.in-Ok.ensures.made.same_pages);
  space = ap (λ (l : Lists). l.space.pages) c.in-Ok.ensures.lists ∙ c.requires.ready.space ∙ sym c.in-Ok.ensures.made.same_pages;
  lists = c.in-Ok.ensures.in_order.lists;
  numbered = c.in-Ok.ensures.in_order.numbered;
  counted = c.in-Ok.ensures.in_order.counted;
}

pub returns-in-Err-clause-fails : goal.returns-in-Err-clause-fails
returns-in-Err-clause-fails g c =
    let old : StoreState = state_of g.D.Device.seen c.args.self.now in
    let now : DeviceState = g.D.Device.seen c.log_write.new.device in
    record {
      fails = subst (λ (p : Option Point). LogFails old now c.args.op.now (next_record old.log c.args.op.now p)) c.old_point.ensures
          (record {
            logs = record {
              going = c.requires.can.going;
              op_is = refl;
              any_moment = λ table s told kept says. c.in-Err.ensures.table.any_moment table says s told kept;
              says = subst (λ (p : Option Point). (table : Table) (disk : List (List PrimRow)) → WhereTold old.device.story (λ s. IsLegible table disk old.lists s → SaysOld table (next_record old.log c.args.op.now p))) (sym c.old_point.ensures) c.requires.says;
              legible = c.in-Err.ensures.table.legible;
              pages = c.in-Err.ensures.made.same_pages;
              clock_told = λ s is. g.met.D.Device.clock_told _ s is;
            };
            did = c.in-Err.ensures.made.did;
          });
      width = subst (λ (p : Option Point). length (record_bytes (next_record old.log c.args.op.now p)) ≡ 95) c.old_point.ensures c.in-Err.ensures.width;
      time = c.in-Err.ensures.made.ticks.0;
      rose = c.in-Err.ensures.made.cause.failed;
      later = c.in-Err.ensures.made.cause.later;
      rest = λ i. record old { device = now; log = c.in-Err.ensures.unchanged.0 i; lists = (c.in-Err.ensures.unchanged.1 i).0; stopped = Some (c.faults.ensures i) };
    }
