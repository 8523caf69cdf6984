-- The event of a write.
use Rattle.std.proofs.Common.{◌≡◌, ℕ, ◌^◌, ◌<◌, ◌≤◌, Bool, true, false, List, [], Option, Some, None, Ok, Err, is_some, refl, sym, ◌∙◌, ap, subst, arith}
use Rattle.std.proofs.lemmas.Bool.Decides.{nat_tests}
use Rattle.std.specs.Option.{option_map}
use Rattle.std.specs.FinMap as finite
use Rattle.dev_model.specs.Counts.{Rose, next_count}
use Rattle.geo_base.specs.declared.points.Point.{Point}
use Rattle.geo_base.specs.declared.points.Row.{Row}
use Rattle.dev_model.specs.declared.page_faults.PageFault.{PageFault}
use Rattle.dev_model.specs.declared.page_faults.PageFault.TheVariants as page
use Rattle.table_model.specs.Table.{Table}
use Rattle.wal_log.specs.Records.{key_of}
use Rattle.wal_log.specs.declared.places.TheConstants.{MOST_RECORDS}
use Rattle.wal_log.specs.declared.log.Log.{Log}
use Rattle.wal_log.specs.declared.records.Record.{Record}
use Rattle.wal_log.specs.declared.records.LogOp.{LogOp}
use Rattle.wal_log.specs.declared.records.LogOp.TheVariants.{Put, Del}
use Rattle.primary_ix.specs.Wanted.{table_row}
use Rattle.store_machine.specs.Machine.{is_logged, Machine}
use Rattle.store_machine.specs.Needs.{place_in, RefusesWrite, IsReadyToWrite}
use Rattle.store_machine.specs.Calls.{Makes}
use Rattle.store_machine.specs.Standing.{StoreState, Has, Tells}
use Rattle.dev_model.specs.Story.{DeviceState}
use Rattle.store_machine.specs.declared.events.Wrote.{Wrote}
use Rattle.store_machine.specs.declared.events.Refusal.{Refusal}
use Rattle.store_machine.specs.declared.events.Refusal.TheVariants.{Fault, Stopped, Full, Again, NoIndex, Damaged, OutOfMemory}
use Rattle.kept_state.specs.Writing.{next_record}
use Rattle.store_machine.specs.Runs.{way_to, MakesCalls, Stops, is_fault}
use Rattle.store_machine.specs.Damage.{damaged_page}
use Rattle.store_machine.specs.Laws.Damages.{no-cause}
use Rattle.store_machine.specs.Laws.Reading.{read-cause}
use Rattle.store_machine.specs.Laws.Events.{still-event, stays-go_on, reads-event, reads-named, wrote-event, write-failed}
use Rattle.store_machine.specs.Laws.Logging.{between, LogsAll, wrote_state}
use Rattle.store_machine.specs.declared.events.Action.TheVariants.{Write}
use Rattle.store_core.specs.Refusals.{refusal_of}
use Rattle.store_core.specs.Writing.{CanWrite, RefusesNow, Logged, IsNotLogged, WasRead, has_to_log, matter_of, old_point}
use Rattle.store_core.proofs.Answering.{ReadsRow, known-sound}
use Rattle.store_core.proofs.Found.{remove-absent, place-found, had-row, had-point}

ready-to_write : (old : StoreState) (m : Machine) → CanWrite old → Has old m → IsReadyToWrite m
ready-to_write old m can has = record {
  going = sym has.stopped ∙ can.going;
  numbers = subst (λ (l : Log). l.next_lsn < 2 ^ 62) has.log can.numbers;
  room = subst (λ (l : Log). l.records < MOST_RECORDS) has.log can.room;
}

-- a refusal without a device call
refuses : (s : StoreState) (owner : ℕ) (op : LogOp) (r : Refusal) → ((known : Bool) (m : Machine) → Has s m → RefusesWrite known m r) → Stops (Write op (Err r)) false → is_fault (Write op (Err r)) ≡ false → damaged_page (Write op (Err r)) ≡ None
    → ((m : Machine) → MakesCalls m (Write op (Err r)) false []) → Makes s s owner (Write op (Err r))
refuses s owner op r needs stops fault sound none =
    still-event s s.lists s.seq owner (Write op (Err r))
    (record {
      needs = λ known o m has tells. needs known m has;
      owned = tt;
      acks = tt;
      stops = stops;
      faults = omega arith;
      cause = λ is. absurd (let never : true ≡ false = sym is ∙ fault in cc);
      time = omega arith;
      causes = no-cause s.lists s.device (Write op (Err r)) sound;
    })
    (λ m has i. record m { seq = sym has.seq i; log = sym has.log i; lists = sym has.lists i; table = m.table })
    fault
    none
    (stays-go_on s s.seq)

-- a write that is refused before anything is done
pub refused-now : (s : StoreState) (owner : ℕ) (op : LogOp) (refusal : Refusal) → RefusesNow s refusal → Makes s s owner (Write op (Err refusal))
refused-now s owner op Fault now = absurd now
refused-now s owner op (Stopped faults) now = refuses s owner op (Stopped faults) (λ known m has. sym has.stopped ∙ now) refl refl refl (λ m. refl)
refused-now s owner op (Full need longest) now =
    refuses s owner op (Full need longest) (λ known m has. (sym has.stopped ∙ now.0, ap (λ (l : Log). l.next_lsn) (sym has.log) ∙ now.1, now.2, now.3)) refl refl refl (λ m. refl)
refused-now s owner op (Again ops) now =
    refuses s owner op (Again ops)
    (λ known m has. (
      sym has.stopped ∙ now.0,
      subst (λ (l : Log). l.next_lsn < 2 ^ 62) has.log now.1,
      ap (λ (l : Log). l.records) (sym has.log) ∙ now.2,
      now.3 ∙ ap (λ (l : Log). l.records) has.log,
    ))
    refl refl refl (λ m. refl)
refused-now s owner op NoIndex now = absurd now
refused-now s owner op (Damaged n) now = absurd now
refused-now s owner op OutOfMemory now = absurd now

-- and one for which memory is refused
pub refused-memory : (old new : StoreState) (owner : ℕ) (op : LogOp) → new ≡ old → CanWrite old → Makes old new owner (Write op (Err OutOfMemory))
refused-memory old new owner op is can =
    subst (λ (s : StoreState). Makes old s owner (Write op (Err OutOfMemory))) (sym is)
    (refuses old owner op OutOfMemory (λ known m has. ready-to_write old m can has) refl refl refl (λ m. refl))

-- a write whose row could not be read
pub read-refused : (old : StoreState) (now : DeviceState) (owner : ℕ) (op : LogOp) (fault : PageFault) (pages : List ℕ) → ReadsRow old now (key_of op) (Err fault) pages
    → (fault ≡ page.Failed → Rose old.device.faults now.faults) → (fault ≡ page.OutOfMemory → ⊥) → CanWrite old
    → Makes old (record old { device = now }) owner (Write op (Err (refusal_of fault)))
read-refused old now owner op page.Failed pages is rose memory can =
    reads-event old now (way_to (key_of op)) (Err page.Failed) pages old.seq owner (Write op (Err Fault)) is.reads
    (record { needs = λ known o m has tells. ready-to_write old m can has; owned = tt; acks = tt; stops = tt; faults = is.reads.later; cause = λ _. rose refl; time = is.time; causes = no-cause old.lists now (Write op (Err Fault)) refl })
    (λ m has i. record m { seq = sym has.seq i; log = sym has.log i; lists = sym has.lists i; table = m.table })
    refl (λ m calls are. are)
read-refused old now owner op (page.Damaged n) pages is rose memory can =
    reads-event old now (way_to (key_of op)) (Err (page.Damaged n)) pages old.seq owner (Write op (Err (Damaged n))) is.reads
    (record {
      needs = λ known o m has tells. (
        known-sound known (λ is_known. let t : Tells o old m = tells is_known in let e : page.Damaged n ≡ page.Failed = is.row m.table m.disk t.now t.told t.legible in cc),
        ready-to_write old m can has,
      );
      owned = tt;
      acks = tt;
      stops = refl;
      faults = is.reads.later;
      cause = λ fault. absurd (let never : true ≡ false = sym fault in cc);
      time = is.time;
      causes = read-cause old now (way_to (key_of op)) n pages is.reads is.reads.read.damaged;
    })
    (λ m has i. record m { seq = sym has.seq i; log = sym has.log i; lists = sym has.lists i; table = m.table })
    refl (λ m calls are. are)
read-refused old now owner op page.OutOfMemory pages is rose memory can = absurd (memory refl)

-- a row that was read, and nothing else was done
pub was-read : (old : StoreState) (now : DeviceState) (key : ℕ) (row : Option Row) (pages : List ℕ) → ReadsRow old now key (Ok row) pages → WasRead old (between old now) key row
was-read old now key row pages is = record { pages = pages; reads = is.reads; row_is = is.row; time = is.time; rest = refl }

absent : (table : Table) (key : ℕ) → None ≡ table_row table key → finite.get table key ≡ None
absent table key is = sym (place-found table key None is)

-- a delete of a key where nothing stands
pub nothing-there : (old mid new : StoreState) (owner : ℕ) (op : LogOp) (row : Option Row) (wrote : Wrote) → WasRead old mid (key_of op) row → CanWrite old → has_to_log op (is_some row) ≡ false
    → wrote ≡ record { seq = mid.seq; old = None; ops = mid.log.records; ack = 0 } → new ≡ record mid { seq = next_count mid.seq } → Makes old new owner (Write op (Ok wrote))
nothing-there old mid new owner (Put put) row wrote was can none wrote_is new_is = absurd (let never : true ≡ false = none in cc)
nothing-there old mid new owner (Del key) (Some row) wrote was can none wrote_is new_is = absurd (let never : true ≡ false = none in cc)
nothing-there old mid new owner (Del key) None wrote was can none wrote_is new_is =
    let w : Wrote = record { seq = old.seq; old = None; ops = old.log.records; ack = 0 } in
    let wrote_same : wrote ≡ w = wrote_is ∙ ap (λ (s : StoreState). record { seq = s.seq; old = None; ops = s.log.records; ack = 0 }) was.rest in
    let new_same : new ≡ record old { device = mid.device; seq = next_count old.seq } = new_is ∙ ap (λ (s : StoreState). record s { seq = next_count s.seq }) was.rest in
    subst (λ (x : Wrote). Makes old new owner (Write (Del key) (Ok x))) (sym wrote_same)
    (subst (λ (s : StoreState). Makes old s owner (Write (Del key) (Ok w))) (sym new_same)
    (reads-named old mid.device (way_to key) (Ok None) was.pages (next_count old.seq) owner (Write (Del key) (Ok w)) (λ (t : Table). finite.remove t key) was.reads
    (record {
      needs = λ known o m has tells. record {
        ready = ready-to_write old m can has;
        seq = has.seq;
        ops = ap (λ (l : Log). l.records) has.log;
        old = λ is_known. let t : Tells o old m = tells is_known in sym (absent m.table key (was.row_is m.table m.disk t.now t.told t.legible));
      };
      owned = tt;
      acks = refl;
      stops = refl;
      faults = was.reads.later;
      cause = λ fault. absurd (let never : true ≡ false = sym fault in cc);
      time = was.time;
      causes = no-cause old.lists mid.device (Write (Del key) (Ok w)) refl;
    })
    (λ m has i. record m { seq = next_count (sym has.seq i); log = sym has.log i; lists = sym has.lists i; table = finite.remove m.table key })
    (λ o m has t. remove-absent m.table key (absent m.table key (was.row_is m.table m.disk t.now t.told t.legible)))
    refl (λ m calls are. are)))

logs : (op : LogOp) (row : Option Row) (wrote : Wrote) → has_to_log op (is_some row) ≡ true → wrote.old ≡ option_map matter_of row → is_logged op wrote ≡ true
logs (Put put) row wrote has is = refl
logs (Del key) row wrote has is = ap (λ (o : Option (Point × List ℕ)). is_some o) is ∙ had-row row ∙ has

-- a write that was logged
pub wrote-logged : (old mid logged new : StoreState) (owner : ℕ) (op : LogOp) (row : Option Row) (wrote : Wrote) (ack : ℕ) → WasRead old mid (key_of op) row → CanWrite mid
    → has_to_log op (is_some row) ≡ true → Logged mid logged op row ack → new ≡ record logged { seq = next_count logged.seq }
    → wrote.seq ≡ logged.seq → wrote.old ≡ option_map matter_of row → wrote.ops ≡ logged.log.records → wrote.ack ≡ ack → Makes old new owner (Write op (Ok wrote))
wrote-logged old mid logged new owner op row wrote ack was mid_can has mid_logged after seq old_is ops ack_is =
    let m : StoreState = between old mid.device in
    let can : CanWrite m = subst CanWrite was.rest mid_can in
    let l : Logged m logged op row ack = subst (λ (s : StoreState). Logged s logged op row ack) was.rest mid_logged in
    let r : Record = next_record old.log op (old_point row) in
    let had : is_some (old_point row) ≡ is_some wrote.old = had-point row ∙ sym (had-row row) ∙ ap (λ (o : Option (Point × List ℕ)). is_some o) (sym old_is) in
    let all : LogsAll m logged.device op r (is_some wrote.old) logged.log logged.lists wrote.ack =
    subst (λ (b : Bool). LogsAll m logged.device op r b logged.log logged.lists wrote.ack) had
    (subst (λ (n : ℕ). LogsAll m logged.device op r (is_some (old_point row)) logged.log logged.lists n) (sym ack_is) l.all) in
    let end : new ≡ wrote_state m logged.device logged.log logged.lists wrote.ack =
    after ∙ ap (λ (s : StoreState). record s { seq = next_count s.seq }) l.rest ∙ ap (λ (n : ℕ). wrote_state m logged.device logged.log logged.lists n) (sym ack_is) in
    subst (λ (s : StoreState). Makes old s owner (Write op (Ok wrote))) (sym end)
    (wrote-event old mid.device logged.device row was.pages owner op r wrote logged.log logged.lists was.reads all
    (record {
      numbers = can.numbers;
      room = can.room;
      width = l.width;
      logs = logs op row wrote has old_is;
      seq = seq ∙ ap (λ (s : StoreState). s.seq) l.rest;
      ops = ops ∙ ap (λ (x : Log). x.records) l.all.log_is;
      old_is = λ table disk s told legible. ap (option_map place_in) old_is ∙ place-found table (key_of op) row (was.row_is table disk s told legible);
    })
    l.time was.time (omega (arith, was.reads.later, l.later)))

rose-since : (a b c : ℕ) → a ≤ b → Rose b c → Rose a c
rose-since a b c le rose = grind (arith, nat_tests)

-- a write that the device refused
pub not-logged : (old mid new : StoreState) (owner : ℕ) (op : LogOp) (row : Option Row) → WasRead old mid (key_of op) row → CanWrite mid → IsNotLogged mid new op row
    → Makes old new owner (Write op (Err Fault))
not-logged old mid new owner op row was mid_can mid_fails =
    let m : StoreState = between old mid.device in
    let can : CanWrite m = subst CanWrite was.rest mid_can in
    let l : IsNotLogged m new op row = subst (λ (s : StoreState). IsNotLogged s new op row) was.rest mid_fails in
    subst (λ (s : StoreState). Makes old s owner (Write op (Err Fault))) (sym l.rest)
    (write-failed old mid.device new.device row was.pages owner op (next_record old.log op (old_point row)) was.reads l.fails
    (record { going = can.going; numbers = can.numbers; room = can.room; width = l.width })
    (rose-since old.device.faults mid.device.faults new.device.faults was.reads.later l.rose)
    l.time was.time (omega (arith, was.reads.later, l.later)))
