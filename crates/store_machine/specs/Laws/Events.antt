-- The events of a store's calls, from what each shows. No public contract needs these laws.
use Rattle.std.proofs.Common.{◌≡◌, ℕ, ◌+◌, ◌^◌, ◌<◌, ◌≤◌, Bool, true, false, List, [], ◌∷◌, ◌++◌, length, Some, None, Ok, Err, Result, is_some, refl, sym, ◌∙◌, ap, subst, arith, if◌then◌else◌, append_assoc}
use Rattle.std.proofs.lemmas.List.{length-append}
use Rattle.std.specs.Option.{option_map}
use Rattle.std.specs.FinMap as finite
use Rattle.dev_model.specs.Counts.{Rose}
use Rattle.dev_model.specs.Story.{Calls, WhereTold, after, clock_of}
use Rattle.dev_model.specs.DeviceCalls.{ok_calls}
use Rattle.dev_model.specs.Laws.CallLists.{clock_of-after}
use Rattle.dev_model.specs.Laws.Plans.{all_noted-told}
use Rattle.dev_model.specs.declared.calls.DeviceCall.{DeviceCall}
use Rattle.dev_model.specs.declared.page_faults.PageFault.{PageFault}
use Rattle.table_model.specs.Table.{Table}
use Rattle.primary_ix.specs.declared.rows.PrimRow.{PrimRow}
use Rattle.table_model.specs.Answers.{after_write}
use Rattle.wal_log.specs.Records.{record_bytes, key_of}
use Rattle.wal_log.specs.Changes.{append_calls}
use Rattle.wal_log.specs.declared.places.TheConstants.{MOST_RECORDS}
use Rattle.wal_log.specs.declared.log.Log.{Log}
use Rattle.wal_log.specs.declared.records.Record.{Record}
use Rattle.wal_log.specs.declared.records.LogOp.{LogOp}
use Rattle.component_image.specs.Replayed.{write_of}
use Rattle.store_machine.specs.Damage.{damaged_page}
use Rattle.store_machine.specs.Laws.Damages.{IsCause, gone-same, gone-noted, gone-stopped, gone-then, no-cause}
use Rattle.store_machine.specs.Laws.LogCalls.{append-calls, failed_calls, plan-length, StoppedBy, failed-by}
use Rattle.store_machine.specs.Laws.Logging.{between, machine_between, between-has, between-tells, Logs, LogsAll, wrote_state, wrote_machine, wrote-tells, wrote-has, LogFails, failed_machine, failed_state, failed-has, failed-tells}
use Rattle.store_machine.specs.Machine.{is_logged, Machine, Opening, does, group_of, after_event, after_logged, after_answer}
use Rattle.store_machine.specs.Needs.{place_in, Needs}
use Rattle.store_machine.specs.Calls.{Makes}
use Rattle.store_machine.specs.Standing.{StoreState, Has, Tells}
use Rattle.dev_model.specs.Story.{DeviceState}
use Rattle.store_machine.specs.declared.events.Wrote.{Wrote}
use Rattle.store_machine.specs.declared.events.Refusal.TheVariants.{Fault}
use Rattle.store_state.specs.Lists.{Lists}
use Rattle.store_state.specs.Reading.{IsLegible}
use Rattle.store_machine.specs.Runs.{Way, way_to, AreReads, MakesCalls, MakesWrite, Allows, IsFront, IsOwned, Acknowledges, Stops, TakesTime, is_fault, log_calls}
use Rattle.store_machine.specs.Laws.Steps.{makes, passes, event_of, Changes, GoesOn}
use Rattle.store_machine.specs.Laws.Reading.{HasOnlyRead, gone-read, IsPartBy, is_failed, read_calls, reads-go_on, reads-made, reads-time}
use Rattle.store_machine.specs.Laws.Working.{Works, works-go_on, works-time, WorkFails, stopped_calls, stopped_state, fails-go_on, fails-time, stays-there}
use Rattle.store_machine.specs.declared.events.Action.{Action}
use Rattle.store_machine.specs.declared.events.Action.TheVariants.{Write}
use Rattle.store_machine.specs.declared.events.Event.{Event}

-- What an action owes beside its calls where it is made by this owner, with these counts of faults: what it needs, whose job it is, what
-- it acknowledges, whether it stops the store, and the causes of a fault and of a damaged page.
pub record Owes (old : StoreState) (now : DeviceState) (owner : ℕ) (action : Action) (failed : Bool) : Type 0 where
  pub needs : (known : Bool) (o : Opening) (m : Machine) → Has old m → (known ≡ true → Tells o old m) → Needs known m action
  pub owned : IsOwned action (Some owner)
  pub acks : Acknowledges action now.clock
  pub stops : Stops action failed
  pub faults : old.device.faults ≤ now.faults
  pub cause : is_fault action ≡ true → Rose old.device.faults now.faults
  pub time : old.device.clock ≤ now.clock
  pub causes : WhereTold (damaged_page action) (IsCause old.lists now)

allowed : (old : StoreState) (new : StoreState) (owner : ℕ) (action : Action) (made : List DeviceCall) (failed : Bool) → Owes old new.device owner action failed
    → (known : Bool) (o : Opening) (m : Machine) → Has old m → (known ≡ true → Tells o old m) → (known ≡ true → MakesCalls m action failed made)
    → (known ≡ true → TakesTime (is_fault action) m.clock made new.device.clock) → Allows known m (event_of old new owner action made failed)
allowed old new owner action made failed owes known o m has tells calls ticks = record {
  needs = owes.needs known o m has tells;
  owned = owes.owned;
  calls = calls;
  ticks = ticks;
  acks = owes.acks;
  stops = owes.stops;
  later = omega (arith, has.faults);
  faults = owes.faults;
  cause = owes.cause;
  time = let at : old.device.clock ≡ m.clock = has.clock in omega (arith, at, owes.time);
}

never : {P : Type 0} → false ≡ true → P
never is = absurd (let e : true ≡ false = sym is in cc)

-- what a call that stops nothing does to the store
abbrev unstopped : (old : StoreState) (now : DeviceState) (log : Log) (lists : Lists) (seq : ℕ) (action : Action) (table : Table → Table) (disk : List (List PrimRow) → List (List PrimRow)) → now.pages ≡ old.device.pages
    → ((m : Machine) → Has old m → does action m ≡ record m { seq = seq; log = log; lists = lists; disk = disk m.disk; table = table m.table })
    → Changes old (record old { device = now; log = log; lists = lists; seq = seq }) action false
unstopped old now log lists seq action table disk pages done = record {
  opened_at = refl;
  opened_faults = refl;
  declared = refl;
  acks = refl;
  pages = pages;
  stopped = refl;
  running = never;
  group = never;
  table = table;
  disk = disk;
  done = done;
}

-- a call that only reads; it may draw the next number, and leave the table by another name
pub reads-named : {X : Type 0} (old : StoreState) (now : DeviceState) (way : Lists → Way) (result : Result X PageFault) (pages : List ℕ) (seq owner : ℕ) (action : Action) (change : Table → Table) → HasOnlyRead old now way result pages
    → Owes old now owner action false
    → ((m : Machine) → Has old m → does action m ≡ record m { seq = seq; log = old.log; lists = old.lists; table = change m.table })
    → ((o : Opening) (m : Machine) → Has old m → (t : Tells o old m) → change m.table ≡ m.table)
    → is_fault action ≡ is_failed result
    → ((m : Machine) (calls : List DeviceCall) → AreReads m way (IsPartBy result) calls → MakesCalls m action false calls)
    → Makes old (record old { device = now; seq = seq }) owner action
reads-named old now way result pages seq owner action change reads owes done same fault are =
    passes old (record old { device = now; seq = seq }) owner action (read_calls old result pages) false
    (unstopped old now old.log old.lists seq action change (λ d. d) reads.same_pages done)
    (gone-read old now way result pages reads) owes.causes
    (λ known o m has tells. allowed old (record old { device = now; seq = seq }) owner action (read_calls old result pages) false owes known o m has tells
    (λ is_known. are m (read_calls old result pages) (reads-made o old now way result pages m reads has (tells is_known)))
    (λ _. subst (λ (failed : Bool). TakesTime failed m.clock (read_calls old result pages) now.clock) (sym fault) (reads-time old now way result pages m reads has)))
    (λ o m has t. reads-go_on o old now way result pages seq m reads has t)
    same

pub reads-event : {X : Type 0} (old : StoreState) (now : DeviceState) (way : Lists → Way) (result : Result X PageFault) (pages : List ℕ) (seq owner : ℕ) (action : Action) → HasOnlyRead old now way result pages
    → Owes old now owner action false
    → ((m : Machine) → Has old m → does action m ≡ record m { seq = seq; log = old.log; lists = old.lists; table = m.table })
    → is_fault action ≡ is_failed result
    → ((m : Machine) (calls : List DeviceCall) → AreReads m way (IsPartBy result) calls → MakesCalls m action false calls)
    → Makes old (record old { device = now; seq = seq }) owner action
reads-event old now way result pages seq owner action reads owes done fault are =
    reads-named old now way result pages seq owner action (λ t. t) reads owes done (λ o m has t. refl) fault are

-- a call that makes no device call; it may draw the next number, and change the lists where they stay those of the same table
pub still-event : (old : StoreState) (lists : Lists) (seq owner : ℕ) (action : Action) → Owes old old.device owner action false
    → ((m : Machine) → Has old m → does action m ≡ record m { seq = seq; log = old.log; lists = lists; table = m.table })
    → is_fault action ≡ false
    → ((m : Machine) → MakesCalls m action false [])
    → ((o : Opening) (m : Machine) → Has old m → (t : Tells o old m) → GoesOn o old (record old { lists = lists; seq = seq }) m t m.disk [])
    → Makes old (record old { lists = lists; seq = seq }) owner action
still-event old lists seq owner action owes done well none goes =
    passes old (record old { lists = lists; seq = seq }) owner action [] false
    (unstopped old old.device old.log lists seq action (λ t. t) (λ d. d) refl done)
    (gone-same old.device.story) owes.causes
    (λ known o m has tells. allowed old (record old { lists = lists; seq = seq }) owner action [] false owes known o m has tells (λ _. none m)
    (λ _. subst (λ (fault : Bool). TakesTime fault m.clock [] old.device.clock) (sym well) (let at : old.device.clock ≡ m.clock = has.clock in omega (arith, at))))
    goes
    (λ o m has t. refl)

-- the lists stay
pub stays-go_on : (old : StoreState) (seq : ℕ) (o : Opening) (m : Machine) → Has old m → (t : Tells o old m) → GoesOn o old (record old { lists = old.lists; seq = seq }) m t m.disk []
stays-go_on old seq o m has t = stays-there o old (record old { lists = old.lists; seq = seq }) m has t refl refl refl refl (λ table s kept. kept) (λ table disk s legible. legible)

-- a step that was answered
pub works-event : (old : StoreState) (now : DeviceState) (log : Log) (lists : Lists) (disk_after : List (List PrimRow) → List (List PrimRow)) (plan : Calls) (owner : ℕ) (action : Action) → now.pages ≡ old.device.pages
    → Works old (record old { device = now; log = log; lists = lists }) disk_after plan → Owes old now owner action false
    → ((m : Machine) → Has old m → does action m ≡ record m { seq = old.seq; log = log; lists = lists; disk = disk_after m.disk })
    → is_fault action ≡ false
    → ((m : Machine) → Has old m → MakesCalls m action false (ok_calls old.device.clock plan))
    → Makes old (record old { device = now; log = log; lists = lists }) owner action
works-event old now log lists disk_after plan owner action pages works owes done well are =
    passes old (record old { device = now; log = log; lists = lists }) owner action (ok_calls old.device.clock plan) false
    (unstopped old now log lists old.seq action (λ t. t) disk_after pages done)
    (gone-noted plan old.device.story now.story works.did) owes.causes
    (λ known o m has tells. allowed old (record old { device = now; log = log; lists = lists }) owner action (ok_calls old.device.clock plan) false owes known o m has tells (λ _. are m has)
    (λ is_known. subst (λ (fault : Bool). TakesTime fault m.clock (ok_calls old.device.clock plan) now.clock) (sym well) (works-time o old (record old { device = now; log = log; lists = lists }) disk_after plan m works has (tells is_known))))
    (λ o m has t. works-go_on o old (record old { device = now; log = log; lists = lists }) disk_after plan m works has t)
    (λ o m has t. refl)

-- a step that failed
pub fails-event : (old : StoreState) (now : DeviceState) (plan : Calls) (owner : ℕ) (action : Action) → now.pages ≡ old.device.pages → (fails : WorkFails old now plan) → Owes old now owner action true
    → group_of action ≡ None
    → is_fault action ≡ true
    → ((m : Machine) → does action m ≡ m)
    → ((o : Opening) (m : Machine) → Has old m → (t : Tells o old m) → StoppedBy t.now now.story (ok_calls (clock_of t.now) plan) (stopped_calls old now plan fails) → MakesCalls m action true (stopped_calls old now plan fails))
    → Makes old (stopped_state old now) owner action
fails-event old now plan owner action pages fails owes none fault same are =
    passes old (stopped_state old now) owner action (stopped_calls old now plan fails) true
    (record {
      opened_at = refl;
      opened_faults = refl;
      declared = refl;
      acks = refl;
      pages = pages;
      stopped = refl;
      running = λ _. fails.going;
      group = λ _. none;
      table = λ t. t;
      disk = λ d. d;
      done = λ m has. same m ∙ (λ i. record m { seq = sym has.seq i; log = sym has.log i; lists = sym has.lists i; table = m.table });
    })
    (gone-stopped plan fails.planned old.device.story now.story fails.did) owes.causes
    (λ known o m has tells. allowed old (stopped_state old now) owner action (stopped_calls old now plan fails) true owes known o m has tells
    (λ is_known. let t : Tells o old m = tells is_known in are o m has t (failed-by old.device.story now.story plan fails.planned fails.did t.now t.told))
    (λ is_known. subst (λ (f : Bool). TakesTime f m.clock (stopped_calls old now plan fails) now.clock) (sym fault) (fails-time o old now plan m fails has (tells is_known))))
    (λ o m has t. fails-go_on o old now plan m fails has t)
    (λ o m has t. refl)

-- what a logged write is asked beside what its calls show
pub record IsLogged (old : StoreState) (op : LogOp) (r : Record) (wrote : Wrote) : Type 0 where
  pub numbers : old.log.next_lsn < 2 ^ 62
  pub room : old.log.records < MOST_RECORDS
  pub width : length (record_bytes r) ≡ 95
  pub logs : is_logged op wrote ≡ true
  pub seq : wrote.seq ≡ old.seq
  pub ops : wrote.ops ≡ old.log.records + 1
  pub old_is : (table : Table) (disk : List (List PrimRow)) → WhereTold old.device.story (λ s. IsLegible table disk old.lists s → option_map place_in wrote.old ≡ finite.get table (key_of op))

-- the calls of its log are those at the machine's place of the log, right behind the reads
log-made : (old : StoreState) (m : Machine) (read : List DeviceCall) (r : Record) (clock : ℕ) → Has old m → clock ≡ m.clock + length read → length (record_bytes r) ≡ 95
    → ok_calls clock (append_calls old.log r) ≡ log_calls m.log (m.clock + length read)
log-made old m read r clock has at width = append-calls clock old.log r width ∙ (λ j. log_calls (has.log j) (at j))

-- reads and the calls of the log are all that the clock counted
logged-time : (o : Opening) (old : StoreState) (mid now : DeviceState) (op : LogOp) (r : Record) (had : Bool) (log : Log) (lists : Lists) (ack : ℕ) (m : Machine) (read : List DeviceCall)
    → LogsAll (between old mid) now op r had log lists ack → mid.clock ≡ m.clock + length read → Tells o (between old mid) (machine_between m mid read)
    → now.clock ≡ m.clock + length (read ++ ok_calls mid.clock (append_calls old.log r))
logged-time o old mid now op r had log lists ack m read all at t =
    let plan : Calls = append_calls old.log r in
    let told : now.story ≡ Some (after t.now plan) = all.did ∙ all_noted-told t.now plan mid.story t.told in
    omega (arith, at, t.clock, all.logs.clock_told (after t.now plan) told, clock_of-after t.now plan, plan-length mid.clock plan tt, length-append read (ok_calls mid.clock plan))

-- a write that was logged and answered
pub wrote-event : {X : Type 0} (old : StoreState) (mid now : DeviceState) (row : X) (pages : List ℕ) (owner : ℕ) (op : LogOp) (r : Record) (wrote : Wrote) (log : Log) (lists : Lists)
    → HasOnlyRead old mid (way_to (key_of op)) (Ok row) pages → LogsAll (between old mid) now op r (is_some wrote.old) log lists wrote.ack → IsLogged old op r wrote
    → mid.clock ≤ now.clock → old.device.clock ≤ mid.clock → old.device.faults ≤ now.faults
    → Makes old (wrote_state (between old mid) now log lists wrote.ack) owner (Write op (Ok wrote))
wrote-event old mid now row pages owner op r wrote log lists reads all is time reads_time faults =
    let read : List DeviceCall = read_calls old (Ok row) pages in
    let made : List DeviceCall = ok_calls mid.clock (append_calls old.log r) in
    let new : StoreState = wrote_state (between old mid) now log lists wrote.ack in
    let e : Event = event_of old new owner (Write op (Ok wrote)) (read ++ made) false in
    makes old new owner (Write op (Ok wrote)) e (record { owner_is = refl; action_is = refl; before_it = refl; after_it = refl; time = refl }) refl refl
    (gone-then old.device.story mid.story now.story (gone-read old mid (way_to (key_of op)) (Ok row) pages reads) (gone-noted (append_calls old.log r) mid.story now.story all.did)) (no-cause old.lists now (Write op (Ok wrote)) refl)
    (λ known o m has tells.
    let mm : Machine = machine_between m mid read in
    let mid_has : Has (between old mid) mm = between-has old mid read m has in
    let mid_tells : known ≡ true → Tells o (between old mid) mm = λ is_known. between-tells o old mid read m reads.same_pages has (tells is_known) (reads-go_on o old mid (way_to (key_of op)) (Ok row) pages old.seq m reads has (tells is_known)) in
    let read_time : mid.clock ≡ m.clock + length read = reads-time old mid (way_to (key_of op)) (Ok row) pages m reads has in
    let same : wrote_machine mm now op (is_some wrote.old) wrote.ack made ≡ after_event m e =
    ap (λ (calls : List DeviceCall). record (after_answer (record (after_logged op (is_some wrote.old) wrote.ack m) { table = after_write m.table (write_of op) })) { faults = now.faults; clock = now.clock; device_calls = calls }) (append_assoc m.device_calls read made)
    ∙ ap (λ (logged : Bool).
    let n : Machine = if logged then after_logged op (is_some wrote.old) wrote.ack m else m in
    record (after_answer (record n { table = after_write m.table (write_of op) })) { faults = now.faults; clock = now.clock; device_calls = m.device_calls ++ (read ++ made) }) (sym is.logs) in
    record {
      allows = record {
        needs = record {
          ready = record { going = sym has.stopped ∙ all.logs.going; numbers = subst (λ (l : Log). l.next_lsn < 2 ^ 62) has.log is.numbers; room = subst (λ (l : Log). l.records < MOST_RECORDS) has.log is.room };
          seq = is.seq ∙ has.seq;
          ops = is.ops ∙ ap (λ (l : Log). l.records + 1) has.log ∙ ap (λ (logged : Bool). if logged then m.log.records + 1 else m.log.records) (sym is.logs);
          old = λ is_known. let t : Tells o old m = tells is_known in is.old_is m.table m.disk t.now t.told t.legible;
        };
        owned = tt;
        calls = λ is_known. subst (λ (logged : Bool). MakesWrite logged m (key_of op) (read ++ made)) (sym is.logs)
            (record { reads = read; are_reads = reads-made o old mid (way_to (key_of op)) (Ok row) pages m reads has (tells is_known); are = ap (λ (calls : List DeviceCall). read ++ calls) (log-made old m read r mid.clock has read_time is.width) });
        ticks = λ is_known. logged-time o old mid now op r (is_some wrote.old) log lists wrote.ack m read all read_time (mid_tells is_known);
        acks = all.ack_is ∙ ap (λ (logged : Bool). if logged then now.clock else 0) (sym is.logs);
        stops = refl;
        later = omega (arith, has.faults);
        faults = faults;
        cause = λ fault. absurd (let no : true ≡ false = sym fault in cc);
        time = let at : old.device.clock ≡ m.clock = has.clock in omega (arith, at, time, reads_time);
      };
      has = subst (λ (n : Machine). Has new n) same (wrote-has (between old mid) now op r (is_some wrote.old) log lists wrote.ack mm made all mid_has);
      tells = λ is_known. subst (λ (n : Machine). Tells o new n) same
          (wrote-tells o (between old mid) now op r (is_some wrote.old) log lists wrote.ack mm all mid_has (mid_tells is_known));
    })

-- a logged write that failed
pub record IsTried (old : StoreState) (r : Record) : Type 0 where
  pub going : old.stopped ≡ None
  pub numbers : old.log.next_lsn < 2 ^ 62
  pub room : old.log.records < MOST_RECORDS
  pub width : length (record_bytes r) ≡ 95

-- reads, the calls of the log that were made and one more at most are all that the clock counted
unlogged-time : (o : Opening) (old : StoreState) (mid now : DeviceState) (op : LogOp) (r : Record) (m : Machine) (read made : List DeviceCall) → Logs (between old mid) now op r
    → mid.clock ≡ m.clock + length read → (t : Tells o (between old mid) (machine_between m mid read)) → StoppedBy t.now now.story (ok_calls (clock_of t.now) (append_calls old.log r)) made
    → TakesTime true m.clock (read ++ made) now.clock
unlogged-time o old mid now op r m read made logs at t by =
    let clock : now.clock ≡ clock_of (after t.now by.calls) = logs.clock_told (after t.now by.calls) by.told in
    let count : clock_of (after t.now by.calls) ≡ clock_of t.now + length by.calls = clock_of-after t.now by.calls in
    let both : length (read ++ made) ≡ length read + length made = length-append read made in
    (omega (arith, at, t.clock, clock, count, both, by.least), omega (arith, at, t.clock, clock, count, both, by.most))

pub write-failed : {X : Type 0} (old : StoreState) (mid now : DeviceState) (row : X) (pages : List ℕ) (owner : ℕ) (op : LogOp) (r : Record)
    → HasOnlyRead old mid (way_to (key_of op)) (Ok row) pages → LogFails (between old mid) now op r → IsTried old r → Rose old.device.faults now.faults
    → mid.clock ≤ now.clock → old.device.clock ≤ mid.clock → old.device.faults ≤ now.faults
    → Makes old (failed_state (between old mid) now) owner (Write op (Err Fault))
write-failed old mid now row pages owner op r reads fails is rose time reads_time faults =
    let read : List DeviceCall = read_calls old (Ok row) pages in
    let plan : Calls = append_calls old.log r in
    let made : List DeviceCall = failed_calls mid.story now.story plan tt fails.did in
    let new : StoreState = failed_state (between old mid) now in
    let e : Event = event_of old new owner (Write op (Err Fault)) (read ++ made) true in
    makes old new owner (Write op (Err Fault)) e (record { owner_is = refl; action_is = refl; before_it = refl; after_it = refl; time = refl }) refl refl
    (gone-then old.device.story mid.story now.story (gone-read old mid (way_to (key_of op)) (Ok row) pages reads) (gone-stopped plan tt mid.story now.story fails.did)) (no-cause old.lists now (Write op (Err Fault)) refl)
    (λ known o m has tells.
    let mm : Machine = machine_between m mid read in
    let mid_has : Has (between old mid) mm = between-has old mid read m has in
    let same : failed_machine mm now op made ≡ after_event m e =
    ap (λ (calls : List DeviceCall). record m { stopped = Some now.faults; unfinished = Some (write_of op ∷ []); faults = now.faults; clock = now.clock; device_calls = calls }) (append_assoc m.device_calls read made) in
    let mid_tells : known ≡ true → Tells o (between old mid) mm = λ is_known. between-tells o old mid read m reads.same_pages has (tells is_known) (reads-go_on o old mid (way_to (key_of op)) (Ok row) pages old.seq m reads has (tells is_known)) in
    let stopped : (is_known : known ≡ true) → StoppedBy (mid_tells is_known).now now.story (ok_calls (clock_of (mid_tells is_known).now) plan) made =
    λ is_known. failed-by mid.story now.story plan tt fails.did (mid_tells is_known).now (mid_tells is_known).told in
    let read_time : mid.clock ≡ m.clock + length read = reads-time old mid (way_to (key_of op)) (Ok row) pages m reads has in
    record {
      allows = record {
        needs = record { going = sym has.stopped ∙ is.going; numbers = subst (λ (l : Log). l.next_lsn < 2 ^ 62) has.log is.numbers; room = subst (λ (l : Log). l.records < MOST_RECORDS) has.log is.room };
        owned = tt;
        calls = λ is_known.
            record {
              reads = read;
              are_reads = reads-made o old mid (way_to (key_of op)) (Ok row) pages m reads has (tells is_known);
              logged = made;
              front = subst (λ (all : List DeviceCall). IsFront all made)
                  (log-made old m read r (clock_of (mid_tells is_known).now) has (sym (mid_tells is_known).clock ∙ read_time) is.width) (stopped is_known).front;
              are = refl;
            };
        ticks = λ is_known. unlogged-time o old mid now op r m read made fails.logs read_time (mid_tells is_known) (stopped is_known);
        acks = tt;
        stops = tt;
        later = omega (arith, has.faults);
        faults = faults;
        cause = λ _. rose;
        time = let at : old.device.clock ≡ m.clock = has.clock in omega (arith, at, time, reads_time);
      };
      has = subst (λ (n : Machine). Has new n) same (failed-has (between old mid) now op mm made mid_has);
      tells = λ is_known. subst (λ (n : Machine). Tells o new n) same (failed-tells o (between old mid) now op r mm made fails mid_has (mid_tells is_known) (stopped is_known));
    })
