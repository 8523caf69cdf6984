-- The event of a write that is logged, whether it was answered or failed, behind reads of its old row. No public contract needs these
-- laws.
use Rattle.std.proofs.Common.{◌≡◌, ℕ, ◌+◌, Bool, List, [], ◌∷◌, ◌++◌, Option, Some, None, refl, sym, ◌∙◌, ap, subst, arith}
use Rattle.std.proofs.lemmas.List.{length_push}
use Rattle.std.proofs.lemmas.Option.{same_Some}
use Rattle.dev_model.specs.Counts.{next_count}
use Rattle.dev_model.specs.Story.{Story, Calls, after, clock_of, WhereTold}
use Rattle.dev_model.specs.Doing.{HasStoppedIn, all_noted}
use Rattle.dev_model.specs.Moments.{EachMoment, LeavesOnly}
use Rattle.dev_model.specs.DeviceCalls.{ok_calls}
use Rattle.dev_model.specs.Laws.CallLists.{clock_of-after}
use Rattle.dev_model.specs.Laws.Plans.{all_noted-told}
use Rattle.dev_model.specs.declared.calls.DeviceCall.{DeviceCall}
use Rattle.table_model.specs.Table.{Table}
use Rattle.table_model.specs.Answers.{after_write}
use Rattle.wal_log.specs.Changes.{append_calls}
use Rattle.wal_log.specs.declared.log.Log.{Log}
use Rattle.wal_log.specs.declared.records.Record.{Record}
use Rattle.wal_log.specs.declared.records.LogOp.{LogOp}
use Rattle.component_image.specs.Replayed.{write_of}
use Rattle.primary_ix.specs.Wanted.{written_row}
use Rattle.primary_ix.specs.declared.rows.PrimRow.{PrimRow}
use Rattle.component_image.specs.Recovered.{Recovers}
use Rattle.component_image.specs.Standing.{RecoversEither}
use Rattle.component_image.specs.Told.{SaysOld}
use Rattle.component_image.specs.Laws.Keeping.{rest-image}
use Rattle.store_machine.specs.Crash.{attempted, Keeps}
use Rattle.store_machine.specs.Laws.Counting.{AreUpTo-later, AreUpTo-push, after_groups-push}
use Rattle.store_machine.specs.Laws.LogCalls.{StoppedBy}
use Rattle.store_machine.specs.Outcomes.{Group, after_groups}
use Rattle.store_machine.specs.Machine.{Machine, Opening, after_logged, after_answer, log_with_record}
use Rattle.store_machine.specs.Standing.{AreUpTo, StoreState, Begins, Has, Tells}
use Rattle.dev_model.specs.Story.{DeviceState}
use Rattle.store_state.specs.Lists.{Lists}
use Rattle.store_state.specs.Steps.{added}
use Rattle.store_state.specs.Keeping.{IsKept}
use Rattle.store_state.specs.Reading.{IsLegible}
use Rattle.store_state.specs.Laws.ReadingStays.{legible-added}
use Rattle.store_machine.specs.Laws.Crashes.{attempt, acknowledged}
use Rattle.store_machine.specs.Laws.Steps.{GoesOn, goes_on}

-- the store and the machine between the reads of a call and its writes
abbrev pub between : StoreState → DeviceState → StoreState
between old mid = record old { device = mid }

abbrev pub machine_between : Machine → DeviceState → (reads : List DeviceCall) → Machine
machine_between m mid reads = record m { faults = mid.faults; clock = mid.clock; device_calls = m.device_calls ++ reads }

pub between-has : (old : StoreState) (mid : DeviceState) (reads : List DeviceCall) (m : Machine) → Has old m → Has (between old mid) (machine_between m mid reads)
between-has old mid reads m has = record {
  stopped = has.stopped;
  seq = has.seq;
  log = has.log;
  lists = has.lists;
  acks = has.acks;
  declared = has.declared;
  faults = refl;
  clock = refl;
  counted = has.counted;
  running = has.running;
}

pub between-tells : (o : Opening) (old : StoreState) (mid : DeviceState) (reads : List DeviceCall) (m : Machine) → mid.pages ≡ old.device.pages → Has old m → (t : Tells o old m) → GoesOn o old (between old mid) m t m.disk reads
    → Tells o (between old mid) (machine_between m mid reads)
between-tells o old mid reads m pages has t goes =
    let calls : _ = goes_on o old m t goes.calls reads goes.made_is in
    record {
      opening = t.opening;
      begins = subst (λ (p : ℕ). Begins o p t.opening) (sym pages) t.begins;
      calls = t.calls ++ goes.calls;
      now = after t.now goes.calls;
      went = calls.0;
      told = goes.told;
      clock = goes.clock;
      made = calls.1;
      replayed = t.replayed;
      kept = λ going. subst (λ (p : ℕ). IsKept p old.log m.table old.lists (after t.now goes.calls)) (sym pages) (goes.kept (has.stopped ∙ going));
      legible = goes.legible;
      rows = goes.rows;
      acked = AreUpTo-later (clock_of t.now) (clock_of (after t.now goes.calls)) m.acks (omega (arith, clock_of-after t.now goes.calls)) t.acked;
      survives = subst (λ (p : ℕ). EachMoment (clock_of t.opening) (after t.now goes.calls) (Keeps p o.table (attempted m.logged m.unfinished) m.acks)) (sym pages) goes.survives;
    }

-- what a logged write shows of the device, whether it was answered or not
pub record Logs (mid : StoreState) (now : DeviceState) (op : LogOp) (r : Record) : Type 0 where
  pub going : mid.stopped ≡ None
  pub op_is : r.op ≡ op
  pub any_moment : (table : Table) → WhereTold mid.device.story (λ s. IsKept mid.device.pages mid.log table mid.lists s → SaysOld table r
      → LeavesOnly s now.story (RecoversEither mid.device.pages table (after_write table (write_of op))))
  -- the record says at which point the key stood in the table
  pub says : (table : Table) (disk : List (List PrimRow)) → WhereTold mid.device.story (λ s. IsLegible table disk mid.lists s → SaysOld table r)
  -- by the lists of before the table of before is read, in any case
  pub legible : (table : Table) (disk : List (List PrimRow)) → WhereTold mid.device.story (λ s. IsLegible table disk mid.lists s → WhereTold now.story (IsLegible table disk mid.lists))
  pub pages : now.pages ≡ mid.device.pages
  pub clock_told : (s : Story) → now.story ≡ Some s → now.clock ≡ clock_of s

-- what one shows that was answered
pub record LogsAll (mid : StoreState) (now : DeviceState) (op : LogOp) (r : Record) (had : Bool) (log : Log) (lists : Lists) (ack : ℕ) : Type 0 where
  pub logs : Logs mid now op r
  pub did : now.story ≡ all_noted (append_calls mid.log r) mid.device.story
  pub kept : (table : Table) → WhereTold mid.device.story (λ s. IsKept mid.device.pages mid.log table mid.lists s → SaysOld table r
      → WhereTold now.story (IsKept mid.device.pages log (after_write table (write_of op)) lists))
  pub log_is : log ≡ log_with_record mid.log
  pub lists_are : lists ≡ added (written_row (write_of op)) had mid.lists
  pub ack_is : ack ≡ now.clock

-- the store after a logged write
abbrev pub wrote_state : StoreState → DeviceState → Log → Lists → (ack : ℕ) → StoreState
wrote_state mid now log lists ack = record mid { device = now; log = log; lists = lists; seq = next_count mid.seq; acks = mid.acks ++ ack ∷ [] }

-- the machine after it
abbrev pub wrote_machine : Machine → DeviceState → LogOp → (had : Bool) → (ack : ℕ) → (made : List DeviceCall) → Machine
wrote_machine mm now op had ack made = record (after_answer (record (after_logged op had ack mm) { table = after_write mm.table (write_of op) })) {
  faults = now.faults;
  clock = now.clock;
  device_calls = mm.device_calls ++ made;
}

-- over either table
during-either : (o : Opening) (mid : StoreState) (mm : Machine) (t : Tells o mid mm) (now : DeviceState) (op : LogOp) (r : Record) (u : Story) → Logs mid now op r → IsKept mid.device.pages mid.log mm.table mid.lists t.now → now.story ≡ Some u
    → EachMoment (clock_of t.now) u (λ _. RecoversEither mid.device.pages (after_groups o.table mm.logged) (after_groups o.table (mm.logged ++ (write_of op ∷ []) ∷ [])))
during-either o mid mm t now op r u logs kept told =
    let pages : ℕ = mid.device.pages in
    let behind : after_groups o.table (mm.logged ++ (write_of op ∷ []) ∷ []) ≡ after_write mm.table (write_of op) =
    after_groups-push o.table mm.logged (write_of op ∷ []) ∙ ap (λ (x : Table). after_write x (write_of op)) (sym t.replayed) in
    let leaves : LeavesOnly t.now now.story (RecoversEither pages mm.table (after_write mm.table (write_of op))) = logs.any_moment mm.table t.now t.told kept (logs.says mm.table mm.disk t.now t.told t.legible) in
    let each : EachMoment (clock_of t.now) u (λ _. RecoversEither pages mm.table (after_write mm.table (write_of op))) =
    subst (λ (v : Story). EachMoment (clock_of t.now) v (λ _. RecoversEither pages mm.table (after_write mm.table (write_of op)))) (same_Some _ _ (sym leaves.told ∙ told)) leaves.each in
    subst (λ (x : Table). EachMoment (clock_of t.now) u (λ _. RecoversEither pages x (after_groups o.table (mm.logged ++ (write_of op ∷ []) ∷ [])))) t.replayed
    (subst (λ (x : Table). EachMoment (clock_of t.now) u (λ _. RecoversEither pages mm.table x)) (sym behind) each)

pub wrote-tells : (o : Opening) (mid : StoreState) (now : DeviceState) (op : LogOp) (r : Record) (had : Bool) (log : Log) (lists : Lists) (ack : ℕ) (mm : Machine)
    → LogsAll mid now op r had log lists ack → Has mid mm → Tells o mid mm
    → Tells o (wrote_state mid now log lists ack) (wrote_machine mm now op had ack (ok_calls mid.device.clock (append_calls mid.log r)))
wrote-tells o mid now op r had log lists ack mm all has t =
    let pages : ℕ = mid.device.pages in
    let running : mm.stopped ≡ None = sym has.stopped ∙ all.logs.going in
    let kept : IsKept pages mid.log mm.table mid.lists t.now = t.kept running in
    let plan : Calls = append_calls mid.log r in
    let u : Story = after t.now plan in
    let told : now.story ≡ Some u = all.did ∙ all_noted-told t.now plan mid.device.story t.told in
    let calls : _ = goes_on o mid mm t plan (ok_calls mid.device.clock plan) (ap (λ (c : ℕ). ok_calls c plan) (sym t.clock)) in
    let clock : now.clock ≡ clock_of u = all.logs.clock_told u told in
    let new_table : Table = after_write mm.table (write_of op) in
    let group : Group = write_of op ∷ [] in
    let behind : after_groups o.table (mm.logged ++ group ∷ []) ≡ new_table = after_groups-push o.table mm.logged group ∙ ap (λ (x : Table). after_write x (write_of op)) (sym t.replayed) in
    let next : IsKept pages log new_table lists u = all.kept mm.table t.now t.told kept (all.logs.says mm.table mm.disk t.now t.told t.legible) u told in
    let none : mm.unfinished ≡ None = has.running running in
    let survives : EachMoment (clock_of t.opening) t.now (Keeps pages o.table mm.logged mm.acks) =
    subst (λ (g : Option Group). EachMoment (clock_of t.opening) t.now (Keeps pages o.table (attempted mm.logged g) mm.acks)) none t.survives in
    let tried : EachMoment (clock_of t.opening) u (Keeps pages o.table (mm.logged ++ group ∷ []) mm.acks) =
    attempt pages o.table mm.logged mm.acks group has.counted (clock_of t.opening) t.now plan t.acked survives (during-either o mid mm t now op r u all.logs kept told) in
    let acked : AreUpTo (clock_of u) mm.acks = AreUpTo-later (clock_of t.now) (clock_of u) mm.acks (omega (arith, clock_of-after t.now plan)) t.acked in
    let done : EachMoment (clock_of t.opening) u (Keeps pages o.table (mm.logged ++ group ∷ []) (mm.acks ++ ack ∷ [])) =
    acknowledged pages (clock_of t.opening) o.table (mm.logged ++ group ∷ []) mm.acks ack u (omega (arith, has.counted, length_push mm.logged group)) acked (all.ack_is ∙ clock) tried
    (λ image is. subst (λ (x : Table). Recovers pages x image) (sym behind) (rest-image pages log new_table u image next.held.rests is)) in
    subst (λ (p : ℕ). Tells o (wrote_state mid (record now { pages = p }) log lists ack) (wrote_machine mm now op had ack (ok_calls mid.device.clock plan))) (sym all.logs.pages)
    (record {
      opening = t.opening;
      begins = t.begins;
      calls = t.calls ++ plan;
      now = u;
      went = calls.0;
      told = told;
      clock = clock;
      made = calls.1;
      replayed = sym behind;
      kept = λ _. next;
      legible = subst (λ (l : Lists). IsLegible new_table mm.disk l u) (sym all.lists_are)
          (legible-added mm.table mm.disk mid.lists u (write_of op) had (all.logs.legible mm.table mm.disk t.now t.told t.legible u told));
      rows = next.held.rows_are;
      acked = AreUpTo-push (clock_of u) ack mm.acks acked (omega (arith, all.ack_is, clock));
      survives = subst (λ (x : Option Group). EachMoment (clock_of t.opening) u (Keeps pages o.table (attempted (mm.logged ++ group ∷ []) x) (mm.acks ++ ack ∷ []))) (sym none) done;
    })

pub wrote-has : (mid : StoreState) (now : DeviceState) (op : LogOp) (r : Record) (had : Bool) (log : Log) (lists : Lists) (ack : ℕ) (mm : Machine) (made : List DeviceCall)
    → LogsAll mid now op r had log lists ack → Has mid mm → Has (wrote_state mid now log lists ack) (wrote_machine mm now op had ack made)
wrote-has mid now op r had log lists ack mm made all has = record {
  stopped = has.stopped;
  seq = ap next_count has.seq;
  log = all.log_is ∙ ap log_with_record has.log;
  lists = all.lists_are ∙ ap (added (written_row (write_of op)) had) has.lists;
  acks = ap (λ (l : List ℕ). l ++ ack ∷ []) has.acks;
  declared = has.declared;
  faults = refl;
  clock = refl;
  counted = length_push mm.acks ack ∙ ap (λ (n : ℕ). n + 1) has.counted ∙ sym (length_push mm.logged (write_of op ∷ []));
  running = has.running;
}

-- a logged write that failed: its record may stand on the disk
pub record LogFails (mid : StoreState) (now : DeviceState) (op : LogOp) (r : Record) : Type 0 where
  pub logs : Logs mid now op r
  pub did : HasStoppedIn (append_calls mid.log r) mid.device.story now.story

abbrev pub failed_machine : Machine → DeviceState → LogOp → (made : List DeviceCall) → Machine
failed_machine mm now op made = record mm {
  stopped = Some now.faults;
  unfinished = Some (write_of op ∷ []);
  faults = now.faults;
  clock = now.clock;
  device_calls = mm.device_calls ++ made;
}

abbrev pub failed_state : StoreState → DeviceState → StoreState
failed_state mid now = record mid { device = now; stopped = Some now.faults }

pub failed-has : (mid : StoreState) (now : DeviceState) (op : LogOp) (mm : Machine) (made : List DeviceCall) → Has mid mm → Has (failed_state mid now) (failed_machine mm now op made)
failed-has mid now op mm made has = record {
  stopped = refl;
  seq = has.seq;
  log = has.log;
  lists = has.lists;
  acks = has.acks;
  declared = has.declared;
  faults = refl;
  clock = refl;
  counted = has.counted;
  running = λ stopped. absurd (let none : ◌≡◌ {A = Option ℕ} (Some now.faults) None = stopped in cc);
}

pub failed-tells : (o : Opening) (mid : StoreState) (now : DeviceState) (op : LogOp) (r : Record) (mm : Machine) (made : List DeviceCall) → LogFails mid now op r → Has mid mm → (t : Tells o mid mm)
    → StoppedBy t.now now.story (ok_calls (clock_of t.now) (append_calls mid.log r)) made → Tells o (failed_state mid now) (failed_machine mm now op made)
failed-tells o mid now op r mm made fails has t by =
    let pages : ℕ = mid.device.pages in
    let running : mm.stopped ≡ None = sym has.stopped ∙ fails.logs.going in
    let u : Story = after t.now by.calls in
    let calls : _ = goes_on o mid mm t by.calls made by.made_is in
    let group : Group = write_of op ∷ [] in
    let survives : EachMoment (clock_of t.opening) t.now (Keeps pages o.table mm.logged mm.acks) =
    subst (λ (g : Option Group). EachMoment (clock_of t.opening) t.now (Keeps pages o.table (attempted mm.logged g) mm.acks)) (has.running running) t.survives in
    subst (λ (p : ℕ). Tells o (failed_state mid (record now { pages = p })) (failed_machine mm now op made)) (sym fails.logs.pages)
    (record {
      opening = t.opening;
      begins = t.begins;
      calls = t.calls ++ by.calls;
      now = u;
      went = calls.0;
      told = by.told;
      clock = fails.logs.clock_told u by.told;
      made = calls.1;
      replayed = t.replayed;
      kept = λ stopped. absurd (let none : ◌≡◌ {A = Option ℕ} (Some now.faults) None = stopped in cc);
      legible = fails.logs.legible mm.table mm.disk t.now t.told t.legible u by.told;
      rows = t.rows;
      acked = AreUpTo-later (clock_of t.now) (clock_of u) mm.acks (omega (arith, clock_of-after t.now by.calls)) t.acked;
      survives = attempt pages o.table mm.logged mm.acks group has.counted (clock_of t.opening) t.now by.calls t.acked survives (during-either o mid mm t now op r u fails.logs (t.kept running) by.told);
    })
