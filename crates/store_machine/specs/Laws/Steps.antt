-- One event after another. No public contract needs these laws.
use Rattle.std.proofs.Common.{◌≡◌, ℕ, ◌+◌, Bool, true, false, List, [], ◌∷◌, ◌++◌, length, refl, sym, ◌∙◌, ap, subst, arith, append_assoc, append-nil, Option, Some, None, Ok, Err, is_some, if◌then◌else◌}
use Rattle.geo_base.specs.declared.points.Point.{Point}
use Rattle.dev_model.specs.Story.{Story, Calls, WhereTold, after, clock_of}
use Rattle.dev_model.specs.Moments.{EachMoment}
use Rattle.dev_model.specs.DeviceCalls.{ok_calls}
use Rattle.dev_model.specs.Laws.Runs.{after-append}
use Rattle.dev_model.specs.Laws.CallLists.{ok_calls-append, clock_of-after}
use Rattle.dev_model.specs.declared.calls.DeviceCall.{DeviceCall}
use Rattle.table_model.specs.Table.{Table, rows_of}
use Rattle.primary_ix.specs.declared.rows.PrimRow.{PrimRow}
use Rattle.store_machine.specs.Crash.{attempted, Keeps}
use Rattle.store_machine.specs.Damage.{damaged_page}
use Rattle.store_machine.specs.Laws.Counting.{AreUpTo-later}
use Rattle.store_machine.specs.Laws.Damages.{HasGoneOn, IsCause, damages-add, cause-was}
use Rattle.store_machine.specs.Outcomes.{Group}
use Rattle.store_machine.specs.Machine.{Machine, Opening, does, after_logged, group_of, at_opening, after_event, after_all}
use Rattle.store_state.specs.Keeping.{IsKept}
use Rattle.store_state.specs.Reading.{IsLegible}
use Rattle.store_machine.specs.Runs.{IsRun, Allows}
use Rattle.store_machine.specs.Calls.{Adds, IsEventOf, Makes}
use Rattle.store_machine.specs.Standing.{StoreState, Begins, Has, Tells, Stands, StandsSince}
use Rattle.dev_model.specs.Story.{DeviceState}
use Rattle.wal_log.specs.declared.records.LogOp.TheVariants.{Put, Del}
use Rattle.store_machine.specs.declared.events.Action.{Action}
use Rattle.store_machine.specs.declared.events.Action.TheVariants as action
use Rattle.store_machine.specs.declared.events.Event.{Event}

-- What no event changes by what it does: that the machine is running, the group that was not finished, and how many pages its lists
-- are for.
abbrev pub unmoved : Machine → Option ℕ × Option Group × ℕ
unmoved m = (m.stopped, m.unfinished, m.lists.space.pages)

pub does-leaves : (a : Action) (m : Machine) → unmoved (does a m) ≡ unmoved m
does-leaves (action.Write (Put row) (Ok w)) m = refl
does-leaves (action.Write (Del key) (Ok w)) m = by_old w.old
  where
    by_old : (old : Option (Point × List ℕ)) → unmoved (if is_some old then after_logged (Del key) (is_some old) w.ack m else m) ≡ unmoved m
    by_old None = refl
    by_old (Some place) = refl
does-leaves (action.Write op (Err refusal)) m = refl
does-leaves (action.Get key (Ok given)) m = refl
does-leaves (action.Get key (Err refusal)) m = refl
does-leaves (action.Count seq n) m = refl
does-leaves (action.Look look) m = refl
does-leaves (action.Region kind rect (Ok found)) m = refl
does-leaves (action.Region kind rect (Err refusal)) m = refl
does-leaves (action.Freeze least (Ok true)) m = refl
does-leaves (action.Freeze least (Ok false)) m = refl
does-leaves (action.Freeze least (Err refusal)) m = refl
does-leaves (action.Begin (Ok None)) m = refl
does-leaves (action.Begin (Ok (Some own))) m = refl
does-leaves (action.Begin (Err refusal)) m = refl
does-leaves (action.JobWrite own (Ok done)) m = refl
does-leaves (action.JobWrite own (Err refusal)) m = refl
does-leaves (action.Install own (Ok done)) m = refl
does-leaves (action.Install own (Err refusal)) m = refl

pub after_all-append : (m : Machine) (es fs : List Event) → after_all m (es ++ fs) ≡ after_all (after_all m es) fs
after_all-append m [] fs = refl
after_all-append m (e ∷ es) fs = after_all-append (after_event m e) es fs

pub IsRun-append : (known : Bool) (m : Machine) (es fs : List Event) → IsRun known m es → IsRun known (after_all m es) fs → IsRun known m (es ++ fs)
IsRun-append known m [] fs left right = right
IsRun-append known m (e ∷ es) fs left right = (left.0, IsRun-append known (after_event m e) es fs left.1 right)

-- lists of events that a store stands for join
pub Adds-none : (s : StoreState) → Adds s s []
Adds-none s known o before stands = subst (λ (es : List Event). Stands known o s es) (sym (append-nil before)) stands

-- what a store stands for since it was opened goes on
pub since-adds : (device : DeviceState) (old new : StoreState) (before events : List Event) → StandsSince device old before → Adds old new events → StandsSince device new (before ++ events)
since-adds device old new before events since adds = record {
  opening = since.opening;
  reads = since.reads;
  later = since.later;
  opens = since.opens;
  untold = adds false since.opening before since.untold;
  told = λ table s is holds.
      let stood : _ = since.told table s is holds in
      (stood.0, adds true (record since.opening { table = table; disk = stood.0 }) before stood.1);
}

pub Adds-then : (a b c : StoreState) (es fs : List Event) → Adds a b es → Adds b c fs → Adds a c (es ++ fs)
Adds-then a b c es fs first second known o before stands =
    subst (λ (gs : List Event). Stands known o c gs) (append_assoc before es fs) (second known o (before ++ es) (first known o before stands))

-- what one event owes: it is allowed where it stands, and the store has and tells the state after it
pub record Step (known : Bool) (o : Opening) (new : StoreState) (m : Machine) (e : Event) : Type 0 where
  pub allows : Allows known m e
  pub has : Has new (after_event m e)
  pub tells : known ≡ true → Tells o new (after_event m e)

-- An event is made where each state that the store had allows it, and the store has and tells the state after it.
pub makes : (old new : StoreState) (owner : ℕ) (action : Action) (e : Event)
    → IsEventOf old.device new.device owner action e
    → new.opened_at ≡ old.opened_at → new.opened_faults ≡ old.opened_faults
    → HasGoneOn old.device.story new.device.story → WhereTold (damaged_page action) (IsCause old.lists new.device)
    → ((known : Bool) (o : Opening) (m : Machine) → Has old m → (known ≡ true → Tells o old m) → Step known o new m e)
    → Makes old new owner action
makes old new owner action e is opened_at opened_faults gone causes step =
    record {
      event = e;
      is = is;
      adds = λ known o before stands.
          let begin : Machine = at_opening o in
          let next : Step known o new (after_all begin before) e = step known o (after_all begin before) stands.has stands.tells in
          let same : after_event (after_all begin before) e ≡ after_all begin (before ++ e ∷ []) = sym (after_all-append begin before (e ∷ [])) in
          record {
            opened_at = opened_at ∙ stands.opened_at;
            opened_faults = opened_faults ∙ stands.opened_faults;
            run = IsRun-append known begin before (e ∷ []) stands.run (next.allows, tt);
            has = subst (λ (n : Machine). Has new n) same next.has;
            damages = damages-add old.device.story new.device.story begin before e gone stands.damages (cause-was old new.device owner action e (after_all begin before) is stands.has causes);
            tells = λ is_known. subst (λ (n : Machine). Tells o new n) same (next.tells is_known);
          };
    }

-- the story of the store goes on by some calls
pub goes_on : (o : Opening) (old : StoreState) (m : Machine) (t : Tells o old m) (calls : Calls) (made : List DeviceCall) → ok_calls (clock_of t.now) calls ≡ made
    → (after t.now calls ≡ after t.opening (t.calls ++ calls)) × (ok_calls (clock_of t.opening) (t.calls ++ calls) ≡ m.device_calls ++ made)
goes_on o old m t calls made is = (
  ap (λ (s : Story). after s calls) t.went ∙ sym (after-append t.opening t.calls calls),
  let clock : clock_of t.opening + length t.calls ≡ clock_of t.now = sym (clock_of-after t.opening t.calls) ∙ ap clock_of (sym t.went) in
      ok_calls-append (clock_of t.opening) t.calls calls
      ∙ (λ j. t.made j ++ ok_calls (clock j) calls)
      ∙ ap (λ (l : List DeviceCall). m.device_calls ++ l) is,
)

-- the event of a call
abbrev pub event_of : (old new : StoreState) (owner : ℕ) → Action → (made : List DeviceCall) (failed : Bool) → Event
event_of old new owner action made failed = record {
  owner = Some owner;
  action = action;
  device_calls = made;
  write_failed = failed;
  faults_before = old.device.faults;
  faults_after = new.device.faults;
  clock_after = new.device.clock;
}

-- What a call that leaves the table does to the store: which of its numbers and lists change.
pub record Changes (old new : StoreState) (action : Action) (failed : Bool) : Type 0 where
  pub opened_at : new.opened_at ≡ old.opened_at
  pub opened_faults : new.opened_faults ≡ old.opened_faults
  pub declared : new.declared ≡ old.declared
  pub acks : new.acks ≡ old.acks
  pub pages : new.device.pages ≡ old.device.pages
  pub stopped : new.stopped ≡ (if failed then Some new.device.faults else old.stopped)
  -- only a store that nothing had stopped is stopped, and no group was being logged then
  pub running : failed ≡ true → old.stopped ≡ None
  pub group : failed ≡ true → group_of action ≡ None
  -- what it makes of the table, which is the same by another name, and of the lists that the components' pages show
  pub table : Table → Table
  pub disk : List (List PrimRow) → List (List PrimRow)
  pub done : (m : Machine) → Has old m → does action m ≡ record m { seq = new.seq; log = new.log; lists = new.lists; disk = disk m.disk; table = table m.table }

-- Where the device told, what a call that leaves the table leaves there: the calls that it made, and after them what the lists need,
-- with those that the components' pages show, and what each crash since the opening leaves.
pub record GoesOn (o : Opening) (old new : StoreState) (m : Machine) (t : Tells o old m) (disk : List (List PrimRow)) (made : List DeviceCall) : Type 0 where
  pub calls : Calls
  pub told : new.device.story ≡ Some (after t.now calls)
  pub made_is : ok_calls (clock_of t.now) calls ≡ made
  pub clock : new.device.clock ≡ clock_of (after t.now calls)
  pub kept : new.stopped ≡ None → IsKept old.device.pages new.log m.table new.lists (after t.now calls)
  pub legible : IsLegible m.table disk new.lists (after t.now calls)
  pub rows : new.lists.rows ≡ length (rows_of m.table)
  pub survives : EachMoment (clock_of t.opening) (after t.now calls) (Keeps old.device.pages o.table (attempted m.logged m.unfinished) m.acks)

module _ (old new : StoreState) (owner : ℕ) (action : Action) (made : List DeviceCall) (failed : Bool) (change : Changes old new action failed) where
  abbrev event : Event
  event = event_of old new owner action made failed

  -- the machine after it
  abbrev next : Machine → Machine
  next m = record m {
    table = change.table m.table;
    seq = new.seq;
    log = new.log;
    lists = new.lists;
    disk = change.disk m.disk;
    stopped = if failed then Some new.device.faults else m.stopped;
    unfinished = if failed then group_of action else m.unfinished;
    faults = new.device.faults;
    clock = new.device.clock;
    device_calls = m.device_calls ++ made;
  }

  next-is : (m : Machine) → Has old m → next m ≡ after_event m event
  next-is m has =
      ap (λ (n : Machine). record n {
        stopped = if failed then Some new.device.faults else n.stopped;
        unfinished = if failed then group_of action else n.unfinished;
        faults = new.device.faults;
        clock = new.device.clock;
        device_calls = m.device_calls ++ made;
      }) (sym (change.done m has))

  -- no group was being logged
  unfinished-same : (m : Machine) → Has old m → (if failed then group_of action else m.unfinished) ≡ m.unfinished
  unfinished-same m has = by_test failed refl
    where
      by_test : (b : Bool) → failed ≡ b → (if b then group_of action else m.unfinished) ≡ m.unfinished
      by_test true is = change.group is ∙ sym (has.running (sym has.stopped ∙ change.running is))
      by_test false is = refl

  next-has : (m : Machine) → Has old m → Has new (next m)
  next-has m has = record {
    stopped = change.stopped ∙ ap (λ (x : Option ℕ). if failed then Some new.device.faults else x) has.stopped;
    seq = refl;
    log = refl;
    lists = refl;
    acks = change.acks ∙ has.acks;
    declared = change.declared ∙ has.declared;
    faults = refl;
    clock = refl;
    counted = has.counted;
    running = by_test failed refl;
  }
    where
      by_test : (b : Bool) → failed ≡ b → (if failed then Some new.device.faults else m.stopped) ≡ None → (if failed then group_of action else m.unfinished) ≡ None
      by_test true is going = absurd (let none : ◌≡◌ {A = Option ℕ} (Some new.device.faults) None = ap (λ (b : Bool). if b then Some new.device.faults else m.stopped) (sym is) ∙ going in cc)
      by_test false is going =
          ap (λ (b : Bool). if b then group_of action else m.unfinished) is
          ∙ has.running (ap (λ (b : Bool). if b then Some new.device.faults else m.stopped) (sym is) ∙ going)

  next-tells : (o : Opening) (m : Machine) → Has old m → (t : Tells o old m) → GoesOn o old new m t (change.disk m.disk) made → change.table m.table ≡ m.table → Tells o new (next m)
  next-tells o m has t goes same =
      let calls : _ = goes_on o old m t goes.calls made goes.made_is in
      subst (λ (x : Table). Tells o new (record (next m) { table = x })) (sym same)
      (record {
        opening = t.opening;
        begins = subst (λ (p : ℕ). Begins o p t.opening) (sym change.pages) t.begins;
        calls = t.calls ++ goes.calls;
        now = after t.now goes.calls;
        went = calls.0;
        told = goes.told;
        clock = goes.clock;
        made = calls.1;
        replayed = t.replayed;
        kept = λ going. subst (λ (p : ℕ). IsKept p new.log m.table new.lists (after t.now goes.calls)) (sym change.pages)
            (goes.kept (change.stopped ∙ ap (λ (x : Option ℕ). if failed then Some new.device.faults else x) has.stopped ∙ going));
        legible = goes.legible;
        rows = goes.rows;
        acked = AreUpTo-later (clock_of t.now) (clock_of (after t.now goes.calls)) m.acks (omega (arith, clock_of-after t.now goes.calls)) t.acked;
        survives = subst (λ (p : ℕ). EachMoment (clock_of t.opening) (after t.now goes.calls) (Keeps p o.table (attempted m.logged (if failed then group_of action else m.unfinished)) m.acks)) (sym change.pages)
            (subst (λ (g : Option Group). EachMoment (clock_of t.opening) (after t.now goes.calls) (Keeps old.device.pages o.table (attempted m.logged g) m.acks)) (sym (unfinished-same m has)) goes.survives);
      })

  -- a call that leaves the table makes its event
  pub passes : HasGoneOn old.device.story new.device.story → WhereTold (damaged_page action) (IsCause old.lists new.device)
      → ((known : Bool) (o : Opening) (m : Machine) → Has old m → (known ≡ true → Tells o old m) → Allows known m event)
      → ((o : Opening) (m : Machine) → Has old m → (t : Tells o old m) → GoesOn o old new m t (change.disk m.disk) made)
      → ((o : Opening) (m : Machine) → Has old m → (t : Tells o old m) → change.table m.table ≡ m.table)
      → Makes old new owner action
  passes gone causes allows goes same =
      makes old new owner action event (record { owner_is = refl; action_is = refl; before_it = refl; after_it = refl; time = refl }) change.opened_at change.opened_faults gone causes
      (λ known o m has tells. record {
        allows = allows known o m has tells;
        has = subst (λ (n : Machine). Has new n) (next-is m has) (next-has m has);
        tells = λ is_known. subst (λ (n : Machine). Tells o new n) (next-is m has) (next-tells o m has (tells is_known) (goes o m has (tells is_known)) (same o m has (tells is_known)));
      })
