-- The events of freezes, jobs and installs.
use Rattle.std.proofs.Common.{◌≡◌, ◌≢◌, ◌⊎◌, inl, inr, ℕ, suc, ◌+◌, ◌-◌, ◌*◌, ◌<◌, ◌≤◌, Bool, true, false, List, [], ◌∷◌, ◌++◌, length, Option, Some, None, Result, Ok, Err, is_some, refl, sym, ◌∙◌, ap, subst, arith}
use Rattle.std.proofs.lemmas.List.{length-append}
use Rattle.dev_model.specs.Story.{Calls, Story, Write, clock_of}
use Rattle.dev_model.specs.Doing.{Made}
use Rattle.dev_model.specs.DeviceCalls.{made_at, ok_calls}
use Rattle.dev_model.specs.declared.calls.DeviceCall.{DeviceCall}
use Rattle.dev_model.specs.declared.calls.DeviceAct.TheVariants.{WriteAt}
use Rattle.page_codec.specs.declared.pages.TheConstants.{PAGE_BYTES}
use Rattle.wal_log.specs.State.{turn_calls}
use Rattle.wal_log.specs.declared.log.Log.{Log}
use Rattle.comp_dir.specs.Resting.{install_calls}
use Rattle.build_job.specs.Jobs.{Job, described}
use Rattle.build_job.specs.Steps.{steps_left}
use Rattle.store_machine.specs.Calls.{Makes}
use Rattle.store_machine.specs.Standing.{StoreState, Has, Tells}
use Rattle.dev_model.specs.Story.{DeviceState}
use Rattle.store_machine.specs.declared.events.OwnedJob.{OwnedJob}
use Rattle.store_machine.specs.declared.events.Refusal.TheVariants.{Fault, Stopped}
use Rattle.store_state.specs.Beginning.{IsRefused, MayBegin, fresh}
use Rattle.store_state.specs.Begun.{Begins}
use Rattle.primary_ix.specs.declared.rows.PrimRow.{PrimRow}
use Rattle.store_state.specs.Laws.ReadingStays.{kept-begun, legible-begun}
use Rattle.store_state.specs.Lists.{Lists, job_of}
use Rattle.store_state.specs.OwnJob.{IsJobOf}
use Rattle.store_state.specs.EveryList.{IsLists, IsPlanned, IsPlannedIf}
use Rattle.store_state.specs.Steps.{begun, frozen_at, installed, one_written}
use Rattle.store_state.specs.Stepping.{KeepsTable}
use Rattle.store_state.specs.declared.faults.BeginFault.{BeginFault}
use Rattle.store_state.specs.declared.faults.BeginFault.TheVariants as begin
use Rattle.store_state.specs.declared.jobs.JobRow.{JobRow}
use Rattle.store_machine.specs.Machine.{Machine, Opening, does, log_turned, row_of}
use Rattle.store_machine.specs.Needs.{IsWriting, IsWrittenOut, MayFreeze, Needs, RefusesBegin}
use Rattle.store_machine.specs.Runs.{Acknowledges, IsFront, IsOwned, MakesCalls, Stops, is_fault}
use Rattle.store_machine.specs.Damage.{damaged_page}
use Rattle.store_machine.specs.Laws.Damages.{no-cause}
use Rattle.store_machine.specs.Laws.Events.{Owes, still-event, stays-go_on, works-event, fails-event}
use Rattle.store_machine.specs.Laws.LogCalls.{IsPlan, IsPlan-turn}
use Rattle.store_machine.specs.Laws.Working.{WorkFails, Works, stays-there, stopped_calls, stopped_state}
use Rattle.store_machine.specs.declared.events.Action.{Action}
use Rattle.store_machine.specs.declared.events.Action.TheVariants.{Begin, Freeze, Install, JobWrite}
use Rattle.store_core.specs.Begun.{begin_of}
use Rattle.store_core.specs.Refusals.{refusal_of_begin}

-- the machine by the names of the store
renamed : (old : StoreState) (m : Machine) → Has old m → m ≡ record m { seq = old.seq; log = old.log; lists = old.lists; table = m.table }
renamed old m has i = record m { seq = sym has.seq i; log = sym has.log i; lists = sym has.lists i; table = m.table }

-- a call that changes nothing, and makes no device call
nothing : (s : StoreState) (owner : ℕ) (a : Action) → IsOwned a (Some owner) → Acknowledges a s.device.clock → Stops a false → is_fault a ≡ false → damaged_page a ≡ None
    → ((m : Machine) → does a m ≡ m) → ((m : Machine) → MakesCalls m a false []) → ((known : Bool) (m : Machine) → Has s m → Needs known m a) → Makes s s owner a
nothing s owner a owned acks stops no_fault sound same none needs =
    still-event s s.lists s.seq owner a
    (record {
      needs = λ known o m has tells. needs known m has;
      owned = owned;
      acks = acks;
      stops = stops;
      faults = omega arith;
      cause = λ fault. absurd (let no : true ≡ false = sym fault ∙ no_fault in cc);
      time = omega arith;
      causes = no-cause s.lists s.device a sound;
    })
    (λ m has. same m ∙ renamed s m has)
    no_fault none
    (stays-go_on s s.seq)

-- what a step on the device shows of it, whether it was answered or failed
pub record IsStep {X E : Type 0} (plan : Calls) (grown : List (List PrimRow) → List (List PrimRow)) (old : StoreState) (now : DeviceState) (log : Log) (lists : Lists) (r : Result X E) : Type 0 where
  pub going : old.stopped ≡ None
  pub made : Made plan old.device now r
  pub table : KeepsTable grown old.device now old.log log old.lists lists r
  pub clock_told : (s : Story) → now.story ≡ Some s → now.clock ≡ clock_of s

module _ {X E : Type 0} (plan : Calls) (planned : IsPlan plan) (grown : List (List PrimRow) → List (List PrimRow)) (old : StoreState) (now : DeviceState) (log : Log) (lists : Lists) (owner : ℕ) (a : Action) (owned : IsOwned a (Some owner))
    (sound : damaged_page a ≡ None) (needs : (known : Bool) (m : Machine) → Has old m → Needs known m a) where
  -- one that was answered
  module _ (x : X) (step : IsStep {E = E} plan grown old now log lists (Ok x)) where
    works : lists.rows ≡ old.lists.rows → Works old (record old { device = now; log = log; lists = lists }) grown plan
    works rows = record {
      going = step.going;
      leaves = record { any_moment = step.table.any_moment; clock_told = step.clock_told };
      planned = planned;
      did = step.made.did;
      kept = step.table.kept;
      legible = λ table disk s told kept legible. step.table.grows table disk s told (kept, legible);
      rows = rows;
    }

    answered : Acknowledges a now.clock → Stops a false → is_fault a ≡ false → Owes old now owner a false
    answered acks stops no_fault = record {
      needs = λ known o m has tells. needs known m has;
      owned = owned;
      acks = acks;
      stops = stops;
      faults = step.made.cause.later;
      cause = λ fault. absurd (let no : true ≡ false = sym fault ∙ no_fault in cc);
      time = omega (arith, step.made.ticks);
      causes = no-cause old.lists now a sound;
    }

  -- and one that failed
  module _ (e : E) (step : IsStep {X = X} plan grown old now log lists (Err e)) where
    fails : WorkFails old now plan
    fails = record { going = step.going; leaves = record { any_moment = step.table.any_moment; clock_told = step.clock_told }; planned = planned; did = step.made.did; legible = step.table.legible }

    failed : Acknowledges a now.clock → Stops a true → Owes old now owner a true
    failed acks stops = record {
      needs = λ known o m has tells. needs known m has;
      owned = owned;
      acks = acks;
      stops = stops;
      faults = step.made.cause.later;
      cause = λ _. step.made.cause.failed;
      time = step.made.ticks.0;
      causes = no-cause old.lists now a sound;
    }

-- the clock of the story is that of the machine
same-clock : (o : Opening) (old : StoreState) (m : Machine) → Has old m → (t : Tells o old m) → clock_of t.now ≡ m.clock
same-clock o old m has t = sym t.clock ∙ has.clock

pub some-there : {X : Type 0} (o : Option X) → is_some o ≡ true → o ≢ None
some-there None is = absurd (let no : false ≡ true = is in cc)
some-there {X} (Some x) is = λ none. absurd (let no : ◌≡◌ {A = Option X} (Some x) None = none in cc)

pub none-there : {X : Type 0} (o : Option X) → is_some o ≡ false → o ≡ None
none-there None is = refl
none-there (Some x) is = absurd (let no : true ≡ false = is in cc)

-- a list may be frozen
pub record MayTurn (old : StoreState) (least : ℕ) : Type 0 where
  pub going : old.stopped ≡ None
  pub enough : least ≤ old.log.records
  pub some : 1 ≤ old.log.records
  pub none_waits : old.lists.frozen ≡ None

may-freeze : (old : StoreState) (least : ℕ) → MayTurn old least → (m : Machine) → Has old m → MayFreeze m least
may-freeze old least may m has = record {
  going = sym has.stopped ∙ may.going;
  enough = subst (λ (l : Log). least ≤ l.records) has.log may.enough;
  some = subst (λ (l : Log). 1 ≤ l.records) has.log may.some;
  none_waits = ap (λ (l : Lists). l.frozen) (sym has.lists) ∙ may.none_waits;
}

pub freeze-stopped : (s : StoreState) (owner least faults : ℕ) → s.stopped ≡ Some faults → Makes s s owner (Freeze least (Err (Stopped faults)))
freeze-stopped s owner least faults is =
    nothing s owner (Freeze least (Err (Stopped faults))) tt tt refl refl refl (λ m. refl) (λ m. refl) (λ known m has. sym has.stopped ∙ is)

pub not-frozen : (s : StoreState) (owner least : ℕ) → s.stopped ≡ None → (s.log.records < least) ⊎ (s.lists.frozen ≢ None) → Makes s s owner (Freeze least (Ok false))
not-frozen s owner least going why =
    nothing s owner (Freeze least (Ok false)) tt tt refl refl refl (λ m. refl) (λ m. refl) (λ known m has. (sym has.stopped ∙ going, there m has why))
  where
    there : (m : Machine) → Has s m → (s.log.records < least) ⊎ (s.lists.frozen ≢ None) → (m.log.records < least) ⊎ (m.lists.frozen ≢ None)
    there m has (inl few) = inl (subst (λ (l : Log). l.records < least) has.log few)
    there m has (inr waits) = inr (subst (λ (l : Lists). l.frozen ≢ None) has.lists waits)

pub froze : {X E : Type 0} (old : StoreState) (now : DeviceState) (log : Log) (lists : Lists) (owner least : ℕ) (x : X) → IsStep {E = E} (turn_calls old.log) (λ d. d) old now log lists (Ok x) → MayTurn old least
    → log ≡ log_turned old.log → lists ≡ frozen_at (old.log.next_lsn - 1) old.lists → Makes old (record old { device = now; log = log; lists = lists }) owner (Freeze least (Ok true))
froze {E = E} old now log lists owner least x step may log_is lists_is =
    let needs : (known : Bool) (m : Machine) → Has old m → Needs known m (Freeze least (Ok true)) = λ known m has. may-freeze old least may m has in
    works-event old now log lists (λ d. d) (turn_calls old.log) owner (Freeze least (Ok true)) step.made.same_pages
    (works {E = E} (turn_calls old.log) (IsPlan-turn old.log) (λ d. d) old now log lists owner (Freeze least (Ok true)) tt refl needs x step (ap (λ (l : Lists). l.rows) lists_is))
    (answered {E = E} (turn_calls old.log) (IsPlan-turn old.log) (λ d. d) old now log lists owner (Freeze least (Ok true)) tt refl needs x step tt refl refl)
    (λ m has.
    (λ i. record m { seq = sym has.seq i; log = log_turned (sym has.log i); lists = frozen_at ((sym has.log i).next_lsn - 1) (sym has.lists i); table = m.table })
    ∙ (λ i. record m { seq = old.seq; log = sym log_is i; lists = sym lists_is i; table = m.table }))
    refl (λ m has. λ i. ok_calls (has.clock i) (turn_calls (has.log i)))

-- a step that failed leaves all but the device, and stops the store
pub after-stop : (old new : StoreState) (now : DeviceState) (log : Log) (lists : Lists) → log ≡ old.log → lists ≡ old.lists
    → new ≡ record old { device = now; log = log; lists = lists; stopped = Some now.faults } → new ≡ stopped_state old now
after-stop old new now log lists log_is lists_is is = is ∙ (λ i. record old { device = now; log = log_is i; lists = lists_is i; stopped = Some now.faults })

pub freeze-failed : {X E : Type 0} (old new : StoreState) (now : DeviceState) (log : Log) (lists : Lists) (owner least : ℕ) (e : E) → new ≡ stopped_state old now → IsStep {X = X} (turn_calls old.log) (λ d. d) old now log lists (Err e) → MayTurn old least
    → Makes old new owner (Freeze least (Err Fault))
freeze-failed {X = X} old new now log lists owner least e is step may =
    let plan : Calls = turn_calls old.log in
    let needs : (known : Bool) (m : Machine) → Has old m → Needs known m (Freeze least (Err Fault)) = λ known m has. may-freeze old least may m has in
    let is_fails : WorkFails old now plan = fails {X = X} plan (IsPlan-turn old.log) (λ d. d) old now log lists owner (Freeze least (Err Fault)) tt refl needs e step in
    subst (λ (s : StoreState). Makes old s owner (Freeze least (Err Fault))) (sym is)
    (fails-event old now plan owner (Freeze least (Err Fault)) step.made.same_pages is_fails
    (failed {X = X} plan (IsPlan-turn old.log) (λ d. d) old now log lists owner (Freeze least (Err Fault)) tt refl needs e step tt refl)
    refl refl (λ m. refl)
    (λ o m has t by. subst (λ (all : List DeviceCall). IsFront all (stopped_calls old now plan is_fails)) (λ i. ok_calls (same-clock o old m has t i) (turn_calls (has.log i))) by.front))

pub begin-stopped : (s : StoreState) (owner faults : ℕ) → s.stopped ≡ Some faults → Makes s s owner (Begin (Err (Stopped faults)))
begin-stopped s owner faults is = nothing s owner (Begin (Err (Stopped faults))) tt tt refl refl refl (λ m. refl) (λ m. refl) (λ known m has. sym has.stopped ∙ is)

pub began : (old : StoreState) (lists : Lists) (owner : ℕ) (job : Option Job) → old.stopped ≡ None → Begins owner old.lists lists (Ok job)
    → Makes old (record old { lists = lists }) owner (begin_of owner (Ok job))
began old lists owner None going begins =
    subst (λ (l : Lists). Makes old (record old { lists = l }) owner (Begin (Ok None))) (sym begins.1)
    (nothing old owner (Begin (Ok None)) tt tt refl refl refl (λ m. refl) (λ m. refl) (λ known m has. (sym has.stopped ∙ going, ap (λ (l : Lists). l.frozen) (sym has.lists) ∙ begins.0)))
began old lists owner (Some job) going begins =
    let row : JobRow = fresh owner job.plan in
    let own : OwnedJob = record { owner = owner; job = job } in
    subst (λ (l : Lists). Makes old (record old { lists = l }) owner (Begin (Ok (Some own)))) (sym begins.lists)
    (still-event old (begun row old.lists) old.seq owner (Begin (Ok (Some own)))
    (record {
      needs = λ known o m has tells. (sym has.stopped ∙ going, subst (λ (l : Lists). MayBegin l job.plan) has.lists begins.may, begins.job_is ∙ ap (λ (l : Lists). job_of l row) has.lists);
      owned = refl;
      acks = tt;
      stops = refl;
      faults = omega arith;
      cause = λ fault. absurd (let no : true ≡ false = sym fault in cc);
      time = omega arith;
      causes = no-cause old.lists old.device (Begin (Ok (Some own))) refl;
    })
    (λ m has. λ i. record m { seq = sym has.seq i; log = sym has.log i; lists = begun row (sym has.lists i); table = m.table })
    refl (λ m. refl)
    (λ o m has t. stays-there o old (record old { lists = begun row old.lists; seq = old.seq }) m has t refl refl refl refl
    (λ table s kept. kept-begun old.device.pages old.log table old.lists s row kept refl) (λ table disk s legible. legible-begun table disk old.lists s row legible)))

begin-refuses : (old : StoreState) (lists : Lists) (owner ops : ℕ) (fault : BeginFault) → old.stopped ≡ None → Begins owner old.lists lists (Err fault) → ops ≡ old.log.records
    → (m : Machine) → Has old m → RefusesBegin m (refusal_of_begin ops fault)
begin-refuses old lists owner ops begin.Held going begins ops_is m has = (
  sym has.stopped ∙ going,
  subst (λ (l : Lists). l.frozen ≢ None) has.lists begins.0,
  subst (λ (l : Lists). l.job ≢ None) has.lists begins.1,
  ops_is ∙ ap (λ (l : Log). l.records) has.log,
)
begin-refuses old lists owner ops (begin.Full need longest) going begins ops_is m has =
    let why : IsRefused old.lists (begin.Full need longest) = begins.1 in (
      record { going = sym has.stopped ∙ going; frozen = subst (λ (l : Lists). l.frozen ≢ None) has.lists begins.0; free = subst (λ (l : Lists). l.job ≡ None) has.lists why.0 },
      subst (λ (l : Lists). IsRefused l (begin.Full need longest)) has.lists why,
    )
begin-refuses old lists owner ops begin.OutOfMemory going begins ops_is m has =
    let why : IsRefused old.lists begin.OutOfMemory = begins.1 in (
      record { going = sym has.stopped ∙ going; frozen = subst (λ (l : Lists). l.frozen ≢ None) has.lists begins.0; free = subst (λ (l : Lists). l.job ≡ None) has.lists why.0 },
      subst (λ (l : Lists). IsRefused l begin.OutOfMemory) has.lists why,
    )

begin-nothing : (old : StoreState) (owner ops : ℕ) (fault : BeginFault) → ((m : Machine) → Has old m → RefusesBegin m (refusal_of_begin ops fault)) → Makes old old owner (Begin (Err (refusal_of_begin ops fault)))
begin-nothing old owner ops begin.Held refuses = nothing old owner (Begin (Err (refusal_of_begin ops begin.Held))) tt tt refl refl refl (λ m. refl) (λ m. refl) (λ known m has. refuses m has)
begin-nothing old owner ops (begin.Full need longest) refuses =
    nothing old owner (Begin (Err (refusal_of_begin ops (begin.Full need longest)))) tt tt refl refl refl (λ m. refl) (λ m. refl) (λ known m has. refuses m has)
begin-nothing old owner ops begin.OutOfMemory refuses =
    nothing old owner (Begin (Err (refusal_of_begin ops begin.OutOfMemory))) tt tt refl refl refl (λ m. refl) (λ m. refl) (λ known m has. refuses m has)

pub begin-refused : (old : StoreState) (lists : Lists) (owner ops : ℕ) (fault : BeginFault) → old.stopped ≡ None → Begins owner old.lists lists (Err fault) → ops ≡ old.log.records
    → Makes old (record old { lists = lists }) owner (Begin (Err (refusal_of_begin ops fault)))
begin-refused old lists owner ops fault going begins ops_is =
    subst (λ (l : Lists). Makes old (record old { lists = l }) owner (Begin (Err (refusal_of_begin ops fault)))) (sym begins.2)
    (begin-nothing old owner ops fault (begin-refuses old lists owner ops fault going begins ops_is))

-- the owner's job is what the lists keep of it
own-row : (l : Lists) (owner : ℕ) (job : Job) (of : IsJobOf l owner job) → of.row ≡ row_of (record { owner = owner; job = job })
own-row l owner job of i = record { owner = of.owned i; plan = (sym of.same i).plan; written = (sym of.same i).written }

is-writing : (old : StoreState) (owner : ℕ) (job : Job) → IsJobOf old.lists owner job → 0 < steps_left job → (m : Machine) → Has old m → IsWriting m (record { owner = owner; job = job })
is-writing old owner job its left m has = record { begun = subst (λ (l : Lists). IsJobOf l owner job) has.lists its; left = omega (arith, left) }

pub write-stopped : (s : StoreState) (owner faults : ℕ) (job : Job) → IsJobOf s.lists owner job → 0 < steps_left job → s.stopped ≡ Some faults
    → Makes s s owner (JobWrite (record { owner = owner; job = job }) (Err (Stopped faults)))
write-stopped s owner faults job its left is =
    nothing s owner (JobWrite (record { owner = owner; job = job }) (Err (Stopped faults))) refl tt refl refl refl (λ m. refl) (λ m. refl)
    (λ known m has. (is-writing s owner job its left m has, sym has.stopped ∙ is))

pub wrote-page : {X E : Type 0} (old : StoreState) (now : DeviceState) (lists : Lists) (owner : ℕ) (job : Job) (bytes : List ℕ) (x : X) → IsStep {E = E} (Write ((job.plan.extent.first + job.written) * PAGE_BYTES) bytes ∷ []) (λ d. d) old now old.log lists (Ok x)
    → IsJobOf old.lists owner job → 0 < steps_left job → length bytes ≡ PAGE_BYTES → lists ≡ one_written old.lists → Makes old (record old { device = now; lists = lists }) owner (JobWrite (record { owner = owner; job = job }) (Ok tt))
wrote-page {E = E} old now lists owner job bytes x step its left wide lists_is =
    let own : OwnedJob = record { owner = owner; job = job } in
    let plan : Calls = Write ((job.plan.extent.first + job.written) * PAGE_BYTES) bytes ∷ [] in
    let needs : (known : Bool) (m : Machine) → Has old m → Needs known m (JobWrite own (Ok tt)) = λ known m has. (sym has.stopped ∙ step.going, is-writing old owner job its left m has) in
    works-event old now old.log lists (λ d. d) plan owner (JobWrite own (Ok tt)) step.made.same_pages
    (works {E = E} plan tt (λ d. d) old now old.log lists owner (JobWrite own (Ok tt)) refl refl needs x step (ap (λ (l : Lists). l.rows) lists_is))
    (answered {E = E} plan tt (λ d. d) old now old.log lists owner (JobWrite own (Ok tt)) refl refl needs x step tt refl refl)
    (λ m has.
    (λ i. record m { seq = sym has.seq i; log = sym has.log i; lists = one_written (sym has.lists i); table = m.table })
    ∙ (λ i. record m { seq = old.seq; log = old.log; lists = sym lists_is i; table = m.table }))
    refl (λ m has. λ i. made_at (has.clock i + 1) (WriteAt ((job.plan.extent.first + job.written) * PAGE_BYTES) (wide i)) ∷ [])

-- of one call none is left before the one that failed
no-calls : (call : DeviceCall) (made : List DeviceCall) → IsFront (call ∷ []) made → made ≡ []
no-calls call [] front = refl
no-calls call (first ∷ made) front =
    let count : 1 ≡ suc (length (made ++ front.failed ∷ front.left)) = ap (λ (calls : List DeviceCall). length calls) front.front in
    absurd (omega (arith, count, length-append made (front.failed ∷ front.left)))

pub page-failed : {X E : Type 0} (old new : StoreState) (now : DeviceState) (lists : Lists) (owner : ℕ) (job : Job) (at : ℕ) (bytes : List ℕ) (e : E) → new ≡ stopped_state old now → IsStep {X = X} (Write at bytes ∷ []) (λ d. d) old now old.log lists (Err e)
    → IsJobOf old.lists owner job → 0 < steps_left job → Makes old new owner (JobWrite (record { owner = owner; job = job }) (Err Fault))
page-failed {X = X} old new now lists owner job at bytes e is step its left =
    let own : OwnedJob = record { owner = owner; job = job } in
    let plan : Calls = Write at bytes ∷ [] in
    let needs : (known : Bool) (m : Machine) → Has old m → Needs known m (JobWrite own (Err Fault)) = λ known m has. (is-writing old owner job its left m has, sym has.stopped ∙ step.going) in
    let is_fails : WorkFails old now plan = fails {X = X} plan tt (λ d. d) old now old.log lists owner (JobWrite own (Err Fault)) refl refl needs e step in
    subst (λ (s : StoreState). Makes old s owner (JobWrite own (Err Fault))) (sym is)
    (fails-event old now plan owner (JobWrite own (Err Fault)) step.made.same_pages is_fails
    (failed {X = X} plan tt (λ d. d) old now old.log lists owner (JobWrite own (Err Fault)) refl refl needs e step tt refl)
    refl refl (λ m. refl)
    (λ o m has t by. no-calls _ (stopped_calls old now plan is_fails) by.front))

is-written_out : (old : StoreState) (owner : ℕ) (job : Job) → IsJobOf old.lists owner job → IsLists old.lists → steps_left job ≡ 0 → (m : Machine) → Has old m → IsWrittenOut m (record { owner = owner; job = job })
is-written_out old owner job its lists done m has =
    let none : steps_left (job_of old.lists its.row) ≡ 0 = subst (λ (j : Job). steps_left j ≡ 0) its.same done in
    let planned : IsPlanned old.lists its.row = subst (IsPlannedIf old.lists) its.is lists.planned in
    record {
      begun = subst (λ (l : Lists). IsJobOf l owner job) has.lists its;
      none_left = subst (λ (j : Job). j.written ≡ j.plan.extent.pages) (sym its.same) (omega (arith, none, planned.written));
    }

pub install-stopped : (s : StoreState) (owner faults : ℕ) (job : Job) → IsJobOf s.lists owner job → IsLists s.lists → steps_left job ≡ 0 → s.stopped ≡ Some faults
    → Makes s s owner (Install (record { owner = owner; job = job }) (Err (Stopped faults)))
install-stopped s owner faults job its lists done is =
    nothing s owner (Install (record { owner = owner; job = job }) (Err (Stopped faults))) refl tt refl refl refl (λ m. refl) (λ m. refl)
    (λ known m has. (is-written_out s owner job its lists done m has, sym has.stopped ∙ is))

pub was-installed : {X E : Type 0} (old : StoreState) (now : DeviceState) (lists : Lists) (owner : ℕ) (job : Job) (x : X) → IsStep {E = E} (install_calls job.plan.slot (described job)) (λ d. job.rows ∷ d) old now old.log lists (Ok x)
    → (its : IsJobOf old.lists owner job) → IsLists old.lists → steps_left job ≡ 0 → lists ≡ installed its.row old.lists → Makes old (record old { device = now; lists = lists }) owner (Install (record { owner = owner; job = job }) (Ok tt))
was-installed {E = E} old now lists owner job x step its sound done lists_is =
    let own : OwnedJob = record { owner = owner; job = job } in
    let plan : Calls = install_calls job.plan.slot (described job) in
    let needs : (known : Bool) (m : Machine) → Has old m → Needs known m (Install own (Ok tt)) = λ known m has. (sym has.stopped ∙ step.going, is-written_out old owner job its sound done m has) in
    let after_it : lists ≡ installed (row_of own) old.lists = lists_is ∙ ap (λ (row : JobRow). installed row old.lists) (own-row old.lists owner job its) in
    works-event old now old.log lists (λ d. job.rows ∷ d) plan owner (Install own (Ok tt)) step.made.same_pages
    (works {E = E} plan tt (λ d. job.rows ∷ d) old now old.log lists owner (Install own (Ok tt)) refl refl needs x step (ap (λ (l : Lists). l.rows) lists_is))
    (answered {E = E} plan tt (λ d. job.rows ∷ d) old now old.log lists owner (Install own (Ok tt)) refl refl needs x step tt refl refl)
    (λ m has.
    (λ i. record m { seq = sym has.seq i; log = sym has.log i; lists = installed (row_of own) (sym has.lists i); disk = job.rows ∷ m.disk; table = m.table })
    ∙ (λ i. record m { seq = old.seq; log = old.log; lists = sym after_it i; disk = job.rows ∷ m.disk; table = m.table }))
    refl (λ m has. λ i. ok_calls (has.clock i) (install_calls job.plan.slot (described job)))

pub install-failed : {X E : Type 0} (old new : StoreState) (now : DeviceState) (lists : Lists) (owner : ℕ) (job : Job) (e : E) → new ≡ stopped_state old now → IsStep {X = X} (install_calls job.plan.slot (described job)) (λ d. job.rows ∷ d) old now old.log lists (Err e)
    → IsJobOf old.lists owner job → IsLists old.lists → steps_left job ≡ 0 → Makes old new owner (Install (record { owner = owner; job = job }) (Err Fault))
install-failed {X = X} old new now lists owner job e is step its sound done =
    let own : OwnedJob = record { owner = owner; job = job } in
    let plan : Calls = install_calls job.plan.slot (described job) in
    let needs : (known : Bool) (m : Machine) → Has old m → Needs known m (Install own (Err Fault)) = λ known m has. (is-written_out old owner job its sound done m has, sym has.stopped ∙ step.going) in
    let is_fails : WorkFails old now plan = fails {X = X} plan tt (λ d. job.rows ∷ d) old now old.log lists owner (Install own (Err Fault)) refl refl needs e step in
    subst (λ (s : StoreState). Makes old s owner (Install own (Err Fault))) (sym is)
    (fails-event old now plan owner (Install own (Err Fault)) step.made.same_pages is_fails
    (failed {X = X} plan tt (λ d. job.rows ∷ d) old now old.log lists owner (Install own (Err Fault)) refl refl needs e step tt refl)
    refl refl (λ m. refl)
    (λ o m has t by. subst (λ (all : List DeviceCall). IsFront all (stopped_calls old now plan is_fails)) (λ i. ok_calls (same-clock o old m has t i) (install_calls job.plan.slot (described job))) by.front))
