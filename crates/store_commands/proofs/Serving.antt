-- A store that goes on from call to call, by what the event of each says of it.
use Rattle.std.proofs.Common.{◌≡◌, ◌≢◌, ℕ, ◌-◌, ◌<◌, ◌≤◌, Bool, true, false, if◌then◌else◌, List, [], ◌∷◌, ◌++◌, Option, Some, None, Ok, Err, Result, is_some, refl, sym, ◌∙◌, ap, subst, arith}
use Rattle.std.proofs.lemmas.List.Elements.{All-nil, All-cons, All-append}
use Rattle.geo_base.specs.declared.points.Point.{Point}
use Rattle.table_model.specs.declared.Why.{Why}
use Rattle.wal_log.specs.declared.log.Log.{Log}
use Rattle.wal_log.specs.declared.records.LogOp.{LogOp}
use Rattle.wal_log.specs.declared.records.LogOp.TheVariants.{Put, Del}
use Rattle.wal_log.specs.declared.places.TheConstants.{MOST_RECORDS}
use Rattle.store_state.specs.Lists.{Lists, placed_up_to}
use Rattle.store_state.specs.EveryList.{IsCut}
use Rattle.store_machine.specs.Commands.{is_upkeep, word_of}
use Rattle.store_machine.specs.Machine.{Machine, does, after_logged}
use Rattle.store_machine.specs.Needs.{Needs}
use Rattle.store_machine.specs.Calls.{IsReady, IsStanding, Makes}
use Rattle.store_machine.specs.Standing.{StoreState}
use Rattle.store_machine.specs.Laws.Stepping.{Steps, stepped, standing-adds}
use Rattle.store_machine.specs.Laws.Steps.{Adds-none, Adds-then}
use Rattle.store_machine.specs.declared.events.Action.{Action}
use Rattle.store_machine.specs.declared.events.Action.TheVariants as action
use Rattle.store_machine.specs.declared.events.Event.{Event}
use Rattle.store_machine.specs.declared.events.OwnedJob.{OwnedJob}
use Rattle.store_machine.specs.declared.events.Refusal.{Refusal}
use Rattle.store_machine.specs.declared.events.Refusal.TheVariants.{Fault, Stopped, Full, Again, NoIndex, Damaged, OutOfMemory}
use Rattle.store_commands.specs.Commands.{IsServing, Made}

-- events that were made, one after another
pub made-none : (s : StoreState) (owner : ℕ) → Made s s owner []
made-none s owner = record { adds = Adds-none s; owned = All-nil (λ (e : Event). e.owner ≡ Some owner) }

pub made-one : (old new : StoreState) (owner : ℕ) (a : Action) (m : Makes old new owner a) → Made old new owner (m.event ∷ [])
made-one old new owner a m = record {
  adds = m.adds;
  owned = All-cons (λ (e : Event). e.owner ≡ Some owner) m.event [] m.is.owner_is (All-nil (λ (e : Event). e.owner ≡ Some owner));
}

pub made-then : (a b c : StoreState) (owner : ℕ) (es fs : List Event) → Made a b owner es → Made b c owner fs → Made a c owner (es ++ fs)
made-then a b c owner es fs one other = record {
  adds = Adds-then a b c es fs one.adds other.adds;
  owned = All-append (λ (e : Event). e.owner ≡ Some owner) es fs one.owned other.owned;
}

pub standing-after : (old new : StoreState) (owner : ℕ) (a : Action) → IsStanding old → Makes old new owner a → IsStanding new
standing-after old new owner a standing m = standing-adds old new (m.event ∷ []) standing m.adds

-- a store that nothing has stopped now was not stopped before
pub going-before : (old new : StoreState) (a : Action) → Steps old new a → new.stopped ≡ None → old.stopped ≡ None
going-before old new a steps going = by_test steps.failed (sym steps.stopped ∙ going)
  where
    by_test : (b : Bool) → (if b then Some new.device.faults else old.stopped) ≡ None → old.stopped ≡ None
    by_test true none = absurd (let no : ◌≡◌ {A = Option ℕ} (Some new.device.faults) None = none in cc)
    by_test false none = none

-- an event in which a write or a sync of the device failed stops the store
pub stopped-now : (old new : StoreState) (a : Action) (steps : Steps old new a) → steps.failed ≡ true → new.stopped ≢ None
stopped-now old new a steps failed going =
    let no : ◌≡◌ {A = Option ℕ} (Some new.device.faults) None = ap (λ (b : Bool). if b then Some new.device.faults else old.stopped) (sym failed) ∙ sym steps.stopped ∙ going in
    absurd cc

-- a store that was stopped stays so
pub stopped-still : (old new : StoreState) (a : Action) → Steps old new a → old.stopped ≢ None → new.stopped ≢ None
stopped-still old new a steps stopped going = stopped (going-before old new a steps going)

-- an event that begins, writes and installs nothing keeps the job
abbrev pub KeepsJob : Action → Type 0
KeepsJob a = (m : Machine) → (does a m).lists.job ≡ m.lists.job

pub serving-after : (old new : StoreState) (owner : ℕ) (a : Action) → IsServing old → Makes old new owner a → IsReady new → KeepsJob a → IsServing new
serving-after old new owner a serving m ready keeps =
    let steps : Steps old new a = stepped old new owner a serving.standing m in
    record {
      ready = ready;
      standing = standing-after old new owner a serving.standing m;
      idle = λ going.
          ap (λ (l : Lists). l.job) steps.lists ∙ keeps steps.machine ∙ ap (λ (l : Lists). l.job) (sym steps.has.lists)
          ∙ serving.idle (going-before old new a steps going);
    }

pub write-keeps : (op : LogOp) (answer : Result _ Refusal) → KeepsJob (action.Write op answer)
write-keeps (Put row) (Ok w) m = refl
write-keeps (Del key) (Ok w) m = by_old w.old
  where
    by_old : (old : Option (Point × List ℕ)) → (if is_some old then after_logged (Del key) (is_some old) w.ack m else m).lists.job ≡ m.lists.job
    by_old None = refl
    by_old (Some place) = refl
write-keeps op (Err refusal) m = refl

pub get-keeps : (key : ℕ) (answer : Result _ Refusal) → KeepsJob (action.Get key answer)
get-keeps key (Ok given) m = refl
get-keeps key (Err refusal) m = refl

pub region-keeps : (kind : _) (rect : _) (answer : Result _ Refusal) → KeepsJob (action.Region kind rect answer)
region-keeps kind rect (Ok found) m = refl
region-keeps kind rect (Err refusal) m = refl

pub freeze-keeps : (least : ℕ) (answer : Result Bool Refusal) → KeepsJob (action.Freeze least answer)
freeze-keeps least (Ok true) m = refl
freeze-keeps least (Ok false) m = refl
freeze-keeps least (Err refusal) m = refl

-- a refusal other than that a call may be made again has a word
pub has-word : (refusal : Refusal) → ((ops : ℕ) → refusal ≡ Again ops → ⊥) → word_of refusal ≢ None
has-word Fault other none = absurd (let no : ◌≡◌ {A = Option Why} (word_of Fault) None = none in cc)
has-word (Stopped faults) other none = absurd (let no : ◌≡◌ {A = Option Why} (word_of (Stopped faults)) None = none in cc)
has-word (Full need longest) other none = absurd (let no : ◌≡◌ {A = Option Why} (word_of (Full need longest)) None = none in cc)
has-word (Again ops) other none = other ops refl
has-word NoIndex other none = absurd (let no : ◌≡◌ {A = Option Why} (word_of NoIndex) None = none in cc)
has-word (Damaged page) other none = absurd (let no : ◌≡◌ {A = Option Why} (word_of (Damaged page)) None = none in cc)
has-word OutOfMemory other none = absurd (let no : ◌≡◌ {A = Option Why} (word_of OutOfMemory) None = none in cc)

-- where no job is left, upkeep isn't refused so that it may be made again
pub begin-final : (old new : StoreState) (owner : ℕ) (refusal : Refusal) → IsServing old → Makes old new owner (action.Begin (Err refusal)) → word_of refusal ≢ None
begin-final old new owner refusal serving m =
    let steps : Steps old new (action.Begin (Err refusal)) = stepped old new owner (action.Begin (Err refusal)) serving.standing m in
    has-word refusal (λ ops is.
    let needs : Needs false steps.machine (action.Begin (Err (Again ops))) = subst (λ (r : Refusal). Needs false steps.machine (action.Begin (Err r))) is steps.needs in
    needs.2 (ap (λ (l : Lists). l.job) (sym steps.has.lists) ∙ serving.idle (steps.has.stopped ∙ needs.0)))

pub freeze-final : (old new : StoreState) (owner least : ℕ) (refusal : Refusal) → IsStanding old → Makes old new owner (action.Freeze least (Err refusal)) → word_of refusal ≢ None
freeze-final old new owner least refusal standing m =
    let steps : Steps old new (action.Freeze least (Err refusal)) = stepped old new owner (action.Freeze least (Err refusal)) standing m in
    has-word refusal (λ ops is. absurd (subst (λ (r : Refusal). Needs false steps.machine (action.Freeze least (Err r))) is steps.needs))

pub page-final : (old new : StoreState) (owner : ℕ) (job : OwnedJob) (refusal : Refusal) → IsStanding old → Makes old new owner (action.JobWrite job (Err refusal)) → word_of refusal ≢ None
page-final old new owner job refusal standing m =
    let steps : Steps old new (action.JobWrite job (Err refusal)) = stepped old new owner (action.JobWrite job (Err refusal)) standing m in
    has-word refusal (λ ops is. absurd (subst (λ (r : Refusal). Needs false steps.machine (action.JobWrite job (Err r))) is steps.needs).1)

pub install-final : (old new : StoreState) (owner : ℕ) (job : OwnedJob) (refusal : Refusal) → IsStanding old → Makes old new owner (action.Install job (Err refusal)) → word_of refusal ≢ None
install-final old new owner job refusal standing m =
    let steps : Steps old new (action.Install job (Err refusal)) = stepped old new owner (action.Install job (Err refusal)) standing m in
    has-word refusal (λ ops is. absurd (subst (λ (r : Refusal). Needs false steps.machine (action.Install job (Err r))) is steps.needs).1)

-- a page or an install that was refused leaves a store that is stopped
pub page-stops : (old new : StoreState) (owner : ℕ) (job : OwnedJob) (refusal : Refusal) → IsStanding old → Makes old new owner (action.JobWrite job (Err refusal)) → new.stopped ≢ None
page-stops old new owner job refusal standing m =
    let steps : Steps old new (action.JobWrite job (Err refusal)) = stepped old new owner (action.JobWrite job (Err refusal)) standing m in
    by_refusal refusal steps
  where
    by_refusal : (r : Refusal) → Steps old new (action.JobWrite job (Err r)) → new.stopped ≢ None
    by_refusal Fault steps = stopped-now old new (action.JobWrite job (Err Fault)) steps steps.stops
    by_refusal (Stopped faults) steps = stopped-still old new (action.JobWrite job (Err (Stopped faults))) steps (λ going. let no : ◌≡◌ {A = Option ℕ} (Some faults) None = sym steps.needs.1 ∙ sym steps.has.stopped ∙ going in absurd cc)
    by_refusal (Full need longest) steps = absurd steps.needs.1
    by_refusal (Again ops) steps = absurd steps.needs.1
    by_refusal NoIndex steps = absurd steps.needs.1
    by_refusal (Damaged page) steps = absurd steps.needs.1
    by_refusal OutOfMemory steps = absurd steps.needs.1

pub install-stops : (old new : StoreState) (owner : ℕ) (job : OwnedJob) (refusal : Refusal) → IsStanding old → Makes old new owner (action.Install job (Err refusal)) → new.stopped ≢ None
install-stops old new owner job refusal standing m =
    let steps : Steps old new (action.Install job (Err refusal)) = stepped old new owner (action.Install job (Err refusal)) standing m in
    by_refusal refusal steps
  where
    by_refusal : (r : Refusal) → Steps old new (action.Install job (Err r)) → new.stopped ≢ None
    by_refusal Fault steps = stopped-now old new (action.Install job (Err Fault)) steps steps.stops
    by_refusal (Stopped faults) steps = stopped-still old new (action.Install job (Err (Stopped faults))) steps (λ going. let no : ◌≡◌ {A = Option ℕ} (Some faults) None = sym steps.needs.1 ∙ sym steps.has.stopped ∙ going in absurd cc)
    by_refusal (Full need longest) steps = absurd steps.needs.1
    by_refusal (Again ops) steps = absurd steps.needs.1
    by_refusal NoIndex steps = absurd steps.needs.1
    by_refusal (Damaged page) steps = absurd steps.needs.1
    by_refusal OutOfMemory steps = absurd steps.needs.1

-- a write may have to be made again only where as many wait as may
pub write-final : (old new : StoreState) (owner : ℕ) (op : LogOp) (refusal : Refusal) → IsStanding old → Makes old new owner (action.Write op (Err refusal)) → old.log.records < MOST_RECORDS → word_of refusal ≢ None
write-final old new owner op refusal standing m few =
    let steps : Steps old new (action.Write op (Err refusal)) = stepped old new owner (action.Write op (Err refusal)) standing m in
    has-word refusal (λ ops is.
    let needs : Needs false steps.machine (action.Write op (Err (Again ops))) = subst (λ (r : Refusal). Needs false steps.machine (action.Write op (Err r))) is steps.needs in
    absurd (omega (arith, few, needs.2, ap (λ (l : Log). l.records) steps.has.log)))

pub get-final : (old new : StoreState) (owner key : ℕ) (refusal : Refusal) → IsStanding old → Makes old new owner (action.Get key (Err refusal)) → word_of refusal ≢ None
get-final old new owner key refusal standing m =
    let steps : Steps old new (action.Get key (Err refusal)) = stepped old new owner (action.Get key (Err refusal)) standing m in
    has-word refusal (λ ops is. absurd (subst (λ (r : Refusal). Needs false steps.machine (action.Get key (Err r))) is steps.needs))

pub region-final : (old new : StoreState) (owner : ℕ) (kind : _) (rect : _) (refusal : Refusal) → IsStanding old → Makes old new owner (action.Region kind rect (Err refusal)) → word_of refusal ≢ None
region-final old new owner kind rect refusal standing m =
    let steps : Steps old new (action.Region kind rect (Err refusal)) = stepped old new owner (action.Region kind rect (Err refusal)) standing m in
    has-word refusal (λ ops is. absurd (subst (λ (r : Refusal). Needs false steps.machine (action.Region kind rect (Err r))) is steps.needs))

-- where no list waits and no write is only in memory, the components have them all
pub placed-all : (s : StoreState) → IsReady s → s.lists.frozen ≡ None → s.log.records < 1 → s.log.next_lsn - 1 ≤ placed_up_to s.lists.components
placed-all s ready none few =
    let cut : s.lists.cut ≡ placed_up_to s.lists.components = subst (λ (f : Option _). IsCut f (placed_up_to s.lists.components) s.lists.cut) none ready.lists.is_cut in
    omega (arith, few, cut, ready.numbered.next)

-- a refusal with a word, and a write that was refused so
pub named-final : (refusal : Refusal) (word : Why) → word_of refusal ≡ Some word → word_of refusal ≢ None
named-final refusal word is none = absurd (let no : ◌≡◌ {A = Option Why} (Some word) None = sym is ∙ none in cc)

pub own-write : (op : LogOp) (refusal : Refusal) → word_of refusal ≢ None → is_upkeep (action.Write op (Err refusal)) ≡ false
own-write op Fault final = refl
own-write op (Stopped faults) final = refl
own-write op (Full need longest) final = refl
own-write op (Again ops) final = absurd (final refl)
own-write op NoIndex final = refl
own-write op (Damaged page) final = refl
own-write op OutOfMemory final = refl

pub again-as : (a b : StoreState) (owner : ℕ) (op : LogOp) (one other : Refusal) → one ≡ other → Makes a b owner (action.Write op (Err one)) → Makes a b owner (action.Write op (Err other))
again-as a b owner op one other same m = subst (λ (r : Refusal). Makes a b owner (action.Write op (Err r))) same m
