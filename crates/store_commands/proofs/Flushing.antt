-- What each step of a flush leaves of a store.
use Rattle.std.proofs.Common.{◌≡◌, ⊎_elim, ℕ, ◌-◌, ◌<◌, ◌≤◌, Bool, true, false, ◌++◌, Option, Some, None, Ok, Err, Result, refl, sym, ◌∙◌, ap, subst, arith}
use Rattle.build_job.specs.Jobs.{Job}
use Rattle.wal_log.specs.declared.log.Log.{Log}
use Rattle.store_state.specs.Lists.{Lists, placed_up_to}
use Rattle.store_core.specs.Begun.{begin_of}
use Rattle.store_machine.specs.Machine.{does}
use Rattle.store_machine.specs.Calls.{IsReady, IsStanding, Makes}
use Rattle.store_machine.specs.Standing.{StoreState}
use Rattle.store_machine.specs.Laws.Stepping.{Steps, stepped}
use Rattle.store_machine.specs.declared.events.Action.{Action}
use Rattle.store_machine.specs.declared.events.Action.TheVariants as action
use Rattle.store_machine.specs.declared.events.Look.{Look}
use Rattle.store_machine.specs.declared.events.OwnedJob.{OwnedJob}
use Rattle.store_machine.specs.declared.events.Refusal.{Refusal}
use Rattle.store_commands.specs.Commands.{IsServing}
use Rattle.store_commands.specs.Upkeep.{KeepsUp, HasWritten, HasNoFrozen, HasFlushed}
use Rattle.store_commands.proofs.Serving.{standing-after, page-final, page-stops, install-final, install-stops, begin-final, freeze-final, placed-all}
use Rattle.store_commands.proofs.Keeping.{keeps-one, keeps-refused, keeps-then}

-- an event that leaves the log
log-stays : (old new : StoreState) (owner : ℕ) (a : Action) → IsStanding old → Makes old new owner a → ((m : _) → (does a m).log ≡ m.log) → new.log ≡ old.log
log-stays old new owner a standing m stays =
    let steps : Steps old new a = stepped old new owner a standing m in
    steps.log ∙ stays steps.machine ∙ sym steps.has.log

-- a page of the job that the owner has
pub page-log : (old new : StoreState) (owner : ℕ) (owned : OwnedJob) (result : Result (Unit {0}) Refusal) → IsStanding old → Makes old new owner (action.JobWrite owned result) → new.log ≡ old.log
page-log old new owner owned (Ok x) standing m = log-stays old new owner (action.JobWrite owned (Ok x)) standing m (λ n. refl)
page-log old new owner owned (Err refusal) standing m = log-stays old new owner (action.JobWrite owned (Err refusal)) standing m (λ n. refl)

pub page-next : (a b c : StoreState) (owner : ℕ) (owned : OwnedJob) → KeepsUp a b owner (Ok tt) → Makes b c owner (action.JobWrite owned (Ok tt)) → KeepsUp a c owner (Ok tt)
page-next a b c owner owned keeps m = keeps-then a b c owner (Ok tt) keeps (keeps-one b c owner (action.JobWrite owned (Ok tt)) m refl refl)

pub page-refused : (a b c : StoreState) (owner : ℕ) (owned : OwnedJob) (refusal : Refusal) → KeepsUp a b owner (Ok tt) → IsStanding b → Makes b c owner (action.JobWrite owned (Err refusal)) → KeepsUp a c owner (Err refusal)
page-refused a b c owner owned refusal keeps standing m =
    keeps-then a b c owner (Err refusal) keeps (keeps-refused b c owner (action.JobWrite owned (Err refusal)) refusal m refl refl (page-final b c owner owned refusal standing m))

pub page-failed : (a b c : StoreState) (owner : ℕ) (owned : OwnedJob) (job : Job) (refusal : Refusal) → b.log ≡ a.log → IsStanding b → Makes b c owner (action.JobWrite owned (Err refusal)) → HasWritten a c owner job (Err refusal)
page-failed a b c owner owned job refusal log standing m = record {
  log = page-log b c owner owned (Err refusal) standing m ∙ log;
  written = tt;
  stopped = page-stops b c owner owned refusal standing m;
}

-- the install
install-keeps : (b c : StoreState) (owner : ℕ) (owned : OwnedJob) (result : Result (Unit {0}) Refusal) → IsStanding b → Makes b c owner (action.Install owned result) → KeepsUp b c owner result
install-keeps b c owner owned (Ok x) standing m = keeps-one b c owner (action.Install owned (Ok tt)) m refl refl
install-keeps b c owner owned (Err refusal) standing m = keeps-refused b c owner (action.Install owned (Err refusal)) refusal m refl refl (install-final b c owner owned refusal standing m)

pub install-then : (a b c : StoreState) (owner : ℕ) (owned : OwnedJob) (result : Result (Unit {0}) Refusal) → KeepsUp a b owner (Ok tt) → IsStanding b → Makes b c owner (action.Install owned result) → KeepsUp a c owner result
install-then a b c owner owned result keeps standing m = keeps-then a b c owner result keeps (install-keeps b c owner owned result standing m)

pub install-serving : (b c : StoreState) (owner : ℕ) (owned : OwnedJob) (result : Result (Unit {0}) Refusal) → IsStanding b → Makes b c owner (action.Install owned result) → IsReady c → IsServing c
install-serving b c owner owned (Ok x) standing m ready =
    let steps : Steps b c (action.Install owned (Ok x)) = stepped b c owner (action.Install owned (Ok x)) standing m in
    record { ready = ready; standing = standing-after b c owner (action.Install owned (Ok x)) standing m; idle = λ going. ap (λ (l : Lists). l.job) steps.lists }
install-serving b c owner owned (Err refusal) standing m ready = record {
  ready = ready;
  standing = standing-after b c owner (action.Install owned (Err refusal)) standing m;
  idle = λ going. absurd (install-stops b c owner owned refusal standing m going);
}

pub install-none : (a b c : StoreState) (owner : ℕ) (owned : OwnedJob) (result : Result (Unit {0}) Refusal) → b.log ≡ a.log → IsStanding b → Makes b c owner (action.Install owned result) → HasNoFrozen a c result
install-none a b c owner owned (Ok x) log standing m =
    let steps : Steps b c (action.Install owned (Ok x)) = stepped b c owner (action.Install owned (Ok x)) standing m in
    record { log = log-stays b c owner (action.Install owned (Ok x)) standing m (λ n. refl) ∙ log; frozen = ap (λ (l : Lists). l.frozen) steps.lists }
install-none a b c owner owned (Err refusal) log standing m = record { log = log-stays b c owner (action.Install owned (Err refusal)) standing m (λ n. refl) ∙ log; frozen = tt }

-- pages that were refused leave a store that is stopped
pub pages-serving : (a b : StoreState) (owner : ℕ) (job : Job) (refusal : Refusal) → HasWritten a b owner job (Err refusal) → IsReady b → IsStanding b → IsServing b
pages-serving a b owner job refusal written ready standing = record { ready = ready; standing = standing; idle = λ going. absurd (written.stopped going) }

pub standing-keeps : (a b : StoreState) (owner : ℕ) (result : Result (Unit {0}) Refusal) → IsStanding a → KeepsUp a b owner result → IsStanding b
standing-keeps a b owner result standing keeps = record {
  opening = standing.opening;
  events = standing.events ++ keeps.events;
  stands = keeps.made.adds false standing.opening standing.events standing.stands;
}

-- an answer by its parts
pub begun : (a b : StoreState) (owner : ℕ) (x y : Option Job) → x ≡ y → Makes a b owner (begin_of owner (Ok x)) → Makes a b owner (begin_of owner (Ok y))
begun a b owner x y same m = subst (λ (z : Option Job). Makes a b owner (begin_of owner (Ok z))) same m

pub frozen-as : (a b : StoreState) (owner least : ℕ) (x y : Bool) → x ≡ y → Makes a b owner (action.Freeze least (Ok x)) → Makes a b owner (action.Freeze least (Ok y))
frozen-as a b owner least x y same m = subst (λ (z : Bool). Makes a b owner (action.Freeze least (Ok z))) same m

-- the begin of a job, and what follows it
pub begin-then : (a b c : StoreState) (owner : ℕ) (job : Job) (result : Result (Unit {0}) Refusal) → Makes a b owner (begin_of owner (Ok (Some job))) → KeepsUp b c owner result → KeepsUp a c owner result
begin-then a b c owner job result m keeps = keeps-then a b c owner result (keeps-one a b owner (begin_of owner (Ok (Some job))) m refl refl) keeps

pub begin-log : (a b : StoreState) (owner : ℕ) (job : Job) → IsStanding a → Makes a b owner (begin_of owner (Ok (Some job))) → b.log ≡ a.log
begin-log a b owner job standing m = log-stays a b owner (begin_of owner (Ok (Some job))) standing m (λ n. refl)

pub none-behind : (a b c : StoreState) (owner : ℕ) (job : Job) (result : Result (Unit {0}) Refusal) → IsStanding a → Makes a b owner (begin_of owner (Ok (Some job))) → HasNoFrozen b c result → HasNoFrozen a c result
none-behind a b c owner job result standing m behind = record { log = behind.log ∙ begin-log a b owner job standing m; frozen = behind.frozen }

pub begin-none : (a b : StoreState) (owner : ℕ) → IsStanding a → Makes a b owner (action.Begin (Ok None)) → HasNoFrozen a b (Ok tt)
begin-none a b owner standing m =
    let steps : Steps a b (action.Begin (Ok None)) = stepped a b owner (action.Begin (Ok None)) standing m in
    record { log = log-stays a b owner (action.Begin (Ok None)) standing m (λ n. refl); frozen = ap (λ (l : Lists). l.frozen) steps.lists ∙ steps.needs.1 }

pub begin-refused : (a b : StoreState) (owner : ℕ) (refusal : Refusal) → IsServing a → Makes a b owner (action.Begin (Err refusal)) → KeepsUp a b owner (Err refusal)
begin-refused a b owner refusal serving m = keeps-refused a b owner (action.Begin (Err refusal)) refusal m refl refl (begin-final a b owner refusal serving m)

pub begin-failed : (a b : StoreState) (owner : ℕ) (refusal : Refusal) → IsStanding a → Makes a b owner (action.Begin (Err refusal)) → HasNoFrozen a b (Err refusal)
begin-failed a b owner refusal standing m = record { log = log-stays a b owner (action.Begin (Err refusal)) standing m (λ n. refl); frozen = tt }

-- a freeze, and the flush of what it froze
pub freeze-then : (a b c : StoreState) (owner least : ℕ) (result : Result (Unit {0}) Refusal) → Makes a b owner (action.Freeze least (Ok true)) → KeepsUp b c owner result → KeepsUp a c owner result
freeze-then a b c owner least result m keeps = keeps-then a b c owner result (keeps-one a b owner (action.Freeze least (Ok true)) m refl refl) keeps

pub flushed-behind : (a b c : StoreState) (owner least : ℕ) (result : Result (Unit {0}) Refusal) → 1 ≤ least → IsStanding a → Makes a b owner (action.Freeze least (Ok true)) → HasNoFrozen b c result → HasFlushed a c least result
flushed-behind a b c owner least result some standing m behind =
    let steps : Steps a b (action.Freeze least (Ok true)) = stepped a b owner (action.Freeze least (Ok true)) standing m in
    let empty : b.log.records ≡ 0 = ap (λ (l : Log). l.records) steps.log in
    let next : b.log.next_lsn ≡ a.log.next_lsn = ap (λ (l : Log). l.next_lsn) steps.log ∙ ap (λ (l : Log). l.next_lsn) (sym steps.has.log) in
    by_result result behind (omega (arith, empty, ap (λ (l : Log). l.records) behind.log)) (ap (λ (l : Log). l.next_lsn) behind.log ∙ next)
  where
    by_result : (r : Result (Unit {0}) Refusal) → HasNoFrozen b c r → c.log.records < least → c.log.next_lsn ≡ a.log.next_lsn → HasFlushed a c least r
    by_result (Ok x) behind few next = record { next = next; frozen = behind.frozen; few = few }
    by_result (Err refusal) behind few next = record { next = next; frozen = tt; few = tt }

pub freeze-none : (a b : StoreState) (owner least : ℕ) → IsStanding a → a.lists.frozen ≡ None → Makes a b owner (action.Freeze least (Ok false)) → HasFlushed a b least (Ok tt)
freeze-none a b owner least standing none m =
    let steps : Steps a b (action.Freeze least (Ok false)) = stepped a b owner (action.Freeze least (Ok false)) standing m in
    let log : b.log ≡ a.log = log-stays a b owner (action.Freeze least (Ok false)) standing m (λ n. refl) in
    record {
      next = ap (λ (l : Log). l.next_lsn) log;
      frozen = ap (λ (l : Lists). l.frozen) steps.lists ∙ ap (λ (l : Lists). l.frozen) (sym steps.has.lists) ∙ none;
      few = ⊎_elim
          (λ few. omega (arith, few, ap (λ (l : Log). l.records) steps.log))
          (λ waits. absurd (waits (ap (λ (l : Lists). l.frozen) (sym steps.has.lists) ∙ none)))
          steps.needs.1;
    }

pub freeze-refused : (a b : StoreState) (owner least : ℕ) (refusal : Refusal) → IsStanding a → Makes a b owner (action.Freeze least (Err refusal)) → KeepsUp a b owner (Err refusal)
freeze-refused a b owner least refusal standing m = keeps-refused a b owner (action.Freeze least (Err refusal)) refusal m refl refl (freeze-final a b owner least refusal standing m)

pub freeze-failed : (a b : StoreState) (owner least : ℕ) (refusal : Refusal) → IsStanding a → Makes a b owner (action.Freeze least (Err refusal)) → HasFlushed a b least (Err refusal)
freeze-failed a b owner least refusal standing m = record { next = ap (λ (l : Log). l.next_lsn) (log-stays a b owner (action.Freeze least (Err refusal)) standing m (λ n. refl)); frozen = tt; few = tt }

-- a flush of what waits that was refused, and one of the active list behind it
pub frozen-failed : (a b : StoreState) (least : ℕ) (refusal : Refusal) → HasNoFrozen a b (Err refusal) → HasFlushed a b least (Err refusal)
frozen-failed a b least refusal none = record { next = ap (λ (l : Log). l.next_lsn) none.log; frozen = tt; few = tt }

pub both-flushed : (a b c : StoreState) (least : ℕ) (result : Result (Unit {0}) Refusal) → HasNoFrozen a b (Ok tt) → HasFlushed b c least result → HasFlushed a c least result
both-flushed a b c least result none flushed = record { next = flushed.next ∙ ap (λ (l : Log). l.next_lsn) none.log; frozen = flushed.frozen; few = flushed.few }

-- what a store told about itself before a flush, and behind it
pub flush-reached : (a b : StoreState) (owner : ℕ) (first told : Look) → IsServing a → IsServing b → Makes a a owner (action.Look first) → Makes b b owner (action.Look told) → HasFlushed a b 1 (Ok tt) → first.lsn ≤ told.placed
flush-reached a b owner first told before behind one other flushed =
    let early : Steps a a (action.Look first) = stepped a a owner (action.Look first) before.standing one in
    let late : Steps b b (action.Look told) = stepped b b owner (action.Look told) behind.standing other in
    let goal : first.lsn ≡ a.log.next_lsn - 1 = early.needs.lsn ∙ ap (λ (l : Log). l.next_lsn - 1) (sym early.has.log) in
    let placed : told.placed ≡ placed_up_to b.lists.components = late.needs.placed ∙ ap (λ (l : Lists). placed_up_to l.components) (sym late.has.lists) in
    omega (arith, goal, placed, flushed.next, placed-all b behind.ready flushed.frozen flushed.few)

-- a store all of whose writes are placed tells so
pub told-placed : (s : StoreState) (owner : ℕ) (look : Look) → IsServing s → Makes s s owner (action.Look look) → s.log.next_lsn - 1 ≤ placed_up_to s.lists.components → look.lsn ≤ look.placed
told-placed s owner look serving m all =
    let steps : Steps s s (action.Look look) = stepped s s owner (action.Look look) serving.standing m in
    let last : look.lsn ≡ s.log.next_lsn - 1 = steps.needs.lsn ∙ ap (λ (l : Log). l.next_lsn - 1) (sym steps.has.log) in
    let placed : look.placed ≡ placed_up_to s.lists.components = steps.needs.placed ∙ ap (λ (l : Lists). placed_up_to l.components) (sym steps.has.lists) in
    omega (arith, last, placed, all)
