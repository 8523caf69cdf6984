-- What an event says of a store that stands for events before it: its numbers and lists after it, whatever its device tells. No public
-- contract needs these laws.
use Rattle.std.proofs.Common.{◌≡◌, ℕ, Bool, false, List, [], ◌∷◌, ◌++◌, Option, Some, sym, ◌∙◌, ap, subst, if◌then◌else◌}
use Rattle.store_machine.specs.Machine.{Machine, Opening, does, at_opening, after_event, after_all}
use Rattle.store_machine.specs.Needs.{Needs}
use Rattle.store_machine.specs.Runs.{IsRun, Stops}
use Rattle.store_machine.specs.Calls.{IsStanding, Adds, Makes}
use Rattle.store_machine.specs.Standing.{StoreState, Has, Stands}
use Rattle.store_machine.specs.Outcomes.{Group}
use Rattle.store_machine.specs.Laws.Histories.{IsRun-second}
use Rattle.store_machine.specs.Laws.Steps.{after_all-append, does-leaves}
use Rattle.store_machine.specs.declared.events.Action.{Action}
use Rattle.store_machine.specs.declared.events.Event.{Event}

-- no event stops a machine by what it does
pub going-on : (a : Action) (m : Machine) → (does a m).stopped ≡ m.stopped
going-on a m = ap (λ (u : Option ℕ × Option Group × ℕ). u.0) (does-leaves a m)

-- an event where the store stands
pub record Steps (old new : StoreState) (a : Action) : Type 0 where
  pub machine : Machine
  pub has : Has old machine
  pub needs : Needs false machine a
  pub failed : Bool
  pub stops : Stops a failed
  pub stopped : new.stopped ≡ (if failed then Some new.device.faults else old.stopped)
  pub lists : new.lists ≡ (does a machine).lists
  pub log : new.log ≡ (does a machine).log

pub stepped : (old new : StoreState) (owner : ℕ) (a : Action) → IsStanding old → Makes old new owner a → Steps old new a
stepped old new owner a standing makes =
    let o : Opening = standing.opening in
    let e : Event = makes.event in
    let m : Machine = after_all (at_opening o) standing.events in
    let next : Stands false o new (standing.events ++ e ∷ []) = makes.adds false o standing.events standing.stands in
    let run : IsRun false m (e ∷ []) = IsRun-second false (at_opening o) standing.events (e ∷ []) next.run in
    let has : Has new (after_event m e) = subst (Has new) (after_all-append (at_opening o) standing.events (e ∷ [])) next.has in
    record {
      machine = m;
      has = standing.stands.has;
      needs = subst (Needs false m) makes.is.action_is run.0.needs;
      failed = e.write_failed;
      stops = subst (λ (x : Action). Stops x e.write_failed) makes.is.action_is run.0.stops;
      stopped =
          has.stopped
          ∙ ap (λ (x : Option ℕ). if e.write_failed then Some e.faults_after else x) (going-on e.action m ∙ sym standing.stands.has.stopped)
          ∙ ap (λ (n : ℕ). if e.write_failed then Some n else old.stopped) makes.is.after_it;
      lists = has.lists ∙ ap (λ (x : Action). (does x m).lists) makes.is.action_is;
      log = has.log ∙ ap (λ (x : Action). (does x m).log) makes.is.action_is;
    }

-- a store goes on standing
pub standing-adds : (old new : StoreState) (events : List Event) → IsStanding old → Adds old new events → IsStanding new
standing-adds old new events standing adds = record { opening = standing.opening; events = standing.events ++ events; stands = adds false standing.opening standing.events standing.stands }
