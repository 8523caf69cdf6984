-- What the calls of a store need and promise.
use Rattle.std.specs.Prelude.{◌≡◌, ℕ, ◌≤◌, Bool, false, List, [], ◌∷◌, ◌++◌, Some}
use Rattle.wal_log.specs.Counted.{IsCounted}
use Rattle.format_numbers.specs.declared.TheConstants.{FIRST_DATA_PAGE}
use Rattle.store_state.specs.EveryList.{IsLists}
use Rattle.store_state.specs.Numbered.{IsNumbered}
use Rattle.store_machine.specs.Machine.{Opening}
use Rattle.store_machine.specs.Standing.{StoreState, Stands}
use Rattle.dev_model.specs.Story.{DeviceState}
use Rattle.store_machine.specs.declared.events.Action.{Action}
use Rattle.store_machine.specs.declared.events.Event.{Event}

-- what each call needs of a store, and leaves
pub record IsReady (store : StoreState) : Type 0 where
  pub pages : FIRST_DATA_PAGE ≤ store.device.pages
  pub space : store.lists.space.pages ≡ store.device.pages
  pub lists : IsLists store.lists
  pub numbered : IsNumbered store.log store.lists
  pub counted : IsCounted store.log

-- the store stands for some events since some opening, whatever its device tells
pub record IsStanding (store : StoreState) : Type 0 where
  pub opening : Opening
  pub events : List Event
  pub stands : Stands false opening store events

-- whatever the store stood for, known or not, it stands for that followed by these events
abbrev pub Adds : StoreState → StoreState → List Event → Type 0
Adds old new events = (known : Bool) (o : Opening) (before : List Event) → Stands known o old before → Stands known o new (before ++ events)

-- an event of this call, with the counts of faults and the clock at its ends
pub record IsEventOf (old new : DeviceState) (owner : ℕ) (action : Action) (e : Event) : Type 0 where
  pub owner_is : e.owner ≡ Some owner
  pub action_is : e.action ≡ action
  pub before_it : e.faults_before ≡ old.faults
  pub after_it : e.faults_after ≡ new.faults
  pub time : e.clock_after ≡ new.clock

-- what every call of a store promises: one event
pub record Makes (old new : StoreState) (owner : ℕ) (action : Action) : Type 0 where
  pub event : Event
  pub is : IsEventOf old.device new.device owner action event
  pub adds : Adds old new (event ∷ [])
