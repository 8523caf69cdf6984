-- What a command of an owner does to a store.
use Rattle.std.specs.Prelude.{◌≡◌, ◌≢◌, ◌⊎◌, ℕ, ◌<◌, ◌≤◌, List, [], ◌∷◌, ◌++◌, Option, None, Some, All, Result, Ok, Err}
use Rattle.std.specs.Option.{option_to_list}
use Rattle.component_image.specs.Replayed.{write_of}
use Rattle.table_model.specs.Commands.{TableCommand, write, Command, Outcome, quiet, refused}
use Rattle.table_model.specs.Record.{refused_word}
use Rattle.table_model.specs.declared.Why.{Why}
use Rattle.wal_log.specs.declared.records.LogOp.{LogOp}
use Rattle.store_core.specs.declared.region.RegionRows.{RegionRows}
use Rattle.store_machine.specs.Commands.{own, word_of, refusal_of, words, write_outcome, IsCall, IsRefusedFlush, Does}
use Rattle.store_machine.specs.Calls.{IsReady, IsStanding, Adds}
use Rattle.store_machine.specs.Standing.{StoreState}
use Rattle.store_machine.specs.declared.events.Action.TheVariants as action
use Rattle.store_machine.specs.declared.events.Event.{Event}
use Rattle.store_machine.specs.declared.events.Found.{Found}
use Rattle.store_machine.specs.declared.events.Look.{Look}
use Rattle.store_machine.specs.declared.events.Refusal.{Refusal}
use Rattle.store_machine.specs.declared.events.Refusal.TheVariants.{Again}
use Rattle.store_machine.specs.declared.events.Wrote.{Wrote}

-- What a store is between commands: it stands for the events since its opening, and no job is left, unless the device stopped it.
pub record IsServing (store : StoreState) : Type 0 where
  pub ready : IsReady store
  pub standing : IsStanding store
  pub idle : store.stopped ≡ None → store.lists.job ≡ None

-- what became of a flush, by what is answered to it
abbrev pub flush_outcome : Result (Unit {0}) Why → Outcome
flush_outcome (Ok done) = quiet
flush_outcome (Err word) = refused word

-- these events were made, all by this owner
pub record Made (old new : StoreState) (owner : ℕ) (events : List Event) : Type 0 where
  pub adds : Adds old new events
  pub owned : All (λ e. e.owner ≡ Some owner) events

-- The events of a command were made by this owner, and this became of it. The words with which they were refused are that of its
-- outcome, and that of the upkeep behind it.
pub record HasDone (old new : StoreState) (owner : ℕ) (command : Command) (outcome : Outcome) (upkeep : Option Why) : Type 0 where
  pub events : List Event
  pub made : Made old new owner events
  pub does : Does command outcome events
  pub words_are : words events ≡ refused_word outcome ++ option_to_list upkeep

-- what a region answered
abbrev pub rows_found : Result RegionRows Why → Result Found Why
rows_found (Ok answer) = Ok (record { seq = answer.seq; rows = answer.rows.items })
rows_found (Err word) = Err word

-- the command was one event, without any upkeep
pub record IsOneEvent (old new : StoreState) (owner : ℕ) (command : TableCommand) (outcome : Outcome) : Type 0 where
  pub event : Event
  pub made : Made old new owner (event ∷ [])
  pub call : IsCall event.action command outcome

-- the store was asked what it has to tell, and nothing else was done
pub record OnlyLooks (old new : StoreState) (owner : ℕ) : Type 0 where
  pub event : Event
  pub made : Made old new owner (event ∷ [])
  pub look : Look
  pub is : event.action ≡ action.Look look

-- a refusal after which the call isn't made again
abbrev pub IsFinal : Refusal → Type 0
IsFinal refusal = word_of refusal ≢ None

-- the last of these events answered this refusal, after which no call is made again
pub record EndsWith (refusal : Refusal) (events : List Event) : Type 0 where
  pub before : List Event
  pub last : Event
  pub are : events ≡ before ++ last ∷ []
  pub refused : refusal_of last.action ≡ Some refusal
  pub final : IsFinal refusal

-- the last of these events is the write, and this became of it; before it there is upkeep alone
pub record EndsInWrite (op : LogOp) (result : Result Wrote Why) (events : List Event) : Type 0 where
  pub upkeep : List Event
  pub none : own upkeep ≡ []
  pub event : Event
  pub are : events ≡ upkeep ++ event ∷ []
  pub call : IsCall event.action (write (write_of op)) (write_outcome op result)

-- after upkeep the write was made, or that upkeep was refused
abbrev pub EndsAgain : LogOp → Result Wrote Why → List Event → Type 0
EndsAgain op result events = EndsInWrite op result events ⊎ ((word : Why) × (result ≡ Err word) × IsRefusedFlush word events)

-- A write that was tried: this became of it at once, or so many writes waited that it had to be made again.
pub record TriesAtOnce (op : LogOp) (result : Result Wrote Why) (events : List Event) : Type 0 where
  pub event : Event
  pub are : events ≡ event ∷ []
  pub call : IsCall event.action (write (write_of op)) (write_outcome op result)

pub record TriesAgain (op : LogOp) (result : Result Wrote Why) (events : List Event) : Type 0 where
  pub event : Event
  pub ops : ℕ
  pub is : event.action ≡ action.Write op (Err (Again ops))
  pub later : List Event
  pub are : events ≡ event ∷ later
  pub ends : EndsAgain op result later

abbrev pub Tries : LogOp → Result Wrote Why → List Event → Type 0
Tries op result events = TriesAtOnce op result events ⊎ TriesAgain op result events

-- Behind a write that leaves so many writes or more there is upkeep: then no list waits and fewer writes do, or a step of the upkeep
-- was refused. Behind one that leaves fewer there is nothing.
abbrev pub KeepsUpBehind : (flush_at : ℕ) → (new : StoreState) → (ops : ℕ) → (behind : List Event) → Type 0
KeepsUpBehind flush_at new ops behind =
    ((ops < flush_at) × (behind ≡ []))
    ⊎ ((flush_at ≤ ops) × (own behind ≡ []) × (((new.lists.frozen ≡ None) × (new.log.records < flush_at)) ⊎ ((refusal : Refusal) × EndsWith refusal behind)))

-- and behind one that was refused there is nothing
abbrev pub FollowsUp : (flush_at : ℕ) → (new : StoreState) → Result Wrote Why → (behind : List Event) → Type 0
FollowsUp flush_at new (Ok wrote) behind = KeepsUpBehind flush_at new wrote.ops behind
FollowsUp flush_at new (Err word) behind = behind ≡ []

-- a write, with its upkeep
pub record WritesKept (flush_at : ℕ) (old new : StoreState) (owner : ℕ) (op : LogOp) (result : Result Wrote Why) : Type 0 where
  pub tried : List Event
  pub behind : List Event
  pub made : Made old new owner (tried ++ behind)
  pub tries : Tries op result tried
  pub follows : FollowsUp flush_at new result behind
