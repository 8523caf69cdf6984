-- Which commands events are, and what became of them. A command is carried out by events one after another: its own one, which
-- the table answers, and upkeep.
use Rattle.std.specs.Prelude.{◌≡◌, ◌⊎◌, ℕ, ◌≤◌, Bool, true, false, if◌then◌else◌, List, [], ◌∷◌, ◌++◌, Contains, Option, Some, None, Result, Ok, Err}
use Rattle.std.specs.List.{flat_map}
use Rattle.std.specs.Option.{option_map, option_to_list}
use Rattle.geo_base.specs.declared.points.Point.{Point}
use Rattle.table_model.specs.Table.{place_of}
use Rattle.table_model.specs.Commands.{TableCommand, write, get, count, region, Command, on_table, flush, WriteReply, wrote, got, counted, rows, Outcome, answered, quiet, refused}
use Rattle.table_model.specs.Answers.{put_reply, del_reply}
use Rattle.table_model.specs.declared.Why.{Why}
use Rattle.table_model.specs.declared.Why.TheVariants as why
use Rattle.wal_log.specs.declared.records.LogOp.{LogOp}
use Rattle.wal_log.specs.declared.records.LogOp.TheVariants.{Put, Del}
use Rattle.component_image.specs.Replayed.{write_of}
use Rattle.store_machine.specs.Outcomes.{Group}
use Rattle.store_machine.specs.Machine.{group_of}
use Rattle.store_machine.specs.Needs.{place_in}
use Rattle.store_machine.specs.declared.events.Wrote.{Wrote}
use Rattle.store_machine.specs.declared.events.Got.{Got}
use Rattle.store_machine.specs.declared.events.Look.{Look}
use Rattle.store_machine.specs.declared.events.Found.{Found}
use Rattle.store_machine.specs.declared.events.Refusal.{Refusal}
use Rattle.store_machine.specs.declared.events.Refusal.TheVariants.{Fault, Stopped, Full, Again, NoIndex, Damaged, OutOfMemory}
use Rattle.store_machine.specs.declared.events.Action.{Action}
use Rattle.store_machine.specs.declared.events.Action.TheVariants as action
use Rattle.store_machine.specs.declared.events.Event.{Event}

-- Upkeep: what a store tells about itself, the steps of a flush, and a write that is to be made again after them.
abbrev pub is_upkeep : Action → Bool
is_upkeep (action.Write op (Err (Again ops))) = true
is_upkeep (action.Look look) = true
is_upkeep (action.Freeze least answer) = true
is_upkeep (action.Begin answer) = true
is_upkeep (action.JobWrite own answer) = true
is_upkeep (action.Install own answer) = true
is_upkeep other = false

-- the events of a command without its upkeep
abbrev pub own : List Event → List Event
own [] = []
own (e ∷ es) = if is_upkeep e.action then own es else e ∷ own es

-- The word of a refusal. One after which a call may be made again has none: no command ends so.
abbrev pub word_of : Refusal → Option Why
word_of Fault = Some why.Fault
word_of (Stopped faults) = Some why.Stopped
word_of (Full need longest) = Some why.Full
word_of (Again ops) = None
word_of NoIndex = Some why.NoIndex
word_of (Damaged page) = Some why.Damaged
word_of OutOfMemory = Some why.Memory

-- the refusal that an event answered
abbrev pub refusal_of : Action → Option Refusal
refusal_of (action.Write op (Err refusal)) = Some refusal
refusal_of (action.Get key (Err refusal)) = Some refusal
refusal_of (action.Region kind rect (Err refusal)) = Some refusal
refusal_of (action.Freeze least (Err refusal)) = Some refusal
refusal_of (action.Begin (Err refusal)) = Some refusal
refusal_of (action.JobWrite own (Err refusal)) = Some refusal
refusal_of (action.Install own (Err refusal)) = Some refusal
refusal_of other = None

-- the words of the refusals that events answered
abbrev pub words_of : Option Refusal → List Why
words_of None = []
words_of (Some refusal) = option_to_list (word_of refusal)

abbrev pub words : List Event → List Why
words es = flat_map (λ e. words_of (refusal_of e.action)) es

-- what a write replies, by what stood at its key
abbrev pub wrote_reply : LogOp → Option (Point × List ℕ) → WriteReply
wrote_reply (Put row) old = put_reply (option_map place_in old)
wrote_reply (Del key) old = del_reply (option_map place_in old)

-- what became of a command, by what is answered to it
abbrev pub write_outcome : LogOp → Result Wrote Why → Outcome
write_outcome op (Ok answer) = answered answer.seq (wrote (wrote_reply op answer.old))
write_outcome op (Err word) = refused word

abbrev pub get_outcome : Result Got Why → Outcome
get_outcome (Ok answer) = answered answer.seq (got (option_map place_of answer.row))
get_outcome (Err word) = refused word

abbrev pub region_outcome : Result Found Why → Outcome
region_outcome (Ok answer) = answered answer.seq (rows answer.rows)
region_outcome (Err word) = refused word

-- an answer of the store is that to the command: the same, or a refusal by its word
abbrev pub IsSaid : {X : Type 0} → Result X Refusal → Result X Why → Type 0
IsSaid (Ok x) answer = answer ≡ Ok x
IsSaid (Err refusal) answer = (word : Why) × (word_of refusal ≡ Some word) × (answer ≡ Err word)

-- the event is that command, and this became of it
abbrev pub IsCall : Action → TableCommand → Outcome → Type 0
IsCall (action.Write op result) c o = (c ≡ write (write_of op)) × ((answer : Result Wrote Why) × IsSaid result answer × (o ≡ write_outcome op answer))
IsCall (action.Get key result) c o = (c ≡ get key) × ((answer : Result Got Why) × IsSaid result answer × (o ≡ get_outcome answer))
IsCall (action.Count seq n) c o = (c ≡ count) × (o ≡ answered seq (counted n))
IsCall (action.Region kind rect result) c o = (c ≡ region kind rect) × ((answer : Result Found Why) × IsSaid result answer × (o ≡ region_outcome answer))
IsCall other c o = ⊥

-- beside upkeep the command made one event
pub record DoesOne (c : TableCommand) (o : Outcome) (es : List Event) : Type 0 where
  pub event : Event
  pub only : own es ≡ event ∷ []
  pub call : IsCall event.action c o

-- what the store told about itself in these events
abbrev pub look_in : Action → List Look
look_in (action.Look look) = look ∷ []
look_in other = []

abbrev pub looks : List Event → List Look
looks es = flat_map (λ e. look_in e.action) es

-- Upkeep alone, in which the writes that were made before are placed: what the store told first about itself was the number of the last
-- write, and then or later it told that all indexes have the writes up to that one on disk.
pub record IsFlush (es : List Event) : Type 0 where
  pub none : own es ≡ []
  pub first : Look
  pub later : List Look
  pub looks_are : looks es ≡ first ∷ later
  pub told : Look
  pub is_told : Contains (first ∷ later) told
  pub placed : first.lsn ≤ told.placed

-- upkeep alone, whose last event was refused with this word
pub record IsRefusedFlush (word : Why) (es : List Event) : Type 0 where
  pub none : own es ≡ []
  pub before : List Event
  pub last : Event
  pub are : es ≡ before ++ last ∷ []
  pub refused_is : words_of (refusal_of last.action) ≡ word ∷ []

-- The command is a write that is to be made again after some upkeep, and the last event, a step of this upkeep, was refused. So
-- the write was not made.
pub record UpkeepRefused (c : TableCommand) (o : Outcome) (es : List Event) : Type 0 where
  pub op : LogOp
  pub command_is : c ≡ write (write_of op)
  pub word : Why
  pub outcome_is : o ≡ refused word
  pub upkeep : IsRefusedFlush word es
  pub again : Event
  pub is_before : Contains upkeep.before again
  pub ops : ℕ
  pub again_is : again.action ≡ action.Write op (Err (Again ops))

-- the events are this command, and this became of it
abbrev pub Does : Command → Outcome → List Event → Type 0
Does (on_table c) o es = DoesOne c o es ⊎ UpkeepRefused c o es
Does flush (answered seq reply) es = ⊥
Does flush quiet es = IsFlush es
Does flush (refused word) es = IsRefusedFlush word es

-- the events are these commands, one after another, and this became of them
abbrev pub DoesAll : List Command → List Outcome → List Event → Type 0
DoesAll [] [] es = es ≡ []
DoesAll (c ∷ cs) (o ∷ os) es = (its : List Event) × (rest : List Event) × (es ≡ its ++ rest) × Does c o its × DoesAll cs os rest
DoesAll cs os es = ⊥

-- the group that was being logged when a write or a sync of the device failed, if one was
abbrev pub stopped_group : Option Group → List Event → Option Group
stopped_group before [] = before
stopped_group before (e ∷ es) = stopped_group (if e.write_failed then group_of e.action else before) es
