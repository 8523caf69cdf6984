-- The private steps of a run: one lane's outcomes, what they print, and what a run has while all commands are the
-- setup. No public contract needs this file.
use Rattle.std.specs.Prelude.{◌≡◌, ℕ, ◌+◌, ◌||◌, List, [], ◌∷◌, ◌++◌, Contains}
use Rattle.table_model.specs.Commands.{Command, Outcome, answered, quiet, refused}
use Rattle.table_model.specs.declared.Why.{Why}
use Rattle.table_model.specs.Phases.{Phases}
use Rattle.table_model.specs.Record.{OneEach, Rises, seqs, refused_words}
use Rattle.table_model.specs.Text.{answer_text, refused_text}
use Rattle.store_machine.specs.Commands.{DoesAll, words}
use Rattle.store_machine.specs.Standing.{StoreState, StandsSince}
use Rattle.dev_model.specs.Story.{DeviceState}
use Rattle.store_machine.specs.Calls.{IsReady}
use Rattle.store_machine.specs.declared.events.Event.{Event}
use Rattle.store_commands.specs.Commands.{Made}
use Rattle.spatial_run.specs.declared.outcomes.Refusals.{Refusals}
use Rattle.spatial_run.specs.Refused.{has_status, refusals_by}
use Rattle.spatial_run.specs.Endings.{Ending, ran}

-- the store was opened on this device
pub record OpenedOn (device : DeviceState) (opened : StoreState) : Type 0 where
  pub since : StandsSince device opened []
  pub ready : IsReady opened
  pub pages : opened.device.pages ≡ device.pages

-- commands made their events, one after another, this became of them, and for these causes steps were refused
pub record MadeAll (old new : StoreState) (commands : List Command) (outcomes : List Outcome) (f : Refusals) : Type 0 where
  pub events : List Event
  pub made : Made old new 0 events
  pub does : DoesAll commands outcomes events
  pub told : (word : Why) → Contains (refused_words outcomes) word → Contains (words events) word
  pub refused_for : f ≡ refusals_by (refused_words outcomes) (words events)

-- with a command more, and the words with which it was refused
abbrev pub with_command : Refusals → List Why → Refusals
with_command f command = record {
  damaged = f.damaged || has_status 6 command;
  device = f.device || has_status 5 command;
  full = f.full || has_status 7 command;
  no_index = f.no_index || has_status 9 command;
  memory = f.memory || has_status 8 command;
}

-- with the upkeep behind it
abbrev pub with_upkeep : Refusals → List Why → Refusals
with_upkeep f upkeep = record {
  damaged = f.damaged || has_status 6 upkeep;
  device = f.device || has_status 5 upkeep;
  full = f.full;
  no_index = f.no_index;
  memory = f.memory || has_status 8 upkeep;
}

-- what an outcome prints as an answer, the next place, and what it prints as a refusal
abbrev pub answered_part : ℕ → Outcome → List ℕ
answered_part place (answered seq reply) = answer_text place 0 reply
answered_part place quiet = []
answered_part place (refused why) = []

abbrev pub place_after : ℕ → Outcome → ℕ
place_after place (answered seq reply) = place + 1
place_after place quiet = place
place_after place (refused why) = place

abbrev pub refused_part : Outcome → List ℕ
refused_part (answered seq reply) = []
refused_part quiet = []
refused_part (refused why) = refused_text 0 why

-- the answered ones, from a place on
abbrev pub answers_text : ℕ → List Outcome → List ℕ
answers_text place [] = []
answers_text place (o ∷ os) = answered_part place o ++ answers_text (place_after place o) os

-- until lanes come
abbrev pub IsSetupAlone : {X : Type 0} → Phases X → Type 0
IsSetupAlone s = (s.lanes ≡ []) × (s.after ≡ [])

-- an ending whose text is that of the setup's outcomes alone
abbrev pub IsPlain : Ending → Type 0
IsPlain (ran s r f) = IsSetupAlone s × IsSetupAlone r × OneEach s.setup r.setup × Rises (seqs r.setup)
IsPlain other = Unit {0}
