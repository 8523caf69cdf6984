-- What the parts of upkeep promise each other. No public contract needs this file.
use Rattle.std.specs.Prelude.{◌≡◌, ◌≢◌, ℕ, ◌<◌, List, [], Option, Some, None, Result, Ok, Err, OnOk, OnErr}
use Rattle.std.specs.Option.{option_to_list}
use Rattle.build_job.specs.Jobs.{Job}
use Rattle.build_job.specs.Steps.{steps_left}
use Rattle.table_model.specs.Record.{refused_word}
use Rattle.table_model.specs.declared.Why.{Why}
use Rattle.wal_log.specs.declared.records.LogOp.{LogOp}
use Rattle.store_state.specs.OwnJob.{IsJobOf}
use Rattle.store_machine.specs.Commands.{own, words_of, words, write_outcome}
use Rattle.store_machine.specs.Standing.{StoreState}
use Rattle.store_machine.specs.declared.events.Event.{Event}
use Rattle.store_machine.specs.declared.events.Refusal.{Refusal}
use Rattle.store_machine.specs.declared.events.Wrote.{Wrote}
use Rattle.store_commands.specs.Commands.{Made, EndsWith, EndsAgain, Tries, KeepsUpBehind}

-- the last of these events is the refusal, where there was one
abbrev pub EndsAs : Result (Unit {0}) Refusal → List Event → Type 0
EndsAs (Ok done) events = Unit {0}
EndsAs (Err refusal) events = EndsWith refusal events

-- the word of what upkeep was refused for
abbrev pub word_by : Result (Unit {0}) Refusal → List Why
word_by (Ok done) = []
word_by (Err refusal) = words_of (Some refusal)

-- upkeep was made, as far as nothing was refused
pub record KeepsUp (old new : StoreState) (owner : ℕ) (result : Result (Unit {0}) Refusal) : Type 0 where
  pub events : List Event
  pub made : Made old new owner events
  pub none : own events ≡ []
  pub ends : EndsAs result events
  pub words_are : words events ≡ word_by result

-- all pages of a job are written, or the device failed
pub record HasWritten (old new : StoreState) (owner : ℕ) (job : Job) (result : Result (Unit {0}) Refusal) : Type 0 where
  pub log : new.log ≡ old.log
  pub written : OnOk result (IsJobOf new.lists owner job × (steps_left job ≡ 0))
  pub stopped : OnErr result (new.stopped ≢ None)

-- no list waits any more
pub record HasNoFrozen (old new : StoreState) (result : Result (Unit {0}) Refusal) : Type 0 where
  pub log : new.log ≡ old.log
  pub frozen : OnOk result (new.lists.frozen ≡ None)

-- fewer writes than that are only in memory and in the log
pub record HasFlushed (old new : StoreState) (least : ℕ) (result : Result (Unit {0}) Refusal) : Type 0 where
  pub next : new.log.next_lsn ≡ old.log.next_lsn
  pub frozen : OnOk result (new.lists.frozen ≡ None)
  pub few : OnOk result (new.log.records < least)

-- A write that was to be made again: after some upkeep it was made, or that upkeep was refused.
pub record WritesAgain (old new : StoreState) (owner : ℕ) (op : LogOp) (result : Result Wrote Why) : Type 0 where
  pub events : List Event
  pub made : Made old new owner events
  pub ends : EndsAgain op result events
  pub words_are : words events ≡ refused_word (write_outcome op result)

-- a write, and what became of it
pub record HasTried (old new : StoreState) (owner : ℕ) (op : LogOp) (result : Result Wrote Why) : Type 0 where
  pub events : List Event
  pub made : Made old new owner events
  pub tries : Tries op result events
  pub words_are : words events ≡ refused_word (write_outcome op result)

-- the upkeep behind a write that left so many writes, and the word with which it was refused
pub record HasKeptBehind (flush_at : ℕ) (old new : StoreState) (owner : ℕ) (ops : ℕ) (word : Option Why) : Type 0 where
  pub events : List Event
  pub made : Made old new owner events
  pub keeps : KeepsUpBehind flush_at new ops events
  pub words_are : words events ≡ option_to_list word
