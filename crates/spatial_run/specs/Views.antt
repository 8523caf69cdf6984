-- What the program's records are for the definitions: the same without spare memory.
use Rattle.std.specs.Prelude.{List, map}
use Rattle.table_model.specs.Commands as model
use Rattle.table_model.specs.Record as run
use Rattle.script_lang.specs.Views.{reply_of}
use Rattle.spatial_run.specs.declared.record.Outcome.{Outcome}
use Rattle.spatial_run.specs.declared.record.Outcome.TheVariants.{Answered, Quiet, Refused}
use Rattle.spatial_run.specs.declared.record.RunRecord.{RunRecord}

abbrev pub outcome_of : Outcome → model.Outcome
outcome_of (Answered seq answer) = model.answered seq (reply_of answer)
outcome_of Quiet = model.quiet
outcome_of (Refused why) = model.refused why

abbrev pub outcomes_of : List Outcome → List model.Outcome
outcomes_of os = map outcome_of os

abbrev pub record_of : RunRecord → run.RunRecord
record_of r = record { setup = outcomes_of r.setup.items; lanes = map (λ l. outcomes_of l.items) r.lanes.items; after = outcomes_of r.after.items }
