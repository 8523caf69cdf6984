-- For which causes steps of a run were refused.
use Rattle.std.specs.Prelude.{ℕ, Bool, List, ◌++◌, nat_eq}
use Rattle.std.specs.List.{list_any, flat_map}
use Rattle.table_model.specs.declared.Why.{Why}
use Rattle.table_model.specs.declared.Why.TheVariants.{Fault, Stopped, Full, NoIndex, Damaged, Memory}
use Rattle.table_model.specs.Record.{RunRecord, refused_words}
use Rattle.spatial_run.specs.declared.outcomes.Refusals.{Refusals}

-- the status of a refusal with this word
abbrev pub status_of_why : Why → ℕ
status_of_why Damaged = 6
status_of_why Fault = 5
status_of_why Stopped = 5
status_of_why Full = 7
status_of_why NoIndex = 9
status_of_why Memory = 8

-- one of the words has this status
abbrev pub has_status : ℕ → List Why → Bool
has_status status words = list_any (λ w. nat_eq (status_of_why w) status) words

-- the words of the commands that were refused
abbrev pub record_words : RunRecord → List Why
record_words r = refused_words r.setup ++ flat_map refused_words r.lanes ++ refused_words r.after

-- For which causes steps were refused: for what is on the device, for the device and for memory any step, of upkeep too; for room and
-- for want of an index a command alone.
abbrev pub refusals_by : (commands steps : List Why) → Refusals
refusals_by commands steps = record {
  damaged = has_status 6 steps;
  device = has_status 5 steps;
  full = has_status 7 commands;
  no_index = has_status 9 commands;
  memory = has_status 8 steps;
}
