-- The record of a run, when it fits a script, the history that it stands for, and its text.
use Rattle.std.specs.Prelude.{◌≡◌, ℕ, ◌+◌, ◌<◌, List, [], ◌∷◌, ◌++◌, map, All, nat_lt, if◌then◌else◌}
use Rattle.std.specs.List.{AllZip, flat_map}
use Rattle.table_model.specs.declared.Why.{Why}
use Rattle.table_model.specs.Table.{Table}
use Rattle.table_model.specs.Commands.{TableCommand, Command, on_table, flush, Reply, Outcome, answered, quiet, refused}
use Rattle.table_model.specs.Answers.{replies}
use Rattle.table_model.specs.Phases.{Phases}
use Rattle.table_model.specs.Refusals.{MayRefuse}
use Rattle.table_model.specs.Text.{answer_text, refused_text}

-- one outcome for each command of a script
abbrev pub RunRecord : Type 0
RunRecord = Phases Outcome

-- an answered command with its seq and its lane
pub record HistoryAnswer : Type 0 where
  pub seq : ℕ
  pub lane : ℕ
  pub command : TableCommand
  pub reply : Reply

-- a command that was answered; a flush has no place among them
abbrev pub answer_of : ℕ → Command → Outcome → List HistoryAnswer
answer_of lane (on_table c) (answered seq reply) = record { seq = seq; lane = lane; command = c; reply = reply } ∷ []
answer_of lane c other = []

-- the answered commands of one lane
abbrev pub lane_answers : ℕ → List Command → List Outcome → List HistoryAnswer
lane_answers lane (c ∷ cs) (o ∷ os) = answer_of lane c o ++ lane_answers lane cs os
lane_answers lane cs os = []

-- those of the lanes from a number on
abbrev pub lanes_answers : ℕ → List (List Command) → List (List Outcome) → List HistoryAnswer
lanes_answers lane (cs ∷ css) (os ∷ oss) = lane_answers lane cs os ++ lanes_answers (lane + 1) css oss
lanes_answers lane css oss = []

-- setup and after are lane 0
abbrev pub all_answers : Phases Command → RunRecord → List HistoryAnswer
all_answers s r = lane_answers 0 s.setup r.setup ++ lanes_answers 1 s.lanes r.lanes ++ lane_answers 0 s.after r.after

-- an answer among answers in the order of their seqs
abbrev pub inserted : HistoryAnswer → List HistoryAnswer → List HistoryAnswer
inserted a [] = a ∷ []
inserted a (b ∷ bs) = if nat_lt a.seq b.seq then a ∷ b ∷ bs else b ∷ inserted a bs

abbrev pub in_order : List HistoryAnswer → List HistoryAnswer
in_order [] = []
in_order (a ∷ others) = inserted a (in_order others)

-- the answered commands by seq: the one history that the run stands for
abbrev pub history : Phases Command → RunRecord → List HistoryAnswer
history s r = in_order (all_answers s r)

-- each reply is the table's at its place
abbrev pub IsAnswered : Table → List HistoryAnswer → Type 0
IsAnswered t h = map (λ a. a.reply) h ≡ replies t (map (λ a. a.command) h)

-- the number of an answer
abbrev pub seq_of : Outcome → List ℕ
seq_of (answered seq reply) = seq ∷ []
seq_of other = []

abbrev pub seqs : List Outcome → List ℕ
seqs os = flat_map seq_of os

-- each below the next
abbrev pub Rises : List ℕ → Type 0
Rises [] = Unit {0}
Rises (n ∷ []) = Unit {0}
Rises (n ∷ m ∷ ns) = (n < m) × Rises (m ∷ ns)

-- Which outcomes a command may have: one for the table any answer, since the history says which, and a flush none, as nothing is told
-- of it; and each its own refusals.
abbrev pub IsFor : Command → Outcome → Type 0
IsFor c (refused why) = MayRefuse c why
IsFor (on_table c) (answered seq reply) = Unit {0}
IsFor flush quiet = Unit {0}
IsFor c other = ⊥

-- one outcome for each command, and one that it may have
abbrev pub OneEach : List Command → List Outcome → Type 0
OneEach cs os = AllZip IsFor cs os

-- One outcome for each command; all seqs differ; and in setup, a lane and what is after the lanes they rise in the script's order, with or
-- without the lane.
pub record FitsScript (s : Phases Command) (r : RunRecord) : Type 0 where
  pub setup : OneEach s.setup r.setup
  pub lanes : AllZip OneEach s.lanes r.lanes
  pub after : OneEach s.after r.after
  pub differ : Rises (map (λ a. a.seq) (history s r))
  pub around : All (λ os. Rises (seqs (r.setup ++ os ++ r.after))) r.lanes
  pub through : Rises (seqs (r.setup ++ r.after))

-- the answered commands by place
abbrev pub history_text : ℕ → List HistoryAnswer → List ℕ
history_text place [] = []
history_text place (a ∷ others) = answer_text place a.lane a.reply ++ history_text (place + 1) others

-- the words of the refused commands
abbrev pub refused_word : Outcome → List Why
refused_word (refused word) = word ∷ []
refused_word other = []

abbrev pub refused_words : List Outcome → List Why
refused_words os = flat_map refused_word os

abbrev pub refusals_text : ℕ → List Outcome → List ℕ
refusals_text lane os = flat_map (refused_text lane) (refused_words os)

abbrev pub lanes_refusals_text : ℕ → List (List Outcome) → List ℕ
lanes_refusals_text lane [] = []
lanes_refusals_text lane (os ∷ oss) = refusals_text lane os ++ lanes_refusals_text (lane + 1) oss

-- the lines of the answered commands by place, and then one for each refused command, by lane and then
-- by order in the script; a quiet command has none
abbrev pub record_text : Phases Command → RunRecord → List ℕ
record_text s r = history_text 0 (history s r) ++ refusals_text 0 (r.setup ++ r.after) ++ lanes_refusals_text 1 r.lanes
