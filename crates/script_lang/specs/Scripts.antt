-- What a script says: its commands in their phases, or the first thing that is wrong with it.
use Rattle.std.specs.Prelude.{ℕ, ◌+◌, nat_lt, if◌then◌else◌, List, [], ◌∷◌, ◌++◌, Result, Ok, Err}
use Rattle.line_fold.specs.Folding.{folded}
use Rattle.table_model.specs.Commands.{Command}
use Rattle.table_model.specs.Phases.{Phases}
use Rattle.script_lang.specs.Grammar.{Meaning, nothing, step, bad, meaning_of}

pub data Wrong : Type 0 where
  bad_line : ℕ → Wrong
  too_long : Wrong

-- between two lines: how many lines are behind, how many commands they gave, and the script so far
pub record Reading : Type 0 where
  pub lines : ℕ
  pub commands : ℕ
  pub script : Phases Command

-- until lanes come all commands are the setup
abbrev pub with_command : Command → Phases Command → Phases Command
with_command c s = record s { setup = s.setup ++ c ∷ [] }

-- what a line with this meaning leaves, where there may be so many commands
abbrev pub after_meaning : ℕ → Meaning → Reading → Result Reading Wrong
after_meaning most nothing r = Ok (record r { lines = r.lines + 1 })
after_meaning most (step c) r =
    if nat_lt r.commands most
    then Ok (record { lines = r.lines + 1; commands = r.commands + 1; script = with_command c r.script })
    else Err too_long
after_meaning most bad r = Err (bad_line (r.lines + 1))

unfoldable pub after_line : ℕ → List ℕ → Reading → Result Reading Wrong
after_line most line r = after_meaning most (meaning_of line) r

abbrev pub first_reading : Reading
first_reading = record { lines = 0; commands = 0; script = record { setup = []; lanes = []; after = [] } }

abbrev pub script_in : Result Reading Wrong → Result (Phases Command) Wrong
script_in (Ok r) = Ok r.script
script_in (Err e) = Err e

-- The script of the bytes, where there may be so many bytes and so many commands. Past the limit of bytes only a bad
-- line that ended before it is named.
unfoldable pub script_of : ℕ → ℕ → List ℕ → Result (Phases Command) Wrong
script_of most_bytes most_commands bytes = script_in (folded most_bytes too_long (after_line most_commands) bytes first_reading)
