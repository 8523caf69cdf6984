-- What a call that reads a script answers, and what the source's count of faults tells of it.
use Rattle.std.specs.Prelude.{◌≡◌, ℕ, List, Option, Some, None, Result, Ok, Err}
use Rattle.dev_model.specs.Counts.{Rose}
use Rattle.table_model.specs.Commands.{Command}
use Rattle.table_model.specs.Phases.{Phases}
use Rattle.script_lang.specs.declared.commands.Script.{Script}
use Rattle.script_lang.specs.declared.commands.ScriptFault.{ScriptFault}
use Rattle.script_lang.specs.declared.commands.ScriptFault.TheVariants.{Source, BadLine, TooLong, OutOfMemory}
use Rattle.script_lang.specs.Scripts.{Wrong, bad_line, too_long, script_of}
use Rattle.script_lang.specs.CommandViews.{phases_of}

-- A call answered what the script of the bytes is, unless the source failed or memory ran out.
abbrev pub Fails : {X : Type 0} → ScriptFault → Result X Wrong → Type 0
Fails Source read = Unit {0}
Fails OutOfMemory read = Unit {0}
Fails (BadLine n) read = read ≡ Err (bad_line n)
Fails TooLong read = read ≡ Err too_long

abbrev pub ReadsAs : Result (Phases Command) Wrong → Result Script ScriptFault → Type 0
ReadsAs read (Ok s) = read ≡ Ok (phases_of s)
ReadsAs read (Err e) = Fails e read

-- the same of a source that tells its bytes
abbrev pub ReadsFrom : ℕ → ℕ → Option (List ℕ) → Result Script ScriptFault → Type 0
ReadsFrom most_bytes most_commands None r = Unit {0}
ReadsFrom most_bytes most_commands (Some bytes) r = ReadsAs (script_of most_bytes most_commands bytes) r

-- the source's count of faults rose where the source failed, and nowhere else
abbrev pub CountsFaults : ℕ → ℕ → Result Script ScriptFault → Type 0
CountsFaults old new (Ok s) = new ≡ old
CountsFaults old new (Err Source) = Rose old new
CountsFaults old new (Err OutOfMemory) = new ≡ old
CountsFaults old new (Err (BadLine n)) = new ≡ old
CountsFaults old new (Err TooLong) = new ≡ old
