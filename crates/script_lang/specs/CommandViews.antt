-- What the program's commands and scripts are for the definitions: the same without spare memory.
use Rattle.std.specs.Prelude.{List, map}
use Rattle.table_model.specs.Commands as model
use Rattle.table_model.specs.Phases.{Phases}
use Rattle.script_lang.specs.Grammar as grammar
use Rattle.script_lang.specs.declared.commands.Command.{Command}
use Rattle.script_lang.specs.declared.commands.Command.TheVariants.{Put, Del, Get, Count, Region, Flush}
use Rattle.script_lang.specs.declared.commands.Script.{Script}
use Rattle.script_lang.specs.declared.lines.Meaning.{Meaning}
use Rattle.script_lang.specs.declared.lines.Meaning.TheVariants.{Nothing, Step, Bad}

abbrev pub command_of : Command → model.Command
command_of (Put row) = model.on_table (model.write (model.put row))
command_of (Del key) = model.on_table (model.write (model.del key))
command_of (Get key) = model.on_table (model.get key)
command_of Count = model.on_table model.count
command_of (Region kind rect) = model.on_table (model.region kind rect)
command_of Flush = model.flush

abbrev pub commands_of : List Command → List model.Command
commands_of cs = map command_of cs

abbrev pub phases_of : Script → Phases model.Command
phases_of s = record { setup = commands_of s.setup.items; lanes = map (λ l. commands_of l.items) s.lanes.items; after = commands_of s.after.items }

abbrev pub meaning_as : Meaning → grammar.Meaning
meaning_as Nothing = grammar.nothing
meaning_as (Step c) = grammar.step (command_of c)
meaning_as Bad = grammar.bad
