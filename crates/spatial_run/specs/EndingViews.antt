-- What the program's tasks and endings are for the definitions. No public contract needs this file.
use Rattle.script_lang.specs.CommandViews.{phases_of}
use Rattle.script_lang.specs.Scripts.{bad_line, too_long}
use Rattle.spatial_run.specs.Endings as spec
use Rattle.spatial_run.specs.Tasks as tasks
use Rattle.spatial_run.specs.Views.{record_of}
use Rattle.spatial_run.specs.declared.task.Task.{Task}
use Rattle.spatial_run.specs.declared.task.Task.TheVariants.{Format, Serial, Fresh}
use Rattle.spatial_run.specs.declared.ending.Ending.{Ending}
use Rattle.spatial_run.specs.declared.ending.Ending.TheVariants.{BadWords, SourceFault, BadLine, TooLong, NoMemory, FormatFailed, Formatted, NotOpened, Ran}

abbrev pub task_as : Task → tasks.Task
task_as (Format indexes) = tasks.format indexes
task_as Serial = tasks.serial
task_as (Fresh indexes) = tasks.fresh indexes

abbrev pub ending_of : Ending → spec.Ending
ending_of BadWords = spec.bad_words
ending_of SourceFault = spec.source_fault
ending_of (BadLine n) = spec.bad_script (bad_line n)
ending_of TooLong = spec.bad_script too_long
ending_of NoMemory = spec.no_memory
ending_of FormatFailed = spec.format_failed
ending_of (Formatted pages) = spec.formatted pages
ending_of (NotOpened fault) = spec.not_opened fault
ending_of (Ran script outcomes refusals) = spec.ran (phases_of script) (record_of outcomes) refusals
