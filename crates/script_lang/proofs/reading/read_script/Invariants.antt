use Rattle.std.proofs.Common.{◌≡◌, ◌-◌, ◌≤◌}
use Rattle.script_lang.specs.declared.limits.TheConstants.{MOST_BYTES, MOST_COMMANDS}
use Rattle.script_lang.specs.declared.reading.TheConstants.{FRONT}
use Rattle.script_lang.proofs.Sources.{Underway}
use Rattle.script_lang.proofs.reading.read_script.Given as goal

abbrev pub invariant-loop-n : goal.invariant-loop-n
invariant-loop-n g l = record {
  told : Underway FRONT MOST_COMMANDS (g.R.Source.left l.fn.src) (g.R.Source.left l.src) l.reader;
  calm : g.R.Source.fault_count l.src ≡ g.R.Source.fault_count l.fn.src;
  within : l.reader.bytes ≤ MOST_BYTES;
}

abbrev pub decreases-loop-n : goal.decreases-loop-n
decreases-loop-n g l = MOST_BYTES - l.reader.bytes
