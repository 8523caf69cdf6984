use Rattle.std.proofs.Common.{◌≡◌, take, Ok}
use Rattle.dev_model.specs.declared.streams.Failed.{Failed}
use Rattle.dev_model.specs.Streams.{Says}
use Rattle.table_model.specs.Text.{rows_text}
use Rattle.script_lang.proofs.printing.print_rows.Given as goal

abbrev pub invariant-loop-row : goal.invariant-loop-row
invariant-loop-row g l = record {
  calm : g.K.Sink.fault_count l.out ≡ g.K.Sink.fault_count l.fn.out;
  told : Says {X = Unit {0}} {E = Failed} (g.K.Sink.taken l.fn.out) (g.K.Sink.taken l.out) (rows_text (take l.row-index l.rows)) (Ok tt);
}
