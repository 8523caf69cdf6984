use Rattle.std.proofs.Common.{◌∙◌, sym, arith, refl, Ok, Err, take, drop, ◌+◌}
use Rattle.dev_model.specs.declared.streams.Failed.{Failed}
use Rattle.dev_model.specs.Laws.Chained.{says_nothing, says_then, says_cut, says_same}
use Rattle.table_model.specs.Text.{row_text, rows_text}
use Rattle.script_lang.proofs.RowTexts.{rows_text-more, rows_text-all}
use Rattle.script_lang.proofs.printing.print_rows.Goals as goal

pub loop-row-init : goal.loop-row-init
loop-row-init g c = record { calm = refl; told = says_nothing (Unit {0}) Failed tt (g.K.Sink.taken c.args.out.now) }

pub loop-row-preserved : goal.loop-row-preserved
loop-row-preserved g c = record {
  calm = c.in_default.ensures.counts ∙ c.loop-row.invariant.calm;
  told = says_same (Unit {0}) Failed _ _ _ _ (Ok tt) (sym (rows_text-more c.args.rows.now c.loop-row.row-index c.row-item.result (omega arith) c.row-item.is))
      (says_then (Unit {0}) Failed tt _ _ _ (rows_text (take c.loop-row.row-index c.args.rows.now)) (row_text c.row-item.result) (Ok tt) c.loop-row.invariant.told
      (says_same (Unit {0}) Failed _ _ _ _ (Ok tt) (c.bytes.ensures ∙ c.row.ensures) c.in_default.ensures.told));
}

pub returns-in-Err-clause-told : goal.returns-in-Err-clause-told
returns-in-Err-clause-told g c =
    says_same (Unit {0}) Failed _ _ _ _ (Err c.in-Err.e) (rows_text-all c.args.rows.now c.loop-row.row-index c.row-item.result (omega arith) c.row-item.is)
    (says_cut (Unit {0}) Failed Failed c.in-Err.e c.in-Err.e _ _ _ (rows_text (drop (c.loop-row.row-index + 1) c.args.rows.now))
    (says_then (Unit {0}) Failed tt _ _ _ (rows_text (take c.loop-row.row-index c.args.rows.now)) (row_text c.row-item.result) (Err c.in-Err.e) c.loop-row.invariant.told
    (says_same (Unit {0}) Failed _ _ _ _ (Err c.in-Err.e) (c.bytes.ensures ∙ c.row.ensures) c.in-Err.ensures.told)))
