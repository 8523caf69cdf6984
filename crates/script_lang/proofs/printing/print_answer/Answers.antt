use Rattle.std.proofs.Common.{◌∙◌, sym, ap, Ok, Err, ◌++◌}
use Rattle.dev_model.specs.declared.streams.Failed.{Failed}
use Rattle.dev_model.specs.Laws.Chained.{says_then, says_cut, says_same}
use Rattle.script_lang.specs.Views.{reply_of}
use Rattle.table_model.specs.Text.{front_text, first_line, more_lines, rows_text}
use Rattle.script_lang.proofs.printing.print_answer.Goals as goal

pub returns-in-Err-clause-told : goal.returns-in-Err-clause-told
returns-in-Err-clause-told g c =
    says_cut (Unit {0}) Failed Failed c.in-Err.e c.in-Err.e _ _ (front_text c.args.place c.args.lane ++ first_line (reply_of c.args.answer.now)) (more_lines (reply_of c.args.answer.now))
    (says_same (Unit {0}) Failed _ _ _ _ (Err c.in-Err.e) (c.bytes.ensures ∙ c.answer.ensures) c.in-Err.ensures.told)

pub returns-in-Rows-clause-told : goal.returns-in-Rows-clause-told
returns-in-Rows-clause-told g c =
    let reply = ap reply_of c.in-Rows.is in
    says_then (Unit {0}) Failed tt _ _ _ (front_text c.args.place c.args.lane ++ first_line (reply_of c.args.answer.now)) (more_lines (reply_of c.args.answer.now)) c.print_rows.result
    (says_same (Unit {0}) Failed _ _ _ _ (Ok tt) (c.bytes.ensures ∙ c.answer.ensures) c.in_default.ensures.told)
    (says_same (Unit {0}) Failed _ _ _ _ c.print_rows.result (ap rows_text c.as_slice.ensures ∙ sym (ap more_lines reply)) c.print_rows.ensures.told)
