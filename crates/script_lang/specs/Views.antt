-- What the program's answers are for the definitions: the same without spare memory.
use Rattle.std.specs.Prelude.{Some, None}
use Rattle.table_model.specs.Commands as model
use Rattle.script_lang.specs.declared.commands.Answer.{Answer}
use Rattle.script_lang.specs.declared.commands.Answer.TheVariants.{PutNew, PutOld, DelNone, DelOld, GetNone, GetOld, Counted, Rows}

abbrev pub reply_of : Answer → model.Reply
reply_of PutNew = model.wrote model.put_new
reply_of (PutOld point note) = model.wrote (model.put_old point note)
reply_of DelNone = model.wrote model.del_none
reply_of (DelOld point note) = model.wrote (model.del_old point note)
reply_of GetNone = model.got None
reply_of (GetOld point note) = model.got (Some (record { point = point; note = note }))
reply_of (Counted n) = model.counted n
reply_of (Rows list) = model.rows list.items
