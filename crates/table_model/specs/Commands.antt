-- Commands, replies and outcomes.
use Rattle.std.specs.Prelude.{ℕ, List, Option}
use Rattle.geo_base.specs.Corners.{Corners}
use Rattle.geo_base.specs.declared.points.Point.{Point}
use Rattle.geo_base.specs.declared.points.IndexKind.{IndexKind}
use Rattle.geo_base.specs.declared.points.Row.{Row}
use Rattle.table_model.specs.declared.Why.{Why}
use Rattle.table_model.specs.Table.{Place}

pub data Write : Type 0 where
  put : Row → Write
  del : ℕ → Write

-- what the table answers
pub data TableCommand : Type 0 where
  write : Write → TableCommand
  get : ℕ → TableCommand
  count : TableCommand
  region : IndexKind → Corners → TableCommand

-- a command of a script: one for the table, or a flush, of which the table knows nothing
pub data Command : Type 0 where
  on_table : TableCommand → Command
  flush : Command

-- what a write replies: whether nothing stood at its key, and else what stood there
pub data WriteReply : Type 0 where
  put_new : WriteReply
  put_old : Point → List ℕ → WriteReply
  del_none : WriteReply
  del_old : Point → List ℕ → WriteReply

pub data Reply : Type 0 where
  wrote : WriteReply → Reply
  got : Option Place → Reply
  counted : ℕ → Reply
  rows : List Row → Reply

-- what became of a command: answered with a number that orders the answers of a run, or carried out with nothing to tell of
-- it, or refused
pub data Outcome : Type 0 where
  answered : ℕ → Reply → Outcome
  quiet : Outcome
  refused : Why → Outcome
