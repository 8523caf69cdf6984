-- The plain table's answers.
use Rattle.std.specs.Prelude.{List, [], ◌∷◌, length, Option, Some, None}
use Rattle.std.specs.FinMap as map
use Rattle.table_model.specs.Table.{Table, Place, place_of, rows_of, rows_inside}
use Rattle.table_model.specs.Commands.{Write, put, del, TableCommand, write, get, count, region, WriteReply, put_new, put_old, del_none, del_old, Reply, wrote, got, counted, rows}

abbrev pub after_write : Table → Write → Table
after_write t (put row) = map.insert t row.key (place_of row)
after_write t (del key) = map.remove t key

abbrev pub put_reply : Option Place → WriteReply
put_reply None = put_new
put_reply (Some old) = put_old old.point old.note

abbrev pub del_reply : Option Place → WriteReply
del_reply None = del_none
del_reply (Some old) = del_old old.point old.note

abbrev pub write_reply : Table → Write → WriteReply
write_reply t (put row) = put_reply (map.get t row.key)
write_reply t (del key) = del_reply (map.get t key)

abbrev pub table_after : Table → TableCommand → Table
table_after t (write w) = after_write t w
table_after t other = t

-- the reply doesn't depend on the index by which a region is asked for
abbrev pub reply_to : Table → TableCommand → Reply
reply_to t (write w) = wrote (write_reply t w)
reply_to t (get key) = got (map.get t key)
reply_to t count = counted (length (rows_of t))
reply_to t (region kind r) = rows (rows_inside r (rows_of t))

-- the table after a list of commands
abbrev pub replay : Table → List TableCommand → Table
replay t [] = t
replay t (c ∷ cs) = replay (table_after t c) cs

-- the replies to a list of commands, each at the table after those before it
abbrev pub replies : Table → List TableCommand → List Reply
replies t [] = []
replies t (c ∷ cs) = reply_to t c ∷ replies (table_after t c) cs

-- the table after a list of writes
abbrev pub after_writes : Table → List Write → Table
after_writes t [] = t
after_writes t (w ∷ ws) = after_writes (after_write t w) ws
