-- Worked examples: two lanes that each put a row and ask for it, in one of their shuffles, and then gets, dels and
-- a count; scripts of one lane with a refused command and with flushes; and records that aren't those of their scripts. No
-- public contract but that of the examples needs this file.
use Rattle.std.specs.Prelude.{ℕ, List, [], ◌∷◌, Some, None, codes}
use Rattle.geo_base.specs.declared.points.Row.{Row}
use Rattle.geo_base.specs.declared.points.IndexKind.TheVariants.{Dhvb}
use Rattle.table_model.specs.declared.Why.TheVariants.{Full, Memory}
use Rattle.table_model.specs.Table.{place_of}
use Rattle.table_model.specs.Commands.{Command, on_table, flush, write, put, del, get, count, region, answered, quiet, refused, wrote, got, counted, rows, put_new, put_old, del_none, del_old}
use Rattle.table_model.specs.Phases.{Phases}
use Rattle.table_model.specs.Record.{RunRecord}

abbrev pub one : Row
one = record { key = 1; point = record { x = 1; y = 1 }; note = codes "a" }

abbrev pub two : Row
two = record { key = 1; point = record { x = 2; y = 2 }; note = codes "b" }

abbrev pub all_points : Command
all_points = on_table (region Dhvb (record { x1 = 0; y1 = 0; x2 = 65535; y2 = 65535 }))

abbrev pub shuffled_script : Phases Command
shuffled_script = record {
  setup = [];
  lanes = (on_table (write (put one)) ∷ all_points ∷ []) ∷ (on_table (write (put two)) ∷ all_points ∷ []) ∷ [];
  after = on_table (get 1) ∷ on_table count ∷ on_table (write (del 1)) ∷ on_table (get 1) ∷ on_table count ∷ on_table (write (del 1)) ∷ [];
}

abbrev pub shuffled_record : RunRecord
shuffled_record = record {
  setup = [];
  lanes = (answered 0 (wrote put_new) ∷ answered 4 (rows (two ∷ [])) ∷ [])
      ∷ (answered 2 (wrote (put_old one.point one.note)) ∷ answered 7 (rows (two ∷ [])) ∷ []) ∷ [];
  after = answered 8 (got (Some (place_of two))) ∷ answered 9 (counted 1) ∷ answered 10 (wrote (del_old two.point two.note))
      ∷ answered 13 (got None) ∷ answered 14 (counted 0) ∷ answered 20 (wrote del_none) ∷ [];
}

abbrev pub shuffled_text : List ℕ
shuffled_text = codes "0 1 put new\n1 2 put old 1 1 a\n2 1 region 1\n= 1 2 2 b\n3 2 region 1\n= 1 2 2 b\n4 0 get 2 2 b\n5 0 count 1\n6 0 del old 2 2 b\n7 0 get none\n8 0 count 0\n9 0 del none\n"

-- the second command was refused: it has no place
abbrev pub refused_script : Phases Command
refused_script = record { setup = on_table (write (put one)) ∷ all_points ∷ on_table (write (put two)) ∷ []; lanes = []; after = [] }

abbrev pub refused_record : RunRecord
refused_record = record { setup = answered 3 (wrote put_new) ∷ refused Memory ∷ answered 9 (wrote (put_old one.point one.note)) ∷ []; lanes = []; after = [] }

abbrev pub refused_run_text : List ℕ
refused_run_text = codes "0 0 put new\n1 0 put old 1 1 a\n- 0 memory\n"

-- a setup alone
abbrev pub alone : {X : Type 0} → List X → Phases X
alone xs = record { setup = xs; lanes = []; after = [] }

-- of the first flush nothing is told, and the second one is refused
abbrev pub flushed_script : Phases Command
flushed_script = alone (on_table (write (put one)) ∷ flush ∷ on_table count ∷ flush ∷ [])

abbrev pub flushed_record : RunRecord
flushed_record = alone (answered 0 (wrote put_new) ∷ quiet ∷ answered 5 (counted 1) ∷ refused Full ∷ [])

abbrev pub flushed_text : List ℕ
flushed_text = codes "0 0 put new\n1 0 count 1\n- 0 full\n"

-- nothing stands at the key
abbrev pub false_get : RunRecord
false_get = alone (answered 0 (got (Some (place_of one))) ∷ [])

abbrev pub false_del : RunRecord
false_del = alone (answered 0 (wrote (del_old one.point one.note)) ∷ [])

abbrev pub false_count : RunRecord
false_count = alone (answered 0 (counted 1) ∷ [])

-- two lanes that are answered with one seq
abbrev pub two_counts : Phases Command
two_counts = record { setup = []; lanes = (on_table count ∷ []) ∷ (on_table count ∷ []) ∷ []; after = [] }

abbrev pub two_counts_at_once : RunRecord
two_counts_at_once = record { setup = []; lanes = (answered 3 (counted 0) ∷ []) ∷ (answered 3 (counted 0) ∷ []) ∷ []; after = [] }
