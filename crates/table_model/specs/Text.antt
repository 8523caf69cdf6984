-- The printed lines.
use Rattle.std.specs.Prelude.{ℕ, List, [], ◌∷◌, ◌++◌, length, Option, Some, None, codes, decimal}
use Rattle.std.specs.List.{flat_map}
use Rattle.geo_base.specs.declared.points.Point.{Point}
use Rattle.geo_base.specs.declared.points.Row.{Row}
use Rattle.table_model.specs.declared.Why.{Why}
use Rattle.table_model.specs.declared.Why.TheVariants.{Fault, Stopped, Full, NoIndex, Damaged, Memory}
use Rattle.table_model.specs.Table.{Place}
use Rattle.table_model.specs.Commands.{WriteReply, put_new, put_old, del_none, del_old, Reply, wrote, got, counted, rows}

-- the empty note is printed as `-`
abbrev pub note_text : List ℕ → List ℕ
note_text [] = codes "-"
note_text (b ∷ bs) = b ∷ bs

-- X Y NOTE
abbrev pub place_text : Point → List ℕ → List ℕ
place_text p note = decimal p.x ++ codes " " ++ decimal p.y ++ codes " " ++ note_text note

-- = KEY X Y NOTE
abbrev pub row_text : Row → List ℕ
row_text row = codes "= " ++ decimal row.key ++ codes " " ++ place_text row.point row.note ++ codes "\n"

abbrev pub rows_text : List Row → List ℕ
rows_text rs = flat_map row_text rs

abbrev pub write_text : WriteReply → List ℕ
write_text put_new = codes "put new\n"
write_text (put_old p note) = codes "put old " ++ place_text p note ++ codes "\n"
write_text del_none = codes "del none\n"
write_text (del_old p note) = codes "del old " ++ place_text p note ++ codes "\n"

abbrev pub get_text : Option Place → List ℕ
get_text None = codes "get none\n"
get_text (Some there) = codes "get " ++ place_text there.point there.note ++ codes "\n"

-- the first line of an answer, behind the place and the lane
abbrev pub first_line : Reply → List ℕ
first_line (wrote w) = write_text w
first_line (got found) = get_text found
first_line (counted n) = codes "count " ++ decimal n ++ codes "\n"
first_line (rows rs) = codes "region " ++ decimal (length rs) ++ codes "\n"

-- the lines that follow it
abbrev pub more_lines : Reply → List ℕ
more_lines (rows rs) = rows_text rs
more_lines other = []

-- PLACE LANE and a space
abbrev pub front_text : ℕ → ℕ → List ℕ
front_text place lane = decimal place ++ codes " " ++ decimal lane ++ codes " "

abbrev pub answer_text : ℕ → ℕ → Reply → List ℕ
answer_text place lane reply = front_text place lane ++ first_line reply ++ more_lines reply

abbrev pub why_text : Why → List ℕ
why_text Fault = codes "fault"
why_text Stopped = codes "stopped"
why_text Full = codes "full"
why_text NoIndex = codes "noindex"
why_text Damaged = codes "damaged"
why_text Memory = codes "memory"

-- - LANE and the word
abbrev pub refused_text : ℕ → Why → List ℕ
refused_text lane why = codes "- " ++ decimal lane ++ codes " " ++ why_text why ++ codes "\n"
