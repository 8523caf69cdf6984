-- The rows of the primary: how they are ordered, and their bytes on a leaf.
-- Key 8, anti 1, length of the note 1, x 2, y 2, and the note with zeros behind it, 64. An anti row has length 0, x 0, y 0.
use Rattle.std.specs.Prelude.{ℕ, ◌+◌, ◌-◌, ◌==◌, nat_lt, List, [], ◌∷◌, ◌++◌, length, take, drop, replicate, slice_index, Option, Some, None, if◌then◌else◌}
use Rattle.std.specs.Int.{to_be_bytes, from_be_bytes, w16, w64}
use Rattle.std.specs.Ordering.{nat_cmp}
use Rattle.btree_image.specs.Rows.{Layout}
use Rattle.geo_base.specs.Notes.{note_fault}
use Rattle.geo_base.specs.declared.limits.TheConstants.{NOTE_ROOM}
use Rattle.geo_base.specs.declared.points.Point.{Point}
use Rattle.page_codec.specs.declared.kinds.TheConstants.{PRIMARY_LEAF, PRIMARY_INNER}
use Rattle.primary_ix.specs.declared.bytes.TheConstants.{KEY_BYTES, ANTI_AT, LENGTH_AT, POINT_AT, NOTE_AT}
use Rattle.primary_ix.specs.declared.rows.PrimRow.{PrimRow}

-- what a row says of its key: a point and a note, or that it has none
abbrev pub Matter : Type 0
Matter = Option (Point × List ℕ)

abbrev pub anti_byte : Matter → ℕ
anti_byte None = 1
anti_byte (Some matter) = 0

abbrev pub point_of : Matter → Point
point_of None = record { x = 0; y = 0 }
point_of (Some matter) = matter.0

abbrev pub note_of : Matter → List ℕ
note_of None = []
note_of (Some matter) = matter.1

-- the bytes before the note
abbrev pub head_bytes : PrimRow → List ℕ
head_bytes row =
    to_be_bytes w64 row.key
    ++ anti_byte row.matter ∷ length (note_of row.matter) ∷ (to_be_bytes w16 (point_of row.matter).x ++ to_be_bytes w16 (point_of row.matter).y)

-- the note, and zeros to the end of its room
abbrev pub note_room : Matter → List ℕ
note_room matter = note_of matter ++ replicate (NOTE_ROOM - length (note_of matter)) 0

abbrev pub row_bytes : PrimRow → List ℕ
row_bytes row = head_bytes row ++ note_room row.matter

abbrev pub coordinate_at : ℕ → List ℕ → ℕ
coordinate_at at bytes = from_be_bytes w16 (take 2 (drop at bytes))

abbrev pub point_in : List ℕ → Point
point_in bytes = record { x = coordinate_at POINT_AT bytes; y = coordinate_at (POINT_AT + 2) bytes }

-- the note that stands there, if it keeps the rule of a note
abbrev pub unless_fault : Option ℕ → List ℕ → Option (List ℕ)
unless_fault None note = Some note
unless_fault (Some at) note = None

abbrev pub note_in : List ℕ → Option (List ℕ)
note_in bytes =
    let count = slice_index bytes LENGTH_AT in
    let note = take count (drop NOTE_AT bytes) in
    if nat_lt NOTE_ROOM count then None else unless_fault (note_fault note) note

-- the matter of a row with such an anti byte, if rows have it
abbrev pub with_anti : ℕ → ℕ → Point → Option (List ℕ) → Option PrimRow
with_anti anti key point None = None
with_anti anti key point (Some note) =
    if anti == 0 then Some (record { key = key; matter = Some (point, note) })
    else (if anti == 1 then Some (record { key = key; matter = None }) else None)

-- the row that these bytes are, if they are one: the anti byte is 0 or 1, and the note keeps the rule of a note
abbrev pub row_of : List ℕ → Option PrimRow
row_of bytes = with_anti (slice_index bytes ANTI_AT) (from_be_bytes w64 (take ANTI_AT bytes)) (point_in bytes) (note_in bytes)

-- how rows are stored
abbrev pub prim_layout : Layout PrimRow ℕ
prim_layout = record {
  key_of = λ row. row.key;
  order = nat_cmp;
  to_bytes = row_bytes;
  of_bytes = row_of;
  key_to_bytes = to_be_bytes w64;
  key_of_bytes = from_be_bytes w64;
  leaf = PRIMARY_LEAF;
  inner = PRIMARY_INNER;
  key_width = KEY_BYTES;
}
