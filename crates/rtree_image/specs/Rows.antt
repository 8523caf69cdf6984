-- The rows of a leaf, as bytes: x 2, y 2, key 8, each the most significant byte first.
use Rattle.std.specs.Prelude.{ℕ, ◌<◌, ◌^◌, List, ◌++◌, take, drop}
use Rattle.std.specs.Int.{to_be_bytes, from_be_bytes, w16, w64}
use Rattle.rtree_image.specs.declared.rows.RtRow.{RtRow}

abbrev pub row_bytes : RtRow → List ℕ
row_bytes row = to_be_bytes w16 row.point.x ++ (to_be_bytes w16 row.point.y ++ to_be_bytes w64 row.key)

abbrev pub row_of : List ℕ → RtRow
row_of bytes = record {
  point = record { x = from_be_bytes w16 (take 2 bytes); y = from_be_bytes w16 (take 2 (drop 2 bytes)) };
  key = from_be_bytes w64 (drop 4 bytes);
}

-- a row whose numbers fit their bytes
pub record IsStored (row : RtRow) : Type 0 where
  pub x : row.point.x < 2 ^ 16
  pub y : row.point.y < 2 ^ 16
  pub key : row.key < 2 ^ 64
