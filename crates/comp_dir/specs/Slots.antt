-- The bytes of a slot behind its gate.
use Rattle.std.specs.Prelude.{ℕ, List, [], ◌∷◌, ◌++◌, take, drop, replicate, get_or}
use Rattle.std.specs.Int.{to_be_bytes, from_be_bytes, w32, w64}
use Rattle.comp_dir.specs.declared.places.TheConstants.{INDEX_AT, FIRST_AT, PAGES_AT, FIRST_LSN_AT, LAST_LSN_AT, MAIN_ROWS_AT, SECOND_ROWS_AT, SECOND_PLACE_AT, FILTER_PLACE_AT, FILTER_BITS_AT, TABLE_ROWS_AT, RESERVED_BYTES}
use Rattle.comp_dir.specs.declared.slots.Slot.{Slot}

-- the bytes behind the gate
unfoldable pub slot_bytes : Slot → List ℕ
slot_bytes s =
    (s.index ∷ 0 ∷ 0 ∷ [])
    ++ to_be_bytes w32 s.first
    ++ to_be_bytes w32 s.pages
    ++ to_be_bytes w64 s.first_lsn
    ++ to_be_bytes w64 s.last_lsn
    ++ to_be_bytes w32 s.main_rows
    ++ to_be_bytes w32 s.second_rows
    ++ to_be_bytes w32 s.second_at
    ++ to_be_bytes w32 s.filter_at
    ++ to_be_bytes w32 s.filter_bits
    ++ to_be_bytes w64 s.table_rows
    ++ replicate RESERVED_BYTES 0

-- a number that stands there, by its place behind the gate
abbrev pub number32 : ℕ → List ℕ → ℕ
number32 at body = from_be_bytes w32 (take 4 (drop at body))

abbrev pub number64 : ℕ → List ℕ → ℕ
number64 at body = from_be_bytes w64 (take 8 (drop at body))

-- the slot that so many bytes give, whatever stands in the bytes that have to be 0
unfoldable pub slot_of : List ℕ → Slot
slot_of body = record {
  index = get_or body INDEX_AT 0;
  first = number32 FIRST_AT body;
  pages = number32 PAGES_AT body;
  first_lsn = number64 FIRST_LSN_AT body;
  last_lsn = number64 LAST_LSN_AT body;
  main_rows = number32 MAIN_ROWS_AT body;
  second_rows = number32 SECOND_ROWS_AT body;
  second_at = number32 SECOND_PLACE_AT body;
  filter_at = number32 FILTER_PLACE_AT body;
  filter_bits = number32 FILTER_BITS_AT body;
  table_rows = number64 TABLE_ROWS_AT body;
}
