-- The numbers of a slot fit their places.
use Rattle.std.specs.Prelude.{◌^◌, ◌<◌}
use Rattle.comp_dir.specs.declared.slots.Slot.{Slot}

-- its numbers fit their places
pub record HasRanges (s : Slot) : Type 0 where
  pub first : s.first < 2 ^ 32
  pub pages : s.pages < 2 ^ 32
  pub first_lsn : s.first_lsn < 2 ^ 64
  pub last_lsn : s.last_lsn < 2 ^ 64
  pub main_rows : s.main_rows < 2 ^ 32
  pub second_rows : s.second_rows < 2 ^ 32
  pub second_at : s.second_at < 2 ^ 32
  pub filter_at : s.filter_at < 2 ^ 32
  pub filter_bits : s.filter_bits < 2 ^ 32
  pub table_rows : s.table_rows < 2 ^ 64
