-- The slot that its bytes give back. No public contract needs this law.
use Rattle.std.proofs.Common.{◌≡◌}
use Rattle.std.proofs.lemmas.Nat.{from_be_bytes-to_be_bytes_4, from_be_bytes-to_be_bytes_8}
use Rattle.comp_dir.specs.Slots.{slot_bytes, slot_of}
use Rattle.comp_dir.specs.Ranges.{HasRanges}
use Rattle.comp_dir.specs.declared.slots.Slot.{Slot}

pub slot-back : (s : Slot) → HasRanges s → slot_of (slot_bytes s) ≡ s
unfolding slot_of slot_bytes
slot-back s fits = λ i. record {
  index = s.index;
  first = from_be_bytes-to_be_bytes_4 s.first fits.first i;
  pages = from_be_bytes-to_be_bytes_4 s.pages fits.pages i;
  first_lsn = from_be_bytes-to_be_bytes_8 s.first_lsn fits.first_lsn i;
  last_lsn = from_be_bytes-to_be_bytes_8 s.last_lsn fits.last_lsn i;
  main_rows = from_be_bytes-to_be_bytes_4 s.main_rows fits.main_rows i;
  second_rows = from_be_bytes-to_be_bytes_4 s.second_rows fits.second_rows i;
  second_at = from_be_bytes-to_be_bytes_4 s.second_at fits.second_at i;
  filter_at = from_be_bytes-to_be_bytes_4 s.filter_at fits.filter_at i;
  filter_bits = from_be_bytes-to_be_bytes_4 s.filter_bits fits.filter_bits i;
  table_rows = from_be_bytes-to_be_bytes_8 s.table_rows fits.table_rows i;
}
