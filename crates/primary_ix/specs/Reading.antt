-- How the rows of the primary hide each other.
use Rattle.std.specs.Prelude.{ℕ, is_none}
use Rattle.std.specs.Ordering.{nat_cmp}
use Rattle.order_merge.specs.Entries.{Reading}
use Rattle.primary_ix.specs.declared.rows.PrimRow.{PrimRow}

abbrev pub prim_reading : Reading PrimRow ℕ
prim_reading = record { key_of = λ row. row.key; is_anti = λ row. is_none row.matter; order = nat_cmp }
