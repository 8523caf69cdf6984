-- A set of indexes as bits: bit 0 is the R-tree, bit 4 the spatial inverted file.
use Rattle.std.specs.Prelude.{ℕ, ◌/◌, ◌%◌, ◌^◌, Bool, ◌==◌}
use Rattle.geo_base.specs.declared.points.IndexKind.{IndexKind}
use Rattle.geo_base.specs.declared.points.IndexKind.TheVariants.{Rtree, Dhb, Dhvb, Shb, Sif}

abbrev pub bit_of : IndexKind → ℕ
bit_of Rtree = 0
bit_of Dhb = 1
bit_of Dhvb = 2
bit_of Shb = 3
bit_of Sif = 4

-- the set has this index
abbrev pub has_index : ℕ → IndexKind → Bool
has_index bits kind = bits / 2 ^ bit_of kind % 2 == 1
