-- Which pages of a device are lent.
use Rattle.std.specs.Prelude.{ℕ, Bool, List}
use Rattle.std.specs.List.{list_any}
use Rattle.space_map.specs.declared.space.Extent.{Extent}
use Rattle.space_map.specs.Space.{is_in}

abbrev pub is_lent : List Extent → ℕ → Bool
is_lent extents page = list_any (is_in page) extents
