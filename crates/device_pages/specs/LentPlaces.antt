-- The places of lent pages.
use Rattle.std.specs.Prelude.{ℕ, ◌+◌, ◌*◌, ◌<◌, ◌≤◌, IsTrue, List}
use Rattle.space_map.specs.declared.space.Extent.{Extent}
use Rattle.device_pages.specs.declared.lending.TheConstants.{PAGE_BYTES}
use Rattle.device_pages.specs.Lent.{is_lent}

-- a place of a lent page
pub record IsLentPlace (extents : List Extent) (i : ℕ) : Type 0 where
  pub page : ℕ
  pub lent : IsTrue (is_lent extents page)
  pub from : page * PAGE_BYTES ≤ i
  pub to : i < page * PAGE_BYTES + PAGE_BYTES
