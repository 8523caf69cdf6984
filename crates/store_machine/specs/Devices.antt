-- When a device holds a table.
use Rattle.std.specs.Prelude.{ℕ}
use Rattle.dev_model.specs.Story.{Story, bytes_of, IsCalmAt}
use Rattle.table_model.specs.Table.{Table}
use Rattle.component_image.specs.Recovered.{IsLookedAt, IsContent, Recovers}

-- The device holds a store with this table: that is what is read, and what each crash leaves, where an opening looks and where the
-- rows of components stand.
pub record HoldsTable (pages : ℕ) (table : Table) (s : Story) : Type 0 where
  pub looked_calm : IsCalmAt (IsLookedAt (bytes_of s)) s
  pub content_calm : IsCalmAt (IsContent (bytes_of s)) s
  pub recovers : Recovers pages table (bytes_of s)
