-- What readers of a store's lists rest on, also where the store was stopped: the pages of the components show lists, and with
-- those in memory they fit the table. And what readers leave behind.
use Rattle.std.specs.Prelude.{List, Some}
use Rattle.dev_model.specs.Story.{Story}
use Rattle.order_merge.specs.Fitting.{Fits}
use Rattle.order_merge.specs.Views.{lists_of}
use Rattle.table_model.specs.Table.{Table}
use Rattle.device_pages.specs.Lending.{contents_of}
use Rattle.primary_ix.specs.Components.{AreShown}
use Rattle.primary_ix.specs.Reading.{prim_reading}
use Rattle.primary_ix.specs.Wanted.{wanted_rows}
use Rattle.primary_ix.specs.declared.rows.PrimRow.{PrimRow}
use Rattle.store_state.specs.Lists.{Lists, extents_of, trees_of}

-- the components' pages show these lists, the newest first
pub record IsLegible (table : Table) (disk : List (List PrimRow)) (l : Lists) (s : Story) : Type 0 where
  pub shown : AreShown (contents_of (extents_of l.components) (Some s)) (trees_of l.components) disk
  pub fits : Fits prim_reading (lists_of l.active l.frozen disk) (wanted_rows table)
