-- How the components are kept, the same in three lists. No public contract needs this file.
use Rattle.std.specs.Prelude.{◌≡◌, ℕ, ◌≤◌, List}
use Rattle.space_map.specs.declared.space.Extent.{Extent}
use Rattle.comp_dir.specs.Directory.{Numbered}
use Rattle.comp_dir.specs.declared.places.TheConstants.{MOST_LIVE}
use Rattle.primary_ix.specs.declared.component.PrimComp.{PrimComp}
use Rattle.store_state.specs.Lists.{extents_of, trees_of}

-- the trees and the extents are those of the slots, and each list has room for all components that there may be
pub record AreInStep (slots : List Numbered) (trees : List PrimComp) (extents : List Extent) (room tree_room extent_room : ℕ) : Type 0 where
  pub trees_are : trees ≡ trees_of slots
  pub extents_are : extents ≡ extents_of slots
  pub slots_fit : MOST_LIVE ≤ room
  pub trees_fit : MOST_LIVE ≤ tree_room
  pub extents_fit : MOST_LIVE ≤ extent_room
