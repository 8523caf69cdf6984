pub mod LentTrees
