-- The definitions of the tables that the crates above cite, handed on: the name of the data set for checkpoints, and the entry that they keep.
pub use Rattle.ckr_points_tables.specs.Checkpoint
pub use Rattle.ckr_points_tables.specs.Entries
