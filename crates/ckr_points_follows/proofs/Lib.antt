pub use Rattle.ckr_points_deferred.proofs.RunFacts
pub mod Checkpoints
pub mod Lists
pub mod RewriteCounts
pub mod Outputs
pub mod Rewrites
pub mod Selects
