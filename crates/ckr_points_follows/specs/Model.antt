-- The definitions of deferred restarts that clauses of the crates above cite, handed on.
pub use Rattle.ckr_points_deferred.specs.Runs
pub use Rattle.ckr_points_deferred.specs.Wanted
pub use Rattle.ckr_points_deferred.specs.declared.runs.RunNow
pub use Rattle.ckr_points_deferred.specs.declared.wanted_now.WantedNow
