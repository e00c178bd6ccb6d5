-- What the crates above cite of a step's dispositions, of the names of data sets and of their uses.
pub use Rattle.ckr_uses.specs.Disposal
pub use Rattle.ckr_uses.specs.SetNames
pub use Rattle.ckr_uses.specs.Uses
