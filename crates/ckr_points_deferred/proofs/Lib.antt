pub mod LatestRuns
pub mod RunFacts
pub mod SetNames
pub mod SetViews
pub mod StepNumbers
