pub mod Streams
pub mod Calls
mod MadeStreams
mod MadeDisks
mod MadeEnds
mod MadeRuns
mod MadeWords
