pub mod EarlierSteps
pub mod LaterSteps
pub mod Places
pub mod Makings
