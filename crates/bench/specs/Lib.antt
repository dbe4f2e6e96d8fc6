pub mod Bench
pub mod Stages
pub mod Sessions
