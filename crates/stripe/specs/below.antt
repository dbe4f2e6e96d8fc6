pub mod Tables
pub mod Steps
pub mod Refusals
pub mod Gathering
pub mod Recovery
