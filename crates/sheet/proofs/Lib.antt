mod Lines
mod Steps
mod Gives
pub mod Feeds
