pub mod Sendings
