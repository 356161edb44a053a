-- Lines: what `plan` promises, said of a record. Tables: the calls over a table, and the laws of answering.
pub mod Lines
pub mod Tables
