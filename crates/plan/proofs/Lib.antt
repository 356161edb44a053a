-- Known: with which numbers the calls refuse. Marks: no accepted wish is a mark. Plans: what each call says of legal wirings, as the answer to a wish.
mod Known
mod Marks
pub mod Plans
