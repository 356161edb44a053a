-- What other floors and readers cite: Keeping, which pairs stay; Remains, the rows left; Laws, what dropping and adding do to the answers. Copies is how what
-- stays is written, Answers what the calls promise.
pub mod Keeping
mod Copies
pub mod Remains
mod Answers
pub mod Laws
