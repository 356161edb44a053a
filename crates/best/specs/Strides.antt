-- Entries at a stride: the fact of `Entries`.
use Rattle.std.specs.Prelude.{ℕ, ◌-◌, ◌*◌, ◌≤◌, ◌<◌}
use Rattle.jumper.specs.Limits.{max_pairs}

-- the pads of m entries at stride p all stand in rows of n pads
pub record Strided (n p m : ℕ) : Type 0 where
  pub some : 1 ≤ m
  pub few : m ≤ max_pairs
  pub inside : p * (m - 1) < n
