-- A range of offsets (01: "An offset range knows of itself: the range of every offset, whether it is empty, its meet with another").
use Rattle.std.specs.Prelude.{Bool, ℤ, ◌≤ℤ◌}
use Rattle.std.specs.Int.Signed.{lt_z}
use Rattle.whole.specs.Pick.{larger_of, smaller_of}
use Rattle.jumper.specs.Limits.{lowest_offset, highest_offset}
use Rattle.jumper.specs.declared.refusal.Numbers.{Numbers}
use Rattle.jumper.specs.declared.range.OffsetRange.{OffsetRange}

-- an offset is in a range, both ends included
pub record Within (d : ℤ) (r : OffsetRange) : Type 0 where
  pub low : r.low ≤ℤ d
  pub high : d ≤ℤ r.high

-- the range that an answer's numbers name
abbrev pub range_named : Numbers → OffsetRange
range_named k = record { low = k.lowest; high = k.highest }

-- the numbers of a range: its ends, and nothing else
abbrev pub range_numbers : OffsetRange → Numbers
range_numbers r = record { refusal = 0; place = 0; second = 0; separation = 0; lowest = r.low; highest = r.high; pair = 0; side = 0; count = 0 }

abbrev pub whole_range : OffsetRange
whole_range = record { low = lowest_offset; high = highest_offset }

abbrev pub is_empty : OffsetRange → Bool
is_empty r = lt_z r.high r.low

abbrev pub meet_of : OffsetRange → OffsetRange → OffsetRange
meet_of r s = record { low = larger_of r.low s.low; high = smaller_of r.high s.high }
