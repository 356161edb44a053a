-- The offsets that the rule of fit leaves at a number (01): "Offset range at s: the greatest x_i - y_(i+s) up to the least x_(i+s) - y_i."
-- Here s < n; that the range holds exactly the offsets that fit is the law `range_exactly` of proofs/Spans.antt.
--
-- Worked: K = rows 0,5 and 0,5 has the range 0..0 at 0 and -4..4 at 1.
use Rattle.std.specs.Prelude.{ℕ, ◌-◌, ℤ}
use Rattle.whole.specs.Pick.{largest_at, smallest_at}
use Rattle.wiring.specs.Fit.{low_end, high_end}
use Rattle.jumper.specs.declared.range.OffsetRange.{OffsetRange}

-- the first pair that sets each end, among n pairs with s < n
abbrev pub lowest_at : (n : ℕ) (x y : ℕ → ℤ) (s : ℕ) → ℕ
lowest_at n x y s = largest_at (low_end x y s) (n - s - 1)

abbrev pub highest_at : (n : ℕ) (x y : ℕ → ℤ) (s : ℕ) → ℕ
highest_at n x y s = smallest_at (high_end x y s) (n - s - 1)

-- "the greatest x_i - y_(i+s) up to the least x_(i+s) - y_i", for s < n
abbrev pub range_of : (n : ℕ) (x y : ℕ → ℤ) (s : ℕ) → OffsetRange
range_of n x y s = record { low = low_end x y s (lowest_at n x y s); high = high_end x y s (highest_at n x y s) }
