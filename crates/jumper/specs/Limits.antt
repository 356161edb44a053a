-- 01, "Numbers we accept", with 02's #105, "Pads left of the datum", and #106, "Wires beside the lower stiffener". Each limit stands here once and in
-- src/ once; those of a column, an offset and a separation have names in the header for C and in the wrapper for Rust too. negsuc k is -(k + 1).
--
-- Worked, around a centre pin: C = rows -1,0,1 and -2,0,2. Its x are -1,-1,-1 and its y -2,-1,0.
--   at separations 0 and 1, the rule's number 0: the differences x_i - y_i are 1, 0, -1: no offset; pair 0 sets the low end, pair 2 the high end
--   at 2, number 1: the low ends x_i - y_(i+1) are 0, -1, the high ends x_(i+1) - y_i are 1, 0: offset 0 alone. So C's best is 2, after 4 differences at
--         two pairs and 4 at three. Drawn there: -1,-1,-2 / 0,0,0 / 1,1,2
--   at 3, number 2: x_0 - y_2 is -1 and x_2 - y_0 is 1: offsets -1 to 1. So at the lowest offset C needs 4, and top pad 2 is too far left for bottom pad 0 at 3
--   at 4, one track more than pairs: every offset, -131,070 to 131,070
-- L = one pair, on column -65,535 in both rows. Drawn at separation 2 and the lowest offset: column -65,535 twice, then -196,605.
use Rattle.std.specs.Prelude.{ℕ, ℤ, pos, negsuc, ◌≤ℤ◌}

-- "Pairs: 1 to 2,048."
abbrev pub max_pairs : ℕ
max_pairs = 2048

-- 02, #105: "Columns become -65,535 to 65,535"
abbrev pub first_column : ℤ
first_column = negsuc 65534

abbrev pub last_column : ℤ
last_column = pos 65535

-- 02, #106: "TRACKS is given above 2,049", so separations go from 0 to that
abbrev pub max_tracks : ℕ
max_tracks = 2049

-- 02, #105: "Differences and offsets then reach -131,070 to 131,070."
abbrev pub lowest_offset : ℤ
lowest_offset = negsuc 131069

abbrev pub highest_offset : ℤ
highest_offset = pos 131070

-- "A form: up to 64 lines."
abbrev pub max_lines : ℕ
max_lines = 64

-- the places of the longest ladder: 2,048 pairs have 12 levels, "for each level .. two numbers"
abbrev pub max_ladder : ℕ
max_ladder = 24

pub record AcceptedColumn (x : ℤ) : Type 0 where
  pub low : first_column ≤ℤ x
  pub high : x ≤ℤ last_column

pub record AcceptedOffset (d : ℤ) : Type 0 where
  pub low : lowest_offset ≤ℤ d
  pub high : d ≤ℤ highest_offset
