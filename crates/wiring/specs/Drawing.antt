-- Which columns we draw (01, "Drawing and checking"; 02, #106), for n bottom pads at a 0 .. a (n - 1) and a wire from pad i to column c above.
--
-- Worked: J at separation 3, offset 0 is drawn 0,0,0,1 / 1,1,2,2 / 4,4,3,3 / 5,5,5,4.
use Rattle.std.specs.Prelude.{cond, ℕ, zero, suc, ◌+◌, ◌-◌, ltb, ℤ, pos, ◌+ℤ◌, ◌-ℤ◌}
use Rattle.std.specs.Int.Signed.{lt_z}
use Rattle.whole.specs.Pick.{larger_of, smaller_of}
use Rattle.wiring.specs.Tracks.{rule_at}

-- "If c >= a_i, e_(t+1) is the lesser of c and a_(i+t+1) - t - 1, or c where pad i+t+1 doesn't exist."
unfoldable pub rightward : (n : ℕ) (a : ℕ → ℤ) (c : ℤ) (i t : ℕ) → ℤ
rightward n a c i t = cond (ltb (i + t) n) (smaller_of c (a (i + t) -ℤ pos t)) c

-- "If c < a_i, e_(t+1) is the greater of c and a_(i-t-1) + t + 1, or c where i-t-1 is below 0."
unfoldable pub leftward : (a : ℕ → ℤ) (c : ℤ) (i t : ℕ) → ℤ
leftward a c i t = cond (ltb i t) c (larger_of c (a (i - t) +ℤ pos t))

-- 01's e_t: "e_0 = a_i", and above it one of the two
unfoldable pub entry : (n : ℕ) (a : ℕ → ℤ) (c : ℤ) (i t : ℕ) → ℤ
entry n a c i zero = a i
entry n a c i (suc t) = cond (lt_z c (a i)) (leftward a c i (suc t)) (rightward n a c i (suc t))

-- the column on which the wire enters track t: 01's drawing, with "one straight step below" from 02
abbrev pub column_at : (n : ℕ) (a : ℕ → ℤ) (c : ℤ) (i t : ℕ) → ℤ
column_at n a c i t = entry n a c i (rule_at t)

-- the whole drawing: wire i on entering track t
abbrev pub drawn : (n : ℕ) (a c : ℕ → ℤ) → ℕ → ℕ → ℤ
drawn n a c i t = column_at n a (c i) i t
