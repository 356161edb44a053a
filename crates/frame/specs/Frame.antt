-- Which line is which frame (01, "Sheets"): "A good input frame has kind 10, 11 or 12, its kind's exact length, k in range, the right sum and its
-- line feed. Every other line is a bad frame." Kinds are hexadecimal: 16, 17 and 18 here.
--
-- Worked: 10000002FFFF00000000F0 opens line 0 of 2 pairs, at the least separation and offset 0.
use Rattle.std.specs.Prelude.{ℕ, zero, suc, ◌+◌, ◌-◌, ◌*◌, Bool, false, cond, List, [], ◌∷◌, length, take, ℤ, ◌==◌, nat_le, nat_lt, slice_index, Option, None, Some}
use Rattle.std.specs.Int.{w32}
use Rattle.std.proofs.Common.{to_z}
use Rattle.frame.specs.Hex.{bytes_of, is_sound}
use Rattle.frame.specs.declared.read.Order.{Order}
use Rattle.frame.specs.declared.read.Said.{Said}
use Rattle.frame.specs.declared.read.Said.TheVariants.{Header, Bottom, Top}

pub data Frame : Type 0 where
  -- every other line
  bad : Frame
  -- "10: line (1), n (2), separation (2, FFFF = least), offset (4, 80000000 = best)"
  header : Order → Frame
  -- "11 and 12: line (1), k from 1 to 16 (1), k columns (4 each), bottom then top"
  bottom : ℕ → List ℤ → Frame
  top : ℕ → List ℤ → Frame

-- "Numbers are high byte first; 4-byte ones are two's complement": the byte, the 2-byte and the 4-byte number at place i
abbrev pub one : List ℕ → ℕ → ℕ
one bs i = slice_index bs i

abbrev pub two : List ℕ → ℕ → ℕ
two bs i = 256 * one bs i + one bs (i + 1)

abbrev pub four : List ℕ → ℕ → ℤ
four bs i = to_z w32 (16777216 * one bs i + 65536 * one bs (i + 1) + 256 * one bs (i + 2) + one bs (i + 3))

-- k 4-byte numbers from place i on
unfoldable pub fours : List ℕ → ℕ → ℕ → List ℤ
fours bs i zero = []
fours bs i (suc k) = four bs i ∷ fours bs (i + 4) k

-- a header is 10 bytes and the sum's
unfoldable pub header_of : List ℕ → Frame
header_of bs = cond (length bs == 11) (header (record { line = one bs 1; pairs = two bs 2; separation = two bs 4; offset = four bs 6 })) bad

-- k, if it is in range and the frame has the length for it: 3 bytes, 4 for each column, and the sum's; else 0
unfoldable pub count_of : List ℕ → ℕ
count_of bs = cond (nat_le 1 (one bs 2)) (cond (nat_le (one bs 2) 16) (cond (length bs == 4 * one bs 2 + 4) (one bs 2) 0) 0) 0

unfoldable pub carrier_of : (ℕ → List ℤ → Frame) → List ℕ → Frame
carrier_of row bs = cond (count_of bs == 0) bad (row (one bs 1) (fours bs 3 (count_of bs)))

unfoldable pub kind_of : List ℕ → Frame
kind_of bs =
    cond (one bs 0 == 16) (header_of bs)
    (cond (one bs 0 == 17) (carrier_of bottom bs)
    (cond (one bs 0 == 18) (carrier_of top bs)
    bad))

-- the frame of a line's text, all before its line feed
unfoldable pub text_frame : List ℕ → Frame
text_frame text = cond (is_sound text) (kind_of (bytes_of text)) bad

-- a line that ends with a line feed
unfoldable pub is_fed : List ℕ → Bool
is_fed line = cond (nat_lt 0 (length line)) (one line (length line - 1) == 10) false

-- THE definition: the frame that a line is, its line feed with it
unfoldable pub frame_of : List ℕ → Frame
frame_of line = cond (is_fed line) (text_frame (take (length line - 1) line)) bad

-- what reading a line hands back: of columns their count; they themselves go into lent memory
abbrev pub said_of : Frame → Option Said
said_of bad = None
said_of (header o) = Some (Header o)
said_of (bottom l cs) = Some (Bottom l (length cs))
said_of (top l cs) = Some (Top l (length cs))

abbrev pub columns_of : Frame → List ℤ
columns_of bad = []
columns_of (header o) = []
columns_of (bottom l cs) = cs
columns_of (top l cs) = cs
