-- How frames are written (01, "Sheets"). What is sent to us is written by `written`; the answers are `answer_line` and `move_line`.
--
-- Worked: least separation 3 at offset 0 with the witness 0, RIGHT, on line 0, is 20000000030000000000000000000001DC.
use Rattle.std.specs.Prelude.{ℕ, ◌/◌, ◌%◌, List, [], ◌∷◌, ◌++◌, length, ℤ}
use Rattle.std.specs.Int.{w32}
use Rattle.std.specs.List.{flat_map}
use Rattle.std.proofs.Common.{of_z}
use Rattle.frame.specs.Hex.{line_of}
use Rattle.frame.specs.Frame.{Frame, bad, header, bottom, top}
use Rattle.frame.specs.declared.write.Answer.{Answer}
use Rattle.frame.specs.declared.write.Move.{Move}

-- "Numbers are high byte first; 4-byte ones are two's complement."
abbrev pub two_bytes : ℕ → List ℕ
two_bytes n = n / 256 % 256 ∷ n % 256 ∷ []

abbrev pub four_bytes : ℤ → List ℕ
four_bytes z = of_z w32 z / 16777216 % 256 ∷ of_z w32 z / 65536 % 256 ∷ of_z w32 z / 256 % 256 ∷ of_z w32 z % 256 ∷ []

unfoldable pub column_bytes : List ℤ → List ℕ
column_bytes zs = flat_map four_bytes zs

-- the bytes of a frame but the sum's
abbrev pub input_bytes : Frame → List ℕ
input_bytes bad = []
input_bytes (header o) = 16 ∷ o.line ∷ two_bytes o.pairs ++ two_bytes o.separation ++ four_bytes o.offset
input_bytes (bottom l cs) = 17 ∷ l ∷ length cs ∷ column_bytes cs
input_bytes (top l cs) = 18 ∷ l ∷ length cs ∷ column_bytes cs

-- how a frame of the input kinds is written
unfoldable pub written : Frame → List ℕ
written f = line_of (input_bytes f)

-- "20: line, refusal (1), separation (2), lowest and highest offset (4, 4), pair (2), side (1)"
unfoldable pub answer_line : Answer → List ℕ
answer_line k =
    line_of (32 ∷ k.line ∷ k.refusal ∷ two_bytes k.separation ++ four_bytes k.lowest ++ four_bytes k.highest ++ two_bytes k.pair ++ (k.side ∷ []))

-- "21: line, wire (2), track (2), from and to column (4, 4)"
unfoldable pub move_line : Move → List ℕ
move_line m = line_of (33 ∷ m.line ∷ two_bytes m.wire ++ two_bytes m.track ++ four_bytes m.from ++ four_bytes m.to)
