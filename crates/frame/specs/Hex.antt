-- Hexadecimal and the sum (01, "Sheets"): "Lines of hexadecimal, one frame a line: capital digits, two a byte, then a line feed. The last byte
-- makes the sum of all bytes, carried round at 256, come to 0; carries past 255 are dropped."
use Rattle.std.specs.Prelude.{◌≡◌, ℕ, ◌+◌, ◌-◌, ◌*◌, ◌/◌, ◌%◌, ◌<◌, Bool, true, false, cond, List, [], ◌∷◌, ◌++◌, length, sum, ◌==◌, nat_lt, slice_index}
use Rattle.std.specs.List.{flat_map, list_all}

-- a capital digit: 0 to 9 are the bytes 48 to 57, A to F the bytes 65 to 70
unfoldable pub is_digit : ℕ → Bool
is_digit c = cond (nat_lt c 48) false (cond (nat_lt c 58) true (cond (nat_lt c 65) false (nat_lt c 71)))

-- what a digit is worth; nothing reads it of another byte
unfoldable pub value_of : ℕ → ℕ
value_of c = cond (is_digit c) (cond (nat_lt c 58) (c - 48) (c - 55)) 0

-- the digit that is worth d
unfoldable pub digit_of : ℕ → ℕ
digit_of d = cond (nat_lt d 10) (48 + d) (55 + d)

-- "two a byte": the bytes of a text, the digits of a byte, and the text of bytes
unfoldable pub bytes_of : List ℕ → List ℕ
bytes_of [] = []
bytes_of (h ∷ []) = []
bytes_of (h ∷ l ∷ cs) = (16 * value_of h + value_of l) ∷ bytes_of cs

abbrev pub byte_text : ℕ → List ℕ
byte_text b = digit_of (b / 16 % 16) ∷ digit_of (b % 16) ∷ []

unfoldable pub text_of : List ℕ → List ℕ
text_of bs = flat_map byte_text bs

-- the byte that makes the sum of these bytes and itself, carried round at 256, come to 0
unfoldable pub last_byte : List ℕ → ℕ
last_byte bs = (256 - sum bs % 256) % 256

-- a text of whole bytes in capital digits whose sum, carried round at 256, is 0
unfoldable pub is_sound : List ℕ → Bool
is_sound text = cond (length text % 2 == 0) (cond (list_all is_digit text) (sum (bytes_of text) % 256 == 0) false) false

-- the line of a frame's bytes: the byte that the sum wants after them, all in hexadecimal, a line feed
unfoldable pub line_of : List ℕ → List ℕ
line_of bs = text_of (bs ++ (last_byte bs ∷ [])) ++ (10 ∷ [])

-- ---- what the parts of the code promise each other

-- what a byte of a text is worth, 16 if it is no digit
abbrev pub worth : ℕ → ℕ
worth c = cond (is_digit c) (value_of c) 16

-- the worths of a text's bytes, each at its place, and whether all are digits
pub record WorthsRead (text : List ℕ) (r : Bool) (worths : List ℕ) : Type 0 where
  pub digits : r ≡ list_all is_digit text
  pub worth : (i : ℕ) → i < length text → slice_index worths i ≡ worth (slice_index text i)

-- the byte of two digits, by their worths
abbrev pub byte_at : List ℕ → ℕ → ℕ
byte_at worths i = 16 * slice_index worths (2 * i) + slice_index worths (2 * i + 1)

-- the bytes of pairs of digits, and their sum, carried round at 256
pub record BytesLaid (worths : List ℕ) (r : ℕ) (bytes : List ℕ) : Type 0 where
  pub byte : (i : ℕ) → i < length bytes → slice_index bytes i ≡ byte_at worths i
  pub sum : r ≡ sum bytes % 256

-- a sound text, and its bytes
pub record Decoded (text bytes : List ℕ) : Type 0 where
  pub sound : is_sound text ≡ true
  pub is : bytes ≡ bytes_of text
  pub long : length bytes ≡ length text / 2
