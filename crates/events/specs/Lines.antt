-- The lines of a sheet (01, "Sheets": "Lines of hexadecimal, one frame a line").
use Rattle.std.specs.Prelude.{cond, List, [], ◌∷◌, ◌++◌, ℕ, eqb}

-- a last line that has no line feed; none if the sheet ended with one
unfoldable pub last_line : List ℕ → List (List ℕ)
last_line [] = []
last_line (b ∷ bs) = (b ∷ bs) ∷ []

-- the lines of what is left of a sheet, where the current line has these bytes so far: each line with its line feed
unfoldable pub lines_from : List ℕ → List ℕ → List (List ℕ)
lines_from line [] = last_line line
lines_from line (b ∷ bs) = cond (eqb b 10) ((line ++ (10 ∷ [])) ∷ lines_from [] bs) (lines_from (line ++ (b ∷ [])) bs)

abbrev pub lines_of : List ℕ → List (List ℕ)
lines_of sheet = lines_from [] sheet
