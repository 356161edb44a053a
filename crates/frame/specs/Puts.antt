-- What the calls do to lent memory, at every input.
use Rattle.std.specs.Prelude.{◌≡◌, ℕ, ◌+◌, ◌<◌, ◌≤◌, cond, ◌==◌, List, [], ◌∷◌, length, ℤ, slice_set, Option, None, Some}
use Rattle.frame.specs.Frame.{Frame, fours, count_of, said_of, columns_of}
use Rattle.frame.specs.declared.read.Said.{Said}

-- a list with others stored over it from place i on
unfoldable pub puts : {A : Type 0} → List A → ℕ → List A → List A
puts l i [] = l
puts l i (v ∷ vs) = puts (slice_set l i v) (i + 1) vs

-- a line written at place `at` if it has room, and the place after it; else nothing is changed
pub record LinePut (line out : List ℕ) (at to : ℕ) (out' : List ℕ) : Type 0 where
  pub room : at + length line ≤ length out → (to ≡ at + length line) × (out' ≡ puts out at line)
  pub full : length out < at + length line → (to ≡ at) × (out' ≡ out)

-- a line that is frame f was read: what it says, and its columns from the first place on
pub record ReadIn (f : Frame) (columns : List ℤ) (r : Option Said) (columns' : List ℤ) : Type 0 where
  pub said : r ≡ said_of f
  pub carried : columns' ≡ puts columns 0 (columns_of f)

-- ---- what the parts of the code promise each other

-- the columns of a sound text's bytes, from the first place on, and how many, if there are some
pub record Carried (bs : List ℕ) (columns : List ℤ) (r : Option ℕ) (columns' : List ℤ) : Type 0 where
  pub count : r ≡ cond (count_of bs == 0) None (Some (count_of bs))
  pub put : columns' ≡ puts columns 0 (fours bs 3 (count_of bs))
