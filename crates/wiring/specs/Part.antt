-- WHAT IS LEFT OF A JUMPER with some of its pads bare (02, #113): "when any pairs are taken off, so long as one remains", and a jumper with "a pair added
-- after the last". For rows of any numbers, accepted or not. The laws are `dropped_wiring`, `shorter_wiring` and `added_wiring` of proofs/Parts.antt. That
-- what remains of accepted rows is accepted (`part_rows`), and what follows for least and best separations (`least_dropped`, `best_dropped`, `least_added`,
-- `best_added`), is said in crate parts, Remains.antt and Laws.antt of its proofs/.
--
-- Worked: J = rows 0,1,4,5 and 1,2,3,4 without its pair 1 is rows 0,4,5 and 1,3,4: the pairs 0, 2 and 3 stay, and are pairs 0, 1 and 2 of the part.
-- Two rows 0 and 0 with the pair 1, 2 added after the last are rows 0,1 and 0,2.
use Rattle.std.specs.Prelude.{List, [], ◌∷◌, ◌++◌, map, ℕ, ◌+◌, ◌<◌, length, get_or, ℤ}
use Rattle.wiring.specs.Wiring.{pad}

-- the number that pair i of the part has in the jumper, of a list of the pairs that stay
abbrev pub pair_of : List ℕ → ℕ → ℕ
pair_of kept i = get_or kept i 0

-- a choice of a jumper's n pairs: their numbers, each greater than the one before, so that their order is kept
pub record Choice (n : ℕ) (kept : List ℕ) : Type 0 where
  pub inside : (i : ℕ) → i < length kept → pair_of kept i < n
  pub rises : (i : ℕ) → i + 1 < length kept → pair_of kept i < pair_of kept (i + 1)

-- a row with only these pads left in it
abbrev pub part_of : List ℕ → List ℤ → List ℤ
part_of kept a = map (pad a) kept

-- a row with one pad more after the last
abbrev pub longer : List ℤ → ℤ → List ℤ
longer a x = a ++ (x ∷ [])
