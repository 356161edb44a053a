-- Best separation by halving (01; 003, sections 3 and 4), on the numbers x and y alone. They are functions: how a program reads the even half is
-- left open.
--
-- Worked: J = rows 0,1,4,5 and 1,2,3,4 has the ladder 4:2, 2:1, 1:0. Two pairs, h = 0: 0 is tried (4 differences) and is empty, so 1.
-- Four pairs, h = 1: 1 is tried (6) and is empty, 2 is tried (4) and is not. The count is 14. So J's best number is 2, which serves a separation of 3.
use Rattle.std.specs.Prelude.{Bool, cond, List, [], ◌∷◌, ℕ, zero, suc, ◌+◌, ◌-◌, ◌*◌, ltb, ℤ}
use Rattle.wiring.specs.Fit.{evens, half}
use Rattle.jumper.specs.Range.{is_empty}
use Rattle.jumper.specs.Span.{range_of}

-- a trial at s among m pairs asks whether the range there is empty
abbrev pub empty_at : (m : ℕ) (x y : ℕ → ℤ) (s : ℕ) → Bool
empty_at m x y s = is_empty (range_of m x y s)

-- "A trial at s among m pairs reads 2(m - s) differences."
abbrev pub read_at : (m s : ℕ) → ℕ
read_at m s = 2 * (m - s)

-- a number that was taken, and how many differences were read on the way
pub record Taken : Type 0 where
  pub best : ℕ
  pub count : ℕ

abbrev pub taken : ℕ → ℕ → Taken
taken s c = record { best = s; count = c }

-- "then 2h; the first with a nonempty range is taken, else 2h+1 without a trial", c differences having been read
unfoldable pub from_even : (m : ℕ) (x y : ℕ → ℤ) (h c : ℕ) → Taken
from_even m x y h c = cond (empty_at m x y (2 * h)) (taken (2 * h + 1) (c + read_at m (2 * h))) (taken (2 * h) (c + read_at m (2 * h)))

-- "Tried in order: 2h-1 if h >= 1, then 2h", h being the best of the even half
unfoldable pub from_half : (m : ℕ) (x y : ℕ → ℤ) (h c : ℕ) → Taken
from_half m x y h c =
    cond (ltb 0 h)
    (cond (empty_at m x y (2 * h - 1)) (from_even m x y h (c + read_at m (2 * h - 1))) (taken (2 * h - 1) (c + read_at m (2 * h - 1))))
    (from_even m x y h c)

-- what the halving of some pairs comes to. "The ladder .. holds for each level from n down to 1 two numbers: its size and its best separation",
-- as a number of the rule
pub record Halving : Type 0 where
  pub best : ℕ
  pub count : ℕ
  pub ladder : List ℕ

-- "One pair: best is 0."
abbrev pub one_pair : Halving
one_pair = record { best = 0; count = 0; ladder = 1 ∷ 0 ∷ [] }

-- a level of m pairs over what its even half came to
abbrev pub level_over : (m : ℕ) (x y : ℕ → ℤ) → Halving → Halving
level_over m x y e =
    record {
      best = (from_half m x y e.best e.count).best;
      count = (from_half m x y e.best e.count).count;
      ladder = m ∷ (from_half m x y e.best e.count).best ∷ e.ladder;
    }

-- "For m > 1 pairs the best separation of the even half (entries 0, 2, 4 .. of x and y) is worked out first", in at most so many halvings
unfoldable pub halving_in : ℕ → (m : ℕ) (x y : ℕ → ℤ) → Halving
halving_in zero m x y = one_pair
halving_in (suc f) m x y = cond (ltb 1 m) (level_over m x y (halving_in f (half m) (evens x) (evens y))) one_pair

-- m halvings are more than enough for m pairs: the laws `one_pair_lem` and `more_pairs` of proofs/Levels.antt say this with no number of halvings
abbrev pub halving : (m : ℕ) (x y : ℕ → ℤ) → Halving
halving m x y = halving_in m m x y

-- how many levels there are from m pairs down to one
unfoldable pub levels_in : ℕ → ℕ → ℕ
levels_in zero m = 1
levels_in (suc f) m = cond (ltb 1 m) (levels_in f (half m) + 1) 1

abbrev pub levels : ℕ → ℕ
levels m = levels_in m m

-- "at most 12n"
abbrev pub max_read_a_pair : ℕ
max_read_a_pair = 12

-- "The count is therefore fixed by the ladder." What the trials of a level of m pairs read, by its best b and its even half's best h:
-- 2h-1 was tried if h >= 1, and 2h unless 2h-1 was taken
abbrev pub read_between : (m b h : ℕ) → ℕ
read_between m b h = cond (ltb 0 h) (read_at m (2 * h - 1)) 0 + cond (ltb b (2 * h)) 0 (read_at m (2 * h))

-- from a level of m pairs with best b down the rest of the ladder
unfoldable pub count_under : (m b : ℕ) → List ℕ → ℕ
count_under m b [] = 0
count_under m b (k ∷ []) = 0
count_under m b (k ∷ h ∷ rest) = count_under k h rest + read_between m b h

unfoldable pub ladder_count : List ℕ → ℕ
ladder_count [] = 0
ladder_count (m ∷ []) = 0
ladder_count (m ∷ b ∷ rest) = count_under m b rest
