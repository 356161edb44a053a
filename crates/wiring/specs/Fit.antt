-- The rule of fit (01, "Rules of fit"; 003, theorems 1 and 3), on the numbers x and y alone: it knows nothing of tracks or wires.
-- Which separation it serves is said in Tracks.antt, and which wirings it speaks for is proved in proofs/Theorem.antt.
--
-- Worked: J = rows 0,1,4,5 and 1,2,3,4 has x = 0,0,2,2 and y = 1,1,1,1. At s = 2 the rule says -1 <= d <= 1; at s = 1 it says 1 <= d <= -1.
use Rattle.std.specs.Prelude.{List, ℕ, suc, ◌+◌, ◌-◌, ◌*◌, ◌/◌, ◌≤◌, ◌<◌, ℤ, pos, neg_ℤ, ◌-ℤ◌, ◌≤ℤ◌, ◌<ℤ◌}
use Rattle.wiring.specs.Wiring.{pad}

-- "Put x_i = a_i - i and y_i = b_i - i."
abbrev pub lean : (ℕ → ℤ) → ℕ → ℤ
lean a i = a i -ℤ pos i

-- the same of a row that is a list: x of the bottom row, y of the top row
abbrev pub lean_of : List ℤ → ℕ → ℤ
lean_of a i = lean (pad a) i

-- "each greater than the one before": the first n columns of a row rise
abbrev pub Rising : ℕ → (ℕ → ℤ) → Type 0
Rising n a = (i : ℕ) → i + 1 < n → a i <ℤ a (i + 1)

-- "Both never fall."
abbrev pub Steady : ℕ → (ℕ → ℤ) → Type 0
Steady n x = (i j : ℕ) → i ≤ j → j < n → x i ≤ℤ x j

-- the two ends that pair i sets: "x_i - y_(i+s) <= d <= x_(i+s) - y_i"
abbrev pub low_end : (x y : ℕ → ℤ) → ℕ → ℕ → ℤ
low_end x y s i = x i -ℤ y (i + s)

abbrev pub high_end : (x y : ℕ → ℤ) → ℕ → ℕ → ℤ
high_end x y s i = x (i + s) -ℤ y i

-- "(s, d) fits exactly when, for every i with 0 <= i < n - s, .."
pub record Fits (n s : ℕ) (x y : ℕ → ℤ) (d : ℤ) : Type 0 where
  pub low : (i : ℕ) → i + s < n → low_end x y s i ≤ℤ d
  pub high : (i : ℕ) → i + s < n → d ≤ℤ high_end x y s i

-- "Side RIGHT: d is above x_(i+s) - y_i, so top pad i is too far right for bottom pad i+s. Side LEFT: d is below x_i - y_(i+s)."
pub record TooRight (n s : ℕ) (x y : ℕ → ℤ) (d : ℤ) (i : ℕ) : Type 0 where
  pub inside : i + s < n
  pub above : high_end x y s i <ℤ d

pub record TooLeft (n s : ℕ) (x y : ℕ → ℤ) (d : ℤ) (i : ℕ) : Type 0 where
  pub inside : i + s < n
  pub under : d <ℤ low_end x y s i

-- the even half of m entries: "entries 0, 2, 4 .. of x and y", and how many they are
abbrev pub evens : (ℕ → ℤ) → ℕ → ℤ
evens x i = x (2 * i)

abbrev pub half : ℕ → ℕ
half m = (m + 1) / 2

-- a row of n pads seen from behind: columns negated, order turned round
abbrev pub behind : ℕ → (ℕ → ℤ) → ℕ → ℤ
behind n a i = neg_ℤ (a (n - suc i))
