-- What a legal wiring is (01, "The jumper"; 003), beside a stiffener at both ends (02, #106). For every reader: all that is said to exist, or not to,
-- is a `Legal` of this file.
--
-- Worked: rows 0,1 and 1,2 at offset 0. Three tracks do: wire 1 goes up to track 1, right to column 2 and up; wire 0 goes up to track 2, right to column 1 and up.
-- Two tracks don't: both would have to go right on track 1, and wire 0 would meet wire 1 where that comes up from its pad.
use Rattle.std.specs.Prelude.{◌≡◌, List, ◌⊎◌, ◌≢◌, ℕ, ◌+◌, ◌-◌, ◌≤◌, ◌<◌, length, get_or, ℤ, pos, ◌+ℤ◌}

-- a point of the grid; "columns may be any whole number, negative ones too"
pub record Point : Type 0 where
  pub column : ℤ
  pub track : ℕ

abbrev pub at : ℤ → ℕ → Point
at x t = record { column = x; track = t }

-- the k-th point of a list of points
abbrev pub nth : List Point → ℕ → Point
nth w k = get_or w k (at (pos 0) 0)

-- "Each step moves one unit along a column or a track": to the next column on the same track, or to the next track in the same column
abbrev pub Beside : ℤ → ℤ → Type 0
Beside x y = (y ≡ x +ℤ pos 1) ⊎ (x ≡ y +ℤ pos 1)

abbrev pub Above : ℕ → ℕ → Type 0
Above t u = (u ≡ t + 1) ⊎ (t ≡ u + 1)

abbrev pub Step : Point → Point → Type 0
Step p q = ((p.track ≡ q.track) × Beside p.column q.column) ⊎ ((p.column ≡ q.column) × Above p.track q.track)

-- "A wire is a list of grid points", from a bottom pad at column a to a top pad at column c, s tracks above
pub record Wire (s : ℕ) (a c : ℤ) (w : List Point) : Type 0 where
  pub some : 0 < length w
  -- "It starts at its bottom pad and ends at its top pad."
  pub starts : nth w 0 ≡ at a 0
  pub ends : nth w (length w - 1) ≡ at c s
  pub steps : (k : ℕ) → k + 1 < length w → Step (nth w k) (nth w (k + 1))
  -- "It stays on tracks 0 to s, and only its last point is on track s."
  pub stays : (k : ℕ) → k < length w → (nth w k).track ≤ s
  pub below : (k : ℕ) → k + 1 < length w → (nth w k).track ≢ s
  -- 02: "only a wire's first point may stand on track 0"
  pub leaves : (k : ℕ) → k + 1 < length w → (nth w (k + 1)).track ≢ 0

-- p is one of the points of w
abbrev pub On : Point → List Point → Type 0
On p w = (k : ℕ) × (k < length w) × (nth w k ≡ p)

-- "A legal wiring is n such wires with no grid point in two of them": wire i joins column a i below to column c i above
pub record Legal (n s : ℕ) (a c : ℕ → ℤ) (w : ℕ → List Point) : Type 0 where
  pub wires : (i : ℕ) → i < n → Wire s (a i) (c i) (w i)
  pub apart : (i j : ℕ) → i < j → j < n → (p : Point) → On p (w i) → On p (w j) → ⊥

-- a legal wiring, of any shape, exists
abbrev pub Wirable : (n s : ℕ) (a c : ℕ → ℤ) → Type 0
Wirable n s a c = (w : ℕ → List Point) × Legal n s a c w

-- A row as a list of columns: "Bottom pad i is at column a_i on track 0. Top pad i is at column b_i + d on track s."
abbrev pub pad : List ℤ → ℕ → ℤ
pad a i = get_or a i (pos 0)

abbrev pub top_pad : List ℤ → ℤ → ℕ → ℤ
top_pad b d i = pad b i +ℤ d

-- the jumper of rows a and b has a legal wiring at separation s and offset d
abbrev pub HasWiring : (a b : List ℤ) (s : ℕ) (d : ℤ) → Type 0
HasWiring a b s d = Wirable (length a) s (pad a) (top_pad b d)
