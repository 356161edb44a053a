-- What a table of columns means (01, "Drawing and checking"): "A route gives each wire s + 1 columns e_0 .. e_s: the column on which it enters
-- each track. On track t < s it fills all columns between e_t and e_(t+1), ends included."
use Rattle.std.specs.Prelude.{cond, ◌≡◌, List, [], ◌∷◌, ◌⊎◌, ℕ, zero, suc, ◌<◌, ℤ, pos, ◌+ℤ◌, ◌-ℤ◌, nat_abs, ◌≤ℤ◌}
use Rattle.std.specs.Int.Signed.{le_z}
use Rattle.wiring.specs.Wiring.{Point, at, Legal}

abbrev pub east : ℤ → ℤ
east x = x +ℤ pos 1

abbrev pub west : ℤ → ℤ
west x = x -ℤ pos 1

-- from column x on track t, k steps of one column, and then the rest
unfoldable pub steps : (ℤ → ℤ) → ℕ → ℤ → ℕ → List Point → List Point
steps go zero x t rest = rest
steps go (suc k) x t rest = at (go x) t ∷ steps go k (go x) t rest

-- from column x on track t along it to column y, and then the rest
unfoldable pub along : (x y : ℤ) → ℕ → List Point → List Point
along x y t rest = cond (le_z x y) (steps east (nat_abs (y -ℤ x)) x t rest) (steps west (nat_abs (x -ℤ y)) x t rest)

-- from column e t on track t, m tracks up: along the track to column e (t + 1), one step up there, and so on
unfoldable pub up_from : (ℕ → ℤ) → ℕ → ℕ → List Point
up_from e t zero = []
up_from e t (suc m) = along (e t) (e (suc t)) t (at (e (suc t)) (suc t) ∷ up_from e (suc t) m)

-- the wire that columns e 0 .. e s mean
unfoldable pub wire_of : (ℕ → ℤ) → ℕ → List Point
wire_of e s = at (e 0) 0 ∷ up_from e 0 s

-- the points that the columns mean: on a track below s all between two columns of entry, on track s only the last.
-- That `wire_of` goes through exactly these is the law `wire_fills` of proofs/Build.antt
abbrev pub Between : ℤ → ℤ → ℤ → Type 0
Between x y z = ((y ≤ℤ x) × (x ≤ℤ z)) ⊎ ((z ≤ℤ x) × (x ≤ℤ y))

abbrev pub Fills : (ℕ → ℤ) → ℕ → Point → Type 0
Fills e s p = ((p.track < s) × Between p.column (e p.track) (e (suc p.track))) ⊎ ((p.track ≡ s) × (p.column ≡ e s))

-- a table, wire i entering track t on column e i t, is legal: its wires are a legal wiring
abbrev pub LegalTable : (n s : ℕ) (a c : ℕ → ℤ) (e : ℕ → ℕ → ℤ) → Type 0
LegalTable n s a c e = Legal n s a c (λ i. wire_of (e i) s)
