-- Where the columns of a route stand (01, "Drawing and checking"): "Calls draw one wire into s + 1 places, or all wires, wire after wire, into n(s + 1) places."
-- What the columns mean is `LegalTable` of wiring's Table.
use Rattle.std.specs.Prelude.{Ok, Err, List, [], ◌∷◌, ◌++◌, ℕ, zero, suc, ◌+◌, ◌*◌, ltb, length, get_or, ℤ, pos}
use Rattle.wiring.specs.Wiring.{pad, top_pad}
use Rattle.wiring.specs.Table.{LegalTable}
use Rattle.jumper.specs.Rows.{pick}
use Rattle.jumper.specs.declared.refusal.Refusal.TheVariants.{Buffer}
use Rattle.jumper.specs.Rows.{Checked}

-- THE TABLE READ by wire and track: "the column on which it enters each track". All laws about i * (s + 1) + t are in proofs/Places.antt
unfoldable pub column_in : (table : List ℤ) (s i t : ℕ) → ℤ
column_in table s i t = get_or table (i * (s + 1) + t) (pos 0)

-- the first k columns of a wire that enters track t on column e t
unfoldable pub columns : (ℕ → ℤ) → ℕ → List ℤ
columns e zero = []
columns e (suc k) = columns e k ++ (e k ∷ [])

-- "all wires, wire after wire": s + 1 columns of each of the first k wires
unfoldable pub wires : (ℕ → ℕ → ℤ) → (s k : ℕ) → List ℤ
wires e s zero = []
wires e s (suc k) = wires e s k ++ columns (e k) (s + 1)

-- BUFFER, "a lent buffer is too short": `room` places are lent where `places` are wanted
abbrev pub no_room : (places room : ℕ) → Checked
no_room places room = pick (ltb room places) (Err Buffer) (Ok tt)

-- the wires that a table means are a legal wiring of rows a and b
abbrev pub LegalRoute : (a b : List ℤ) (s : ℕ) (d : ℤ) (table : List ℤ) → Type 0
LegalRoute a b s d table = LegalTable (length a) s (pad a) (top_pad b d) (column_in table s)
