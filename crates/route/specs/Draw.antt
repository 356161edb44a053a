-- What is drawn (01, "Drawing and checking"; 02, #106; refusals 1 to 7, WIRE, BUFFER and NOFIT), and what the two calls promise.
use Rattle.std.specs.Prelude.{Ok, Err, ◌≡◌, List, ◌++◌, ◌↔◌, ℕ, ◌+◌, ◌*◌, ◌≤◌, ◌<◌, ltb, length, drop, ℤ}
use Rattle.wiring.specs.Wiring.{Point, Legal, pad, top_pad, HasWiring}
use Rattle.wiring.specs.Tracks.{rule_at}
use Rattle.wiring.specs.Table.{wire_of}
use Rattle.wiring.specs.Drawing.{drawn}
use Rattle.jumper.specs.Rows.{checked_numbers, pick, unless_refused, or_else}
use Rattle.jumper.specs.Asked.{check_asked, Asked}
use Rattle.jumper.specs.declared.refusal.Refusal.TheVariants.{Wire}
use Rattle.jumper.specs.Rows.{Checked}
use Rattle.fit.specs.Misfit.{misfit_of, no_fit, Witness}
use Rattle.route.specs.Table.{column_in, columns, wires, no_room, LegalRoute}

-- the columns that we give wire i, and the wires that they mean
abbrev pub drawn_of : (a b : List ℤ) (d : ℤ) → ℕ → ℕ → ℤ
drawn_of a b d i t = drawn (length a) (pad a) (top_pad b d) i t

abbrev pub drawn_wires : (a b : List ℤ) (s : ℕ) (d : ℤ) → ℕ → List Point
drawn_wires a b s d i = wire_of (drawn_of a b d i) s

-- a buffer after wire i was drawn into it, and after all wires were: "Places beyond are untouched."
abbrev pub wire_drawn : (a b : List ℤ) (s : ℕ) (d : ℤ) (i : ℕ) (out : List ℤ) → List ℤ
wire_drawn a b s d i out = columns (drawn_of a b d i) (s + 1) ++ drop (s + 1) out

abbrev pub all_drawn : (a b : List ℤ) (s : ℕ) (d : ℤ) (out : List ℤ) → List ℤ
all_drawn a b s d out = wires (drawn_of a b d) s (length a) ++ drop (length a * (s + 1)) out

-- a buffer after a call: "no lent memory changes" on a refusal
abbrev pub buffer_after : Checked → (changed out : List ℤ) → List ℤ
buffer_after r changed out = unless_refused r (λ q. out) changed

-- WIRE, "wire number >= n"
abbrev pub no_wire : (n wire : ℕ) → Checked
no_wire n wire = pick (ltb wire n) (Ok tt) (Err Wire)

-- the refusals in 01's order, for a buffer of `room` places
abbrev pub wire_refusal : (a b : List ℤ) (s : ℕ) (d : ℤ) (wire room : ℕ) → Checked
wire_refusal a b s d wire room = or_else (check_asked a b s d) (or_else (no_wire (length a) wire) (or_else (no_room (s + 1) room) (no_fit (misfit_of a b (rule_at s) d))))

abbrev pub all_refusal : (a b : List ℤ) (s : ℕ) (d : ℤ) (room : ℕ) → Checked
all_refusal a b s d room = or_else (check_asked a b s d) (or_else (no_room (length a * (s + 1)) room) (no_fit (misfit_of a b (rule_at s) d)))

-- What `draw_wire` promises of a buffer `out` and what it holds after the call, `out'`: the wire that its places mean is wire `wire` of a legal wiring.
-- NOFIT is given exactly when nothing else is refused and there is no legal wiring. A refusal writes nothing.
pub record DrawWireAnswer (a b : List ℤ) (s : ℕ) (d : ℤ) (wire : ℕ) (out out' : List ℤ) (r : Checked) : Type 0 where
  pub answer : r ≡ wire_refusal a b s d wire (length out)
  pub buffer : out' ≡ buffer_after r (wire_drawn a b s d wire out) out
  pub refused : ((checked_numbers r).refusal ≡ 0 → ⊥) → out' ≡ out
  pub draws : ((checked_numbers r).refusal ≡ 0) ↔ (Asked a b s d × (wire < length a) × (s < length out) × HasWiring a b s d)
  pub places : (checked_numbers r).refusal ≡ 0 → (t : ℕ) → t ≤ s → pad out' t ≡ drawn_of a b d wire t
  pub means : (checked_numbers r).refusal ≡ 0 → wire_of (pad out') s ≡ drawn_wires a b s d wire
  pub legal : (checked_numbers r).refusal ≡ 0 → Legal (length a) s (pad a) (top_pad b d) (drawn_wires a b s d)
  pub prevents : ((checked_numbers r).refusal ≡ 10) ↔ (Asked a b s d × (wire < length a) × (s < length out) × (HasWiring a b s d → ⊥))
  pub witness : (checked_numbers r).refusal ≡ 10 → Witness a b s d (checked_numbers r).pair (checked_numbers r).side

-- What `draw_all` promises: the wires that the places mean are a legal wiring; of NOFIT and of a refusal the same.
pub record DrawAllAnswer (a b : List ℤ) (s : ℕ) (d : ℤ) (out out' : List ℤ) (r : Checked) : Type 0 where
  pub answer : r ≡ all_refusal a b s d (length out)
  pub buffer : out' ≡ buffer_after r (all_drawn a b s d out) out
  pub refused : ((checked_numbers r).refusal ≡ 0 → ⊥) → out' ≡ out
  pub draws : ((checked_numbers r).refusal ≡ 0) ↔ (Asked a b s d × (length a * (s + 1) ≤ length out) × HasWiring a b s d)
  pub places : (checked_numbers r).refusal ≡ 0 → (i t : ℕ) → i < length a → t ≤ s → column_in out' s i t ≡ drawn_of a b d i t
  pub legal : (checked_numbers r).refusal ≡ 0 → LegalRoute a b s d out'
  pub prevents : ((checked_numbers r).refusal ≡ 10) ↔ (Asked a b s d × (length a * (s + 1) ≤ length out) × (HasWiring a b s d → ⊥))
  pub witness : (checked_numbers r).refusal ≡ 10 → Witness a b s d (checked_numbers r).pair (checked_numbers r).side
