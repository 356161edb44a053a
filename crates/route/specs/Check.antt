-- Which fault the checker finds (01, "Drawing and checking"): "It reports the first fault by track, then wire: wrong start on track 0, wrong end on track s,
-- or, below track s, a run whose highest column isn't below the next wire's lowest. Acceptance must equal legality as defined over grid points."
-- And 02, #106: "a step aside on track 0 faults that wire there".
-- Here wire i of n enters track t on column e i t; its pads are at columns a i below and c i above.
--
-- Worked: rows 0,1 and 1,2 at offset 0 and separation 3. The table 0,0,0,1 / 1,1,2,2 is legal. In 0,0,0,1 / 1,2,2,2 wire 1 steps aside on track 0, where nobody
-- is in its way: the fault is wire 1's. In 0,0,0,1 / 1,0,2,2 it steps to column 0, so wire 0's run isn't below it: the first fault is wire 0's, on track 0.
use Rattle.std.specs.Prelude.{Ok, Err, Bool, true, false, cond, ◌≡◌, List, ◌⊎◌, ◌≢◌, ◌↔◌, ℕ, zero, suc, ◌+◌, ◌*◌, ◌≤◌, ◌<◌, eqb, ltb, length, take, ℤ, ◌≤ℤ◌, ◌<ℤ◌}
use Rattle.std.specs.Int.Signed.{le_z}
use Rattle.whole.specs.Pick.{differ, larger_of, smaller_of}
use Rattle.wiring.specs.Wiring.{pad, top_pad}
use Rattle.jumper.specs.Rows.{checked_numbers, pick, or_else}
use Rattle.jumper.specs.Asked.{check_asked, Asked}
use Rattle.jumper.specs.declared.refusal.Refusal.TheVariants.{BadWire}
use Rattle.jumper.specs.Rows.{Checked}
use Rattle.route.specs.Table.{column_in, no_room, LegalRoute}

-- the rightmost and the leftmost column of wire i's run on track t < s: 01's highest and lowest
abbrev pub rightmost : (ℕ → ℕ → ℤ) → ℕ → ℕ → ℤ
rightmost e i t = larger_of (e i t) (e i (suc t))

abbrev pub leftmost : (ℕ → ℕ → ℤ) → ℕ → ℕ → ℤ
leftmost e i t = smaller_of (e i t) (e i (suc t))

-- "wrong start on track 0"
abbrev pub WrongStart : (a : ℕ → ℤ) (e : ℕ → ℕ → ℤ) (t i : ℕ) → Type 0
WrongStart a e t i = (t ≡ 0) × (e i 0 ≢ a i)

-- "wrong end on track s"
abbrev pub WrongEnd : (s : ℕ) (c : ℕ → ℤ) (e : ℕ → ℕ → ℤ) (t i : ℕ) → Type 0
WrongEnd s c e t i = (t ≡ s) × (e i s ≢ c i)

-- 02: "a step aside on track 0"; at separation 0 a wire has no second column
abbrev pub StepsAside : (s : ℕ) (e : ℕ → ℕ → ℤ) (t i : ℕ) → Type 0
StepsAside s e t i = (t ≡ 0) × (0 < s) × (e i 1 ≢ e i 0)

-- "below track s, a run whose highest column isn't below the next wire's lowest"
pub record Touching (n s : ℕ) (e : ℕ → ℕ → ℤ) (t i : ℕ) : Type 0 where
  pub track : t < s
  pub wire : suc i < n
  pub touches : leftmost e (suc i) t ≤ℤ rightmost e i t

-- a fault at wire i on track t, with its kind
abbrev pub Fault : (n s : ℕ) (a c : ℕ → ℤ) (e : ℕ → ℕ → ℤ) (t i : ℕ) → Type 0
Fault n s a c e t i = WrongStart a e t i ⊎ WrongEnd s c e t i ⊎ StepsAside s e t i ⊎ Touching n s e t i

-- no fault at wire i on any track, and none at all
abbrev pub WireClear : (n s : ℕ) (a c : ℕ → ℤ) (e : ℕ → ℕ → ℤ) (i : ℕ) → Type 0
WireClear n s a c e i = (t : ℕ) → t ≤ s → Fault n s a c e t i → ⊥

abbrev pub NoFault : (n s : ℕ) (a c : ℕ → ℤ) (e : ℕ → ℕ → ℤ) → Type 0
NoFault n s a c e = (i : ℕ) → i < n → WireClear n s a c e i

-- the runs of two wires, on columns p and q, are in order on every track below s
abbrev pub RunsApart : (p q : ℕ → ℤ) (s : ℕ) → Type 0
RunsApart p q s = (t : ℕ) → t < s → larger_of (p t) (p (suc t)) <ℤ smaller_of (q t) (q (suc t))

-- "the first fault by track, then wire": none on an earlier track, and none at an earlier wire of this track
pub record FirstFault (n s : ℕ) (a c : ℕ → ℤ) (e : ℕ → ℕ → ℤ) (i t : ℕ) : Type 0 where
  pub wire : i < n
  pub track : t ≤ s
  pub fault : Fault n s a c e t i
  pub tracks : (u j : ℕ) → u < t → j < n → Fault n s a c e u j → ⊥
  pub wires : (j : ℕ) → j < i → Fault n s a c e t j → ⊥

-- the same by tests
unfoldable pub start_wrong : (a : ℕ → ℤ) (e : ℕ → ℕ → ℤ) (t i : ℕ) → Bool
start_wrong a e t i = cond (eqb t 0) (differ (e i 0) (a i)) false

unfoldable pub end_wrong : (s : ℕ) (c : ℕ → ℤ) (e : ℕ → ℕ → ℤ) (t i : ℕ) → Bool
end_wrong s c e t i = cond (eqb t s) (differ (e i s) (c i)) false

unfoldable pub steps_aside : (s : ℕ) (e : ℕ → ℕ → ℤ) (t i : ℕ) → Bool
steps_aside s e t i = cond (eqb t 0) (cond (ltb 0 s) (differ (e i 1) (e i 0)) false) false

unfoldable pub run_touches : (n s : ℕ) (e : ℕ → ℕ → ℤ) (t i : ℕ) → Bool
run_touches n s e t i = cond (ltb t s) (cond (ltb (suc i) n) (le_z (leftmost e (suc i) t) (rightmost e i t)) false) false

unfoldable pub fault_at : (n s : ℕ) (a c : ℕ → ℤ) (e : ℕ → ℕ → ℤ) (t i : ℕ) → Bool
fault_at n s a c e t i = cond (start_wrong a e t i) true (cond (end_wrong s c e t i) true (cond (steps_aside s e t i) true (run_touches n s e t i)))

-- the first of the k wires from i on with a fault on track t, and then the first on the k tracks from t on
unfoldable pub wire_fault : (wrong : ℕ → Bool) (t i k : ℕ) → Checked
wire_fault wrong t i zero = Ok tt
wire_fault wrong t i (suc k) = pick (wrong i) (Err (BadWire i t)) (wire_fault wrong t (suc i) k)

unfoldable pub track_fault : (wrong : ℕ → ℕ → Bool) (n t k : ℕ) → Checked
track_fault wrong n t zero = Ok tt
track_fault wrong n t (suc k) = or_else (wire_fault (wrong t) t 0 n) (track_fault wrong n (suc t) k)

-- the same of a table as a list
abbrev pub fault_of : (a b : List ℤ) (s : ℕ) (d : ℤ) (table : List ℤ) (t i : ℕ) → Bool
fault_of a b s d table = fault_at (length a) s (pad a) (top_pad b d) (column_in table s)

abbrev pub first_fault : (a b : List ℤ) (s : ℕ) (d : ℤ) (table : List ℤ) → Checked
first_fault a b s d table = track_fault (fault_of a b s d table) (length a) 0 (s + 1)

-- refusals 1 to 7, BUFFER, then BADWIRE
abbrev pub route_checked : (a b : List ℤ) (s : ℕ) (d : ℤ) (table : List ℤ) → Checked
route_checked a b s d table = or_else (check_asked a b s d) (or_else (no_room (length a * (s + 1)) (length table)) (first_fault a b s d table))

-- What `check_route` promises: it accepts exactly the tables whose wires, as lists of grid points, are a legal wiring; and BADWIRE, given exactly
-- for the other tables that can be read, names the wire and the track of the first fault.
pub record RouteCheck (a b : List ℤ) (s : ℕ) (d : ℤ) (table : List ℤ) (r : Checked) : Type 0 where
  pub answer : r ≡ route_checked a b s d table
  -- "reads its first n(s + 1) places": a table that is the same there gets the same answer
  pub reads : (other : List ℤ) → take (length a * (s + 1)) other ≡ take (length a * (s + 1)) table → r ≡ route_checked a b s d other
  pub accepts : ((checked_numbers r).refusal ≡ 0) ↔ (Asked a b s d × (length a * (s + 1) ≤ length table) × LegalRoute a b s d table)
  pub refuses : ((checked_numbers r).refusal ≡ 16) ↔ (Asked a b s d × (length a * (s + 1) ≤ length table) × (LegalRoute a b s d table → ⊥))
  pub fault : (checked_numbers r).refusal ≡ 16 → FirstFault (length a) s (pad a) (top_pad b d) (column_in table s) (checked_numbers r).place (checked_numbers r).second
