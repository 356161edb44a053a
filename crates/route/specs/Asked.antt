-- What is asked, as the parts of the code say it to each other: no reader needs to believe these.
use Rattle.std.specs.Prelude.{Option, MatchOption, Bool, true, cond, Ok, Err, ◌≡◌, List, ℕ, length, ℤ}
use Rattle.wiring.specs.Wiring.{pad, top_pad}
use Rattle.jumper.specs.declared.asked.Question.{Question}
use Rattle.jumper.specs.declared.refusal.Refusal.TheVariants.{BadWire}
use Rattle.jumper.specs.Rows.{Checked}
use Rattle.jumper.specs.Asked.{check_asked}
use Rattle.fit.specs.Misfit.{FitAnswer}
use Rattle.route.specs.Table.{column_in}
use Rattle.route.specs.Check.{WireClear, NoFault, start_wrong, end_wrong, steps_aside, fault_of, wire_fault}

-- the number of pairs, and the columns of the bottom and the top pads
abbrev pub pairs : Question → ℕ
pairs q = length q.rows.bottom.now

abbrev pub bottom : Question → ℕ → ℤ
bottom q = pad q.rows.bottom.now

abbrev pub top : Question → ℕ → ℤ
top q = top_pad q.rows.top.now q.offset

-- the columns of a table, by wire and track
abbrev pub entered : (q : Question) (table : List ℤ) → ℕ → ℕ → ℤ
entered q table = column_in table q.separation

-- the faults of a table, and where it has none
abbrev pub faults : (q : Question) (table : List ℤ) (t i : ℕ) → Bool
faults q table = fault_of q.rows.bottom.now q.rows.top.now q.separation q.offset table

abbrev pub Clear : (q : Question) (table : List ℤ) (i : ℕ) → Type 0
Clear q table = WireClear (pairs q) q.separation (bottom q) (top q) (entered q table)

abbrev pub Faultless : (q : Question) (table : List ℤ) → Type 0
Faultless q table = NoFault (pairs q) q.separation (bottom q) (top q) (entered q table)

-- wire i starts or ends wrong, or steps aside
abbrev pub ends_wrong : (s : ℕ) (a c : ℕ → ℤ) (e : ℕ → ℕ → ℤ) (i : ℕ) → Bool
ends_wrong s a c e i = cond (start_wrong a e 0 i) true (cond (end_wrong s c e s i) true (steps_aside s e 0 i))

-- `found` is the first of n wires with a fault on track t
abbrev pub FirstWire : (wrong : ℕ → Bool) (t n : ℕ) (found : Option ℕ) → Type 0
FirstWire wrong t n found = MatchOption found (wire_fault wrong t 0 n ≡ Ok tt) (λ i. wire_fault wrong t 0 n ≡ Err (BadWire i t))

-- what a drawing asks first: of what is accepted, the same rows, separation and offset, and what `fit` says of them
pub record FitAsked (a b : List ℤ) (s : ℕ) (d : ℤ) (q : Question) (r : Checked) : Type 0 where
  pub same : (q.rows.bottom.now ≡ a) × (q.rows.top.now ≡ b) × (q.separation ≡ s) × (q.offset ≡ d)
  pub accepted : check_asked a b s d ≡ Ok tt
  pub fits : FitAnswer a b s d r
