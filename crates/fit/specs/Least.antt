-- The least separation at an offset (01, "Rules of fit"; 02, #106; refusals 1 to 5, then 7).
use Rattle.std.specs.Prelude.{Option, Some, None, Result, Ok, Err, Bool, true, cond, ◌≡◌, List, ◌↔◌, ℕ, zero, suc, ◌-◌, ◌≤◌, ◌<◌, length, ℤ, pos}
use Rattle.wiring.specs.Wiring.{HasWiring}
use Rattle.wiring.specs.Fit.{lean_of}
use Rattle.wiring.specs.Tracks.{tracks_for}
use Rattle.jumper.specs.Refusals.{side_number, refusal_numbers}
use Rattle.jumper.specs.Rows.{unless_refused}
use Rattle.jumper.specs.Asked.{check_offset, AcceptedShift}
use Rattle.jumper.specs.declared.refusal.Numbers.{Numbers}
use Rattle.jumper.specs.declared.refusal.Refusal.{Refusal}
use Rattle.fit.specs.Misfit.{too_right, too_left, misfit_of, Witness}
use Rattle.fit.specs.declared.misfit.Misfit.{Misfit}
use Rattle.fit.specs.declared.least.Least.{Least}

-- the pair and the side of a witness, 0 for each where there is none
abbrev pub pair_of : Option Misfit → ℕ
pair_of None = 0
pair_of (Some m) = m.pair

abbrev pub side_of : Option Misfit → ℕ
side_of None = 0
side_of (Some m) = side_number m.side

-- the numbers of an answer: the separation, and above 0 the witness at one track fewer
abbrev pub told : Least → Numbers
told l = record { refusal = 0; place = 0; second = 0; separation = l.separation; lowest = pos 0; highest = pos 0; pair = pair_of l.witness; side = side_of l.witness; count = 0 }

abbrev pub least_numbers : Result Least Refusal → Numbers
least_numbers (Ok l) = told l
least_numbers (Err r) = refusal_numbers r

-- pair i breaks the rule at s on either side
abbrev pub breaks_at : (x y : ℕ → ℤ) (s : ℕ) (d : ℤ) (i : ℕ) → Bool
breaks_at x y s d i = cond (too_right x y s d i) true (too_left x y s d i)

-- the least number at which the rule holds for the first n pairs, by one pass: pair n sets one condition more at the number found before it, and where that breaks, one more is needed.
-- That the separation which it serves is the least at which a legal wiring exists is the promise below
unfoldable pub least_of : (x y : ℕ → ℤ) (d : ℤ) → ℕ → ℕ
least_of x y d zero = zero
least_of x y d (suc n) = cond (breaks_at x y (least_of x y d n) d (n - least_of x y d n)) (suc (least_of x y d n)) (least_of x y d n)

-- the separation that a number above 0 serves, with the witness at one track fewer, which is always there
abbrev pub with_witness : ℕ → Option Misfit → Least
with_witness zero m = record { separation = 0; witness = None }
with_witness (suc s) None = record { separation = 0; witness = None }
with_witness (suc s) (Some m) = record { separation = tracks_for (suc s); witness = Some m }

abbrev pub least_answer : (a b : List ℤ) (d : ℤ) → Result Least Refusal
least_answer a b d = unless_refused (check_offset a b d) Err (Ok (with_witness (least_of (lean_of a) (lean_of b) d (length a)) (misfit_of a b (least_of (lean_of a) (lean_of b) d (length a) - 1) d)))

-- What `least_at` promises: the least separation that fits, at most one more than there are pairs; above 0 "the answer also shows the witness" at one
-- track fewer. That it is never 1 is the law `least_not_one`.
pub record LeastAnswer (a b : List ℤ) (d : ℤ) (r : Result Least Refusal) : Type 0 where
  pub answer : r ≡ least_answer a b d
  pub accepts : ((least_numbers r).refusal ≡ 0) ↔ AcceptedShift a b d
  pub within : (least_numbers r).refusal ≡ 0 → (least_numbers r).separation ≤ tracks_for (length a)
  pub fits : (least_numbers r).refusal ≡ 0 → HasWiring a b (least_numbers r).separation d
  pub least : (least_numbers r).refusal ≡ 0 → (t : ℕ) → t < (least_numbers r).separation → HasWiring a b t d → ⊥
  pub witness : (least_numbers r).refusal ≡ 0 → 0 < (least_numbers r).separation → Witness a b ((least_numbers r).separation - 1) d (least_numbers r).pair (least_numbers r).side
