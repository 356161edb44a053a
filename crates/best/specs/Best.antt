-- THE PROMISE of the best call (01, "Best separation by halving"; 02, #106; refusals 1 to 5, then 9). Callers cite this.
use Rattle.std.specs.Prelude.{Bool, true, false, Result, Ok, Err, ◌≡◌, List, ◌++◌, ◌↔◌, ℕ, ◌*◌, ◌≤◌, ◌<◌, ltb, length, drop, ℤ, ◌≤ℤ◌}
use Rattle.wiring.specs.Wiring.{HasWiring}
use Rattle.wiring.specs.Fit.{lean_of}
use Rattle.wiring.specs.Tracks.{rule_at, tracks_for}
use Rattle.jumper.specs.Refusals.{refusal_numbers}
use Rattle.jumper.specs.Rows.{AcceptedRows, unless_refused, check_rows}
use Rattle.jumper.specs.Range.{Within, range_named}
use Rattle.jumper.specs.Span.{range_of}
use Rattle.jumper.specs.declared.refusal.Numbers.{Numbers}
use Rattle.jumper.specs.declared.refusal.Refusal.{Refusal}
use Rattle.jumper.specs.declared.refusal.Refusal.TheVariants.{Buffer}
use Rattle.best.specs.Halving.{Halving, halving, max_read_a_pair, ladder_count}
use Rattle.best.specs.declared.plan.Planned.{Planned}

-- what the call comes to
abbrev pub Best : Type 0
Best = Result Planned Refusal

-- the numbers of an answer: "The answer is best separation, its offset range and the count."
abbrev pub planned_numbers : Planned → Numbers
planned_numbers p =
    record {
      refusal = 0;
      place = 0;
      second = 0;
      separation = p.separation;
      lowest = p.range.low;
      highest = p.range.high;
      pair = 0;
      side = 0;
      count = p.count;
    }

abbrev pub best_numbers : Best → Numbers
best_numbers (Ok p) = planned_numbers p
best_numbers (Err r) = refusal_numbers r

-- the rule's halving of two rows, its ladder, and what it says of them: the separation that its best serves, and the range of the rule there.
-- 02: "The halving and its count keep the old numbers inside"; the answer's separation is the one that the best of these serves
abbrev pub halving_of : (a b : List ℤ) → Halving
halving_of a b = halving (length a) (lean_of a) (lean_of b)

abbrev pub ladder_of : (a b : List ℤ) → List ℕ
ladder_of a b = (halving_of a b).ladder

abbrev pub planned_of : (a b : List ℤ) → Planned
planned_of a b =
    record {
      separation = tracks_for (halving_of a b).best;
      range = range_of (length a) (lean_of a) (lean_of b) (halving_of a b).best;
      count = (halving_of a b).count;
    }

-- "BUFFER is given if these don't all have room", after the refusals 1 to 5
abbrev pub room_or : Bool → Planned → Best
room_or true p = Err Buffer
room_or false p = Ok p

abbrev pub best_answer : (a b : List ℤ) (before : List ℕ) → Best
best_answer a b before = unless_refused (check_rows a b) Err (room_or (ltb (length before) (length (ladder_of a b))) (planned_of a b))

-- "The ladder, written to a lent buffer .. places beyond are untouched", and on a refusal "no lent memory changes"
abbrev pub ladder_by : Best → (ladder before : List ℕ) → List ℕ
ladder_by (Ok p) ladder before = ladder ++ drop (length ladder) before
ladder_by (Err r) ladder before = before

-- What `best_of` promises, of the buffer before and after it. Demand 3 is `exactly`, `some` and `none`.
pub record BestAnswer (a b : List ℤ) (before after : List ℕ) (r : Best) : Type 0 where
  -- answer and buffer are the rule's, at every input
  pub answer : r ≡ best_answer a b before
  pub buffer : after ≡ ladder_by r (ladder_of a b) before
  -- no refusal exactly for accepted rows and room enough; BUFFER exactly for accepted rows and too little room
  pub accepts : ((best_numbers r).refusal ≡ 0) ↔ (AcceptedRows a b × (length (ladder_of a b) ≤ length before))
  pub short : ((best_numbers r).refusal ≡ 9) ↔ (AcceptedRows a b × (length before < length (ladder_of a b)))
  -- a refusal writes nothing
  pub refused : ((best_numbers r).refusal ≡ 0 → ⊥) → after ≡ before
  -- a legal wiring exists at the best separation at exactly the whole-number offsets of the range, and the range isn't empty
  pub exactly : (best_numbers r).refusal ≡ 0 → (d : ℤ) → HasWiring a b (best_numbers r).separation d ↔ Within d (range_named (best_numbers r))
  pub some : (best_numbers r).refusal ≡ 0 → (best_numbers r).lowest ≤ℤ (best_numbers r).highest
  -- at any smaller separation no wiring of any shape is legal at any whole-number offset
  pub none : (best_numbers r).refusal ≡ 0 → (t : ℕ) → t < (best_numbers r).separation → (d : ℤ) → HasWiring a b t d → ⊥
  -- its number is "at most half the number of pairs" (003, lemma 2), so below their number
  pub within : (best_numbers r).refusal ≡ 0 → 2 * rule_at (best_numbers r).separation ≤ length a
  pub below : (best_numbers r).refusal ≡ 0 → rule_at (best_numbers r).separation < length a
  -- "The count is therefore fixed by the ladder", and at most 12 are read for each pair
  pub fixed : (best_numbers r).refusal ≡ 0 → (best_numbers r).count ≡ ladder_count (ladder_of a b)
  pub cheap : (best_numbers r).refusal ≡ 0 → (best_numbers r).count ≤ max_read_a_pair * length a
