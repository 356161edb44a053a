-- The answer to a wish for two rows, in all its numbers, and what it means (01, "Form" and "Sheets"; demands 2 and 3). The form and the sheet cite it.
use Rattle.std.specs.Prelude.{Result, Ok, Err, ◌≡◌, List, ◌↔◌, ℕ, ◌-◌, ◌*◌, ◌≤◌, ◌<◌, length, replicate, ℤ, ◌≤ℤ◌}
use Rattle.wiring.specs.Wiring.{HasWiring}
use Rattle.wiring.specs.Tracks.{rule_at, tracks_for}
use Rattle.jumper.specs.Limits.{max_ladder}
use Rattle.jumper.specs.Refusals.{refusal_numbers}
use Rattle.jumper.specs.Rows.{AcceptedRows, Checked}
use Rattle.jumper.specs.Asked.{AcceptedTracks, AcceptedShift, Asked}
use Rattle.jumper.specs.Range.{Within, range_named, whole_range}
use Rattle.jumper.specs.declared.refusal.Numbers.{Numbers}
use Rattle.jumper.specs.declared.refusal.Refusal.{Refusal}
use Rattle.jumper.specs.declared.range.OffsetRange.{OffsetRange}
use Rattle.fit.specs.Misfit.{fit_of, Witness}
use Rattle.fit.specs.Least.{pair_of, side_of, least_answer}
use Rattle.fit.specs.Offsets.{offsets_answer, FirstLow, FirstHigh}
use Rattle.fit.specs.declared.least.Least.{Least}
use Rattle.best.specs.Halving.{max_read_a_pair, ladder_count}
use Rattle.best.specs.Best.{best_numbers, best_answer, ladder_of}
use Rattle.plan.specs.declared.wish.Wish.{Wish}
use Rattle.plan.specs.declared.wish.Wish.TheVariants.{Fit, Least as Leastwise, Range, Best}

-- the numbers of an answer without refusal
abbrev pub planned_with : (separation : ℕ) (lowest highest : ℤ) (pair side count : ℕ) → Numbers
planned_with s l h i k c = record { refusal = 0; place = 0; second = 0; separation = s; lowest = l; highest = h; pair = i; side = k; count = c }

-- "A wish with an offset gives it as lowest and highest."
abbrev pub fit_plan : ℕ → ℤ → Checked → Numbers
fit_plan s d (Ok u) = planned_with s d d 0 0 0
fit_plan s d (Err r) = refusal_numbers r

-- "Pair and side are the witness of NOFIT, or for a least separation above 0 at a given offset the witness at one track fewer; otherwise 0."
abbrev pub least_plan : ℤ → Result Least Refusal → Numbers
least_plan d (Ok l) = planned_with l.separation d d (pair_of l.witness) (side_of l.witness) 0
least_plan d (Err r) = refusal_numbers r

abbrev pub range_plan : ℕ → Result OffsetRange Refusal → Numbers
range_plan s (Ok r) = planned_with s r.low r.high 0 0 0
range_plan s (Err r) = refusal_numbers r

-- the best call, with room for the longest ladder
abbrev pub best_plan : (a b : List ℤ) → Numbers
best_plan a b = best_numbers (best_answer a b (replicate max_ladder 0))

abbrev pub plan_of : Wish → (a b : List ℤ) → Numbers
plan_of (Fit s d) a b = fit_plan s d (fit_of a b s d)
plan_of (Leastwise d) a b = least_plan d (least_answer a b d)
plan_of (Range s) a b = range_plan s (offsets_answer a b s)
plan_of Best a b = best_plan a b

-- WHAT A WISH ASKS ABOUT: rows and numbers as we accept them
abbrev pub Asks : Wish → (a b : List ℤ) → Type 0
Asks (Fit s d) a b = Asked a b s d
Asks (Leastwise d) a b = AcceptedShift a b d
Asks (Range s) a b = AcceptedTracks a b s
Asks Best a b = AcceptedRows a b

-- and whether a legal wiring, of any shape, meets it: a least and a best separation there always is
abbrev pub Meetable : Wish → (a b : List ℤ) → Type 0
Meetable (Fit s d) a b = HasWiring a b s d
Meetable (Leastwise d) a b = Unit {0}
Meetable (Range s) a b = (d : ℤ) × HasWiring a b s d
Meetable Best a b = Unit {0}

-- WHAT AN ANSWER WITHOUT REFUSAL MEANS, by the wish. `named` says which numbers it tells; all others are 0
pub record FitMeans (s : ℕ) (d : ℤ) (a b : List ℤ) (r : Numbers) : Type 0 where
  pub named : r ≡ planned_with s d d 0 0 0
  pub fits : HasWiring a b s d

pub record LeastMeans (d : ℤ) (a b : List ℤ) (r : Numbers) : Type 0 where
  pub named : r ≡ planned_with r.separation d d r.pair r.side 0
  pub within : r.separation ≤ tracks_for (length a)
  pub fits : HasWiring a b r.separation d
  pub least : (t : ℕ) → t < r.separation → HasWiring a b t d → ⊥
  pub witness : 0 < r.separation → Witness a b (r.separation - 1) d r.pair r.side
  pub straight : r.separation ≡ 0 → (r.pair ≡ 0) × (r.side ≡ 0)

pub record RangeMeans (s : ℕ) (a b : List ℤ) (r : Numbers) : Type 0 where
  pub named : r ≡ planned_with s r.lowest r.highest 0 0 0
  pub some : r.lowest ≤ℤ r.highest
  pub exactly : rule_at s < length a → (d : ℤ) → HasWiring a b s d ↔ Within d (range_named r)
  pub every : length a ≤ rule_at s → (range_named r ≡ whole_range) × ((d : ℤ) → HasWiring a b s d)

pub record BestMeans (a b : List ℤ) (r : Numbers) : Type 0 where
  pub named : r ≡ planned_with r.separation r.lowest r.highest 0 0 r.count
  pub some : r.lowest ≤ℤ r.highest
  pub exactly : (d : ℤ) → HasWiring a b r.separation d ↔ Within d (range_named r)
  pub none : (t : ℕ) → t < r.separation → (d : ℤ) → HasWiring a b t d → ⊥
  pub within : 2 * rule_at r.separation ≤ length a
  pub fixed : r.count ≡ ladder_count (ladder_of a b)
  pub cheap : r.count ≤ max_read_a_pair * length a

abbrev pub Means : Wish → (a b : List ℤ) → Numbers → Type 0
Means (Fit s d) a b r = FitMeans s d a b r
Means (Leastwise d) a b r = LeastMeans d a b r
Means (Range s) a b r = RangeMeans s a b r
Means Best a b r = BestMeans a b r

-- WHEN NOFIT AND NOOFFSET ARE GIVEN: what is asked is accepted, and no legal wiring, of any shape, meets it. NOFIT is for a wish that names a separation
-- and an offset, NOOFFSET for one that names a separation alone
abbrev pub Unfit : Wish → (a b : List ℤ) → Type 0
Unfit (Fit s d) a b = Asked a b s d × (HasWiring a b s d → ⊥)
Unfit (Leastwise d) a b = ⊥
Unfit (Range s) a b = ⊥
Unfit Best a b = ⊥

abbrev pub Offsetless : Wish → (a b : List ℤ) → Type 0
Offsetless (Fit s d) a b = ⊥
Offsetless (Leastwise d) a b = ⊥
Offsetless (Range s) a b = AcceptedTracks a b s × ((d : ℤ) → HasWiring a b s d → ⊥)
Offsetless Best a b = ⊥

-- and what they name: the witness; the first pair that sets each end of the range
abbrev pub Names : Wish → (a b : List ℤ) → Numbers → Type 0
Names (Fit s d) a b r = r.refusal ≡ 10 → Witness a b s d r.pair r.side
Names (Leastwise d) a b r = Unit {0}
Names (Range s) a b r = r.refusal ≡ 11 → FirstLow a b (rule_at s) r.place × FirstHigh a b (rule_at s) r.second
Names Best a b r = Unit {0}

-- What `plan` promises, for any wish and rows.
pub record PlanAnswer (w : Wish) (a b : List ℤ) (r : Numbers) : Type 0 where
  pub answer : r ≡ plan_of w a b
  -- no refusal exactly when what is asked is accepted and a legal wiring meets it
  pub accepts : (r.refusal ≡ 0) ↔ (Asks w a b × Meetable w a b)
  pub means : r.refusal ≡ 0 → Means w a b r
  -- NOFIT and NOOFFSET exactly when what is asked is accepted and no legal wiring meets it, and what they name
  pub prevents : (r.refusal ≡ 10) ↔ Unfit w a b
  pub none : (r.refusal ≡ 11) ↔ Offsetless w a b
  pub names : Names w a b r
  -- a refusal carries its own numbers; "All other result numbers are 0"
  pub numbered : (r.refusal ≡ 0 → ⊥) → (q : Refusal) × (r ≡ refusal_numbers q)
  -- without refusal the rows are accepted, and a wiring can be drawn at the separation and the lowest offset
  pub rows : r.refusal ≡ 0 → AcceptedRows a b
  pub drawable : r.refusal ≡ 0 → Asked a b r.separation r.lowest × HasWiring a b r.separation r.lowest
  -- LINE and what comes after it are no refusals of two rows, and UNEQUAL is none of rows that are equally long
  pub known : r.refusal ≤ 11
  pub equal : length a ≡ length b → r.refusal ≡ 1 → ⊥
