-- The offset range at a separation (01, "Rules of fit"; 02, #106; refusals 1 to 6, then 11).
use Rattle.std.specs.Prelude.{Result, Ok, Err, cond, ◌≡◌, List, ◌↔◌, ℕ, ◌+◌, ◌-◌, ◌≤◌, ◌<◌, ltb, length, ℤ, ◌-ℤ◌, ◌<ℤ◌, ◌≤ℤ◌}
use Rattle.whole.specs.Pick.{largest, smallest}
use Rattle.wiring.specs.Wiring.{pad, HasWiring}
use Rattle.wiring.specs.Fit.{lean_of, low_end, high_end}
use Rattle.wiring.specs.Tracks.{rule_at}
use Rattle.jumper.specs.Refusals.{refusal_numbers}
use Rattle.jumper.specs.Rows.{unless_refused}
use Rattle.jumper.specs.Asked.{check_tracks, AcceptedTracks}
use Rattle.jumper.specs.Range.{Within, range_named, range_numbers, whole_range, is_empty}
use Rattle.jumper.specs.Span.{lowest_at, highest_at, range_of}
use Rattle.jumper.specs.declared.refusal.Numbers.{Numbers}
use Rattle.jumper.specs.declared.refusal.Refusal.{Refusal}
use Rattle.jumper.specs.declared.refusal.Refusal.TheVariants.{NoOffset}
use Rattle.jumper.specs.declared.range.OffsetRange.{OffsetRange}

abbrev pub offsets_numbers : Result OffsetRange Refusal → Numbers
offsets_numbers (Ok r) = range_numbers r
offsets_numbers (Err r) = refusal_numbers r

-- how far bottom pad i stands right of top pad j
abbrev pub gap : (a b : List ℤ) (i j : ℕ) → ℤ
gap a b i j = pad a i -ℤ pad b j

-- the gaps from which the ends at s are read: each low end is its gap and s more, each high end its gap less s
abbrev pub low_gap : (a b : List ℤ) (s i : ℕ) → ℤ
low_gap a b s i = gap a b i (i + s)

abbrev pub high_gap : (a b : List ℤ) (s i : ℕ) → ℤ
high_gap a b s i = gap a b (i + s) i

abbrev pub gaps_of : (a b : List ℤ) (s : ℕ) → OffsetRange
gaps_of a b s = record { low = largest (low_gap a b s) (length a - s - 1); high = smallest (high_gap a b s) (length a - s - 1) }

-- a pair from pair k on has this gap between its bottom pad i on and its top pad j on, both in rows of one length
pub record GapFrom (a b : List ℤ) (i j k : ℕ) (w : ℤ) : Type 0 where
  pub place : ℕ
  pub from : k ≤ place
  pub within : place + i + j < length a
  pub is : gap a b (place + i) (place + j) ≡ w

-- "For s >= n the range given is that of the accepted offsets." s is the rule's number here: by 02, #106, that is at separations above n
abbrev pub range_found : (n : ℕ) (x y : ℕ → ℤ) (s : ℕ) → Result OffsetRange Refusal
range_found n x y s =
    cond (ltb s n)
    (cond (is_empty (range_of n x y s)) (Err (NoOffset (lowest_at n x y s) (highest_at n x y s))) (Ok (range_of n x y s)))
    (Ok whole_range)

abbrev pub offsets_answer : (a b : List ℤ) (s : ℕ) → Result OffsetRange Refusal
offsets_answer a b s = unless_refused (check_tracks a b s) Err (range_found (length a) (lean_of a) (lean_of b) (rule_at s))

-- pair i is the first that sets the low end of the rule at s, and the first that sets its high end
pub record FirstLow (a b : List ℤ) (s i : ℕ) : Type 0 where
  pub inside : i + s < length a
  pub highest : (j : ℕ) → j + s < length a → low_end (lean_of a) (lean_of b) s j ≤ℤ low_end (lean_of a) (lean_of b) s i
  pub first : (j : ℕ) → j < i → low_end (lean_of a) (lean_of b) s j <ℤ low_end (lean_of a) (lean_of b) s i

pub record FirstHigh (a b : List ℤ) (s i : ℕ) : Type 0 where
  pub inside : i + s < length a
  pub lowest : (j : ℕ) → j + s < length a → high_end (lean_of a) (lean_of b) s i ≤ℤ high_end (lean_of a) (lean_of b) s j
  pub first : (j : ℕ) → j < i → high_end (lean_of a) (lean_of b) s i <ℤ high_end (lean_of a) (lean_of b) s j

-- What `range_at` promises. Where the rule is read below n the range holds exactly the offsets at which a legal wiring exists, and some; else every
-- whole-number offset has one. NOOFFSET, exactly when no whole-number offset has one, names the first pair that sets each end.
pub record OffsetsAnswer (a b : List ℤ) (s : ℕ) (r : Result OffsetRange Refusal) : Type 0 where
  pub answer : r ≡ offsets_answer a b s
  pub asked : (((offsets_numbers r).refusal ≡ 0) → AcceptedTracks a b s) × (((offsets_numbers r).refusal ≡ 11) → AcceptedTracks a b s)
  pub some : (offsets_numbers r).refusal ≡ 0 → (offsets_numbers r).lowest ≤ℤ (offsets_numbers r).highest
  pub exactly : (offsets_numbers r).refusal ≡ 0 → rule_at s < length a → (d : ℤ) → HasWiring a b s d ↔ Within d (range_named (offsets_numbers r))
  pub every : (offsets_numbers r).refusal ≡ 0 → length a ≤ rule_at s → (range_named (offsets_numbers r) ≡ whole_range) × ((d : ℤ) → HasWiring a b s d)
  pub none : ((offsets_numbers r).refusal ≡ 11) ↔ (AcceptedTracks a b s × ((d : ℤ) → HasWiring a b s d → ⊥))
  pub places : (offsets_numbers r).refusal ≡ 11 → FirstLow a b (rule_at s) (offsets_numbers r).place × FirstHigh a b (rule_at s) (offsets_numbers r).second
  pub accepts : ((offsets_numbers r).refusal ≡ 0) ↔ (AcceptedTracks a b s × ((d : ℤ) × HasWiring a b s d))
