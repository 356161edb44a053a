-- What `range_at` promises, from its answer; and the search for the pairs that set the ends of an empty range.
use Rattle.std.specs.Prelude.{◌≢◌, Ok, Err}
use mathlib.Core.Path.{◌≡◌, refl, sym, ◌∙◌}
use mathlib.Core.Bool.{Bool, true, false}
use mathlib.Core.List.{List}
use mathlib.Core.Logic.{◌↔◌}
use Prim.Native.Nat.{◌+◌, ℕ, ◌-◌, ◌<◌, ◌≤◌, ◌^◌}
use native.Mathlib.Decide.{dec_lt}
use native.Mathlib.Nat.{add-zero}
use native.Mathlib.Omega.{arith}
use borrow.Author.Tests.{lt-ltb, le-ltb}
use lib.ListN.{length}
use lib.IntN.{ℤ, pos, neg_ℤ, ◌+ℤ◌, ◌-ℤ◌}
use lib.Signed.{mag}
use Rattle.std.proofs.Common.{FitsSigned, to_z, of_z, w32}
use Rattle.std.proofs.lemmas.Int.{to_z-of_z, to_z_pos}
use Rattle.whole.specs.Pick.{largest_at, smallest_at}
use Rattle.whole.proofs.Arith.{arithℤ, sum, dif}
use Rattle.whole.proofs.Machine.{back}
use Rattle.whole.proofs.Order.{false_lt, untrue}
use Rattle.whole.proofs.Extremes.{largest_law, smallest_law, largest_further, smallest_further}
use Rattle.wiring.specs.Wiring.{HasWiring}
use Rattle.wiring.specs.Fit.{lean_of, low_end, high_end, Fits}
use Rattle.wiring.specs.Tracks.{rule_at}
use Rattle.wiring.proofs.Rule.{fits_past}
use Rattle.jumper.specs.Asked.{check_tracks, AcceptedTracks}
use Rattle.jumper.specs.Range.{whole_range, is_empty}
use Rattle.jumper.specs.Span.{lowest_at, highest_at, range_of}
use Rattle.jumper.specs.declared.range.OffsetRange.{OffsetRange}
use Rattle.jumper.specs.declared.rows.Rows.{Rows}
use Rattle.jumper.specs.declared.refusal.Refusal.{Refusal}
use Rattle.jumper.specs.declared.refusal.Refusal.TheVariants.{NoOffset}
use Rattle.jumper.proofs.Accepted.{numbered, refused_not}
use Rattle.jumper.proofs.Checks.{tracks_accepted, early_tracks}
use Rattle.jumper.proofs.Spans.{range_exactly, none_fits}
use Rattle.fit.specs.Offsets.{gap, low_gap, high_gap, gaps_of, GapFrom, range_found, FirstLow, FirstHigh, OffsetsAnswer}
use Rattle.fit.proofs.Ends.{low_is, high_is, fit_difference}
use Rattle.jumper.proofs.Wired.{wiring_exactly}

-- `range_found` by the code's tests
module _ (n : ℕ) (x y : ℕ → ℤ) (s : ℕ) where
  pub past_all : n ≤ s → range_found n x y s ≡ Ok whole_range
  past_all h = rw (le-ltb s n h)

  module _ (h : s < n) where
    pub empty_range : is_empty (range_of n x y s) ≡ true → range_found n x y s ≡ Err (NoOffset (lowest_at n x y s) (highest_at n x y s))
    empty_range e = rw (lt-ltb s n h, e)

    pub some_range : is_empty (range_of n x y s) ≡ false → range_found n x y s ≡ Ok (range_of n x y s)
    some_range e = rw (lt-ltb s n h, e)

module _ (a b : List ℤ) (s : ℕ) where
  pub range_refused : (r : Refusal) → check_tracks a b s ≡ Err r → OffsetsAnswer a b s (Err r)
  range_refused r e =
      let l = rw e at (early_tracks a b s) in
      record {
        answer = rw e;
        asked = ((λ z. absurd (numbered r z)), (λ z. absurd (omega arith)));
        some = λ z. absurd (numbered r z);
        exactly = λ z. absurd (numbered r z);
        every = λ z. absurd (numbered r z);
        none = ((λ z. absurd (omega arith)), (λ z. absurd (refused_not r (sym e ∙ tracks_accepted a b s z.0))));
        places = λ z. absurd (omega arith);
        accepts = ((λ z. absurd (numbered r z)), (λ z. absurd (refused_not r (sym e ∙ tracks_accepted a b s z.0))));
      }

  module _ (k : AcceptedTracks a b s) where
    abbrev n : ℕ
    n = length a

    abbrev x : ℕ → ℤ
    x = lean_of a

    abbrev y : ℕ → ℤ
    y = lean_of b

    -- the number at which the rule is read
    abbrev t : ℕ
    t = rule_at s

    wired : (d : ℤ) → HasWiring a b s d ↔ Fits n t x y d
    wired d = wiring_exactly k.rows s d

    whole_answer : n ≤ t → OffsetsAnswer a b s (Ok whole_range)
    whole_answer h =
        record {
          answer = rw (tracks_accepted a b s k) (sym (past_all n x y t h));
          asked = ((λ z. k), (λ z. k));
          some = λ z. omega arithℤ;
          exactly = λ z q. absurd (omega arith);
          every = λ z q. (refl, λ d. (wired d).1 (fits_past n t x y d h));
          places = λ z. absurd (omega arith);
          accepts = ((λ z. (k, (whole_range.low, (wired whole_range.low).1 (fits_past n t x y whole_range.low h)))), (λ z. refl));
          none = ((λ z. absurd (omega arith)), (λ z. absurd (z.1 whole_range.low ((wired whole_range.low).1 (fits_past n t x y whole_range.low h)))));
        }

    first_low : t < n → FirstLow a b t (lowest_at n x y t)
    first_low h = let l = largest_law (low_end x y t) (n - t - 1) in record { inside = omega (arith, l.within); highest = λ j g. l.bounds j (omega arith); first = l.first }

    first_high : t < n → FirstHigh a b t (highest_at n x y t)
    first_high h = let l = smallest_law (high_end x y t) (n - t - 1) in record { inside = omega (arith, l.within); lowest = λ j g. l.bounds j (omega arith); first = l.first }

    none_answer : t < n → is_empty (range_of n x y t) ≡ true → OffsetsAnswer a b s (Err (NoOffset (lowest_at n x y t) (highest_at n x y t)))
    none_answer h e =
        record {
          answer = rw (tracks_accepted a b s k) (sym (empty_range n x y t h e));
          asked = ((λ z. k), (λ z. k));
          some = λ z. absurd (omega arith);
          exactly = λ z. absurd (omega arith);
          every = λ z. absurd (omega arith);
          none = ((λ z. (k, λ d w. (none_fits n x y t h).0 e d ((wired d).0 w))), (λ z. refl));
          places = λ z. (first_low h, first_high h);
          accepts = ((λ z. absurd (omega arith)), (λ z. absurd ((none_fits n x y t h).0 e z.1.0 ((wired z.1.0).0 z.1.1))));
        }

    some_answer : t < n → is_empty (range_of n x y t) ≡ false → OffsetsAnswer a b s (Ok (range_of n x y t))
    some_answer h e =
        record {
          answer = rw (tracks_accepted a b s k) (sym (some_range n x y t h e));
          asked = ((λ z. k), (λ z. k));
          some = λ z. false_lt (range_of n x y t).high (range_of n x y t).low e;
          exactly = λ z q d. ((λ w. (range_exactly n x y t h d).1 ((wired d).0 w)), (λ w. (wired d).1 ((range_exactly n x y t h d).0 w)));
          every = λ z q. absurd (omega arith);
          places = λ z. absurd (omega arith);
          accepts = ((λ z. (k, ((range_of n x y t).low, (wired (range_of n x y t).low).1 ((range_exactly n x y t h (range_of n x y t).low).0 (record { low = omega arithℤ; high = false_lt (range_of n x y t).high (range_of n x y t).low e }))))), (λ z. refl));
          none = ((λ z. absurd (omega arith)), (λ z. untrue (sym e ∙ (none_fits n x y t h).1 (λ d f. z.1 d ((wired d).1 f)))));
        }

    pub range_answer : OffsetsAnswer a b s (range_found n x y t)
    range_answer = go (dec_lt t n)
      where
        tested : t < n → (v : Bool) → is_empty (range_of n x y t) ≡ v → OffsetsAnswer a b s (range_found n x y t)
        tested h true e = rw (empty_range n x y t h e) (none_answer h e)
        tested h false e = rw (some_range n x y t h e) (some_answer h e)

        go : Dec (t < n) → OffsetsAnswer a b s (range_found n x y t)
        go (yes h) = tested h (is_empty (range_of n x y t)) refl
        go (no h) = let g : n ≤ t = omega arith in rw (past_all n x y t g) (whole_answer g)

-- one round of a search more, in which what is sought wasn't found
pub none_before : (f : ℕ → ℤ) (w : ℤ) (k : ℕ) → ((p : ℕ) → p < k → f p ≢ w) → f k ≢ w → (p : ℕ) → p < k + 1 → f p ≢ w
none_before f w k before here p h = go (dec_lt p k)
  where
    go : Dec (p < k) → f p ≢ w
    go (yes l) = before p l
    go (no l) = let e : p ≡ k = omega arith in rw e here

pub one_left : {a b : List ℤ} {i j k : ℕ} {w : ℤ} → GapFrom a b i j k w → gap a b (k + i) (k + j) ≢ w → GapFrom a b i j (k + 1) w
one_left {a} {b} {i} {j} {k} {w} g here = record { place = g.place; from = go (dec_lt k g.place); within = g.within; is = g.is }
  where
    go : Dec (k < g.place) → k + 1 ≤ g.place
    go (yes l) = omega arith
    go (no l) = let e : g.place ≡ k = omega (arith, g.from) in absurd (here (rw e at g.is))

-- a place that no earlier one is like, and that is like the first such place, is that
first_is : (f : ℕ → ℤ) (w : ℤ) (p i : ℕ) → f p ≡ w → ((k : ℕ) → k < p → f k ≢ w) → ((k : ℕ) → k < i → f k ≢ w) → f i ≡ w → i ≡ p
first_is f w p i e first before found = go (dec_lt i p) (dec_lt p i)
  where
    go : Dec (i < p) → Dec (p < i) → i ≡ p
    go (yes l) k = absurd (first i l found)
    go (no l) (yes k) = absurd (before p k e)
    go (no l) (no k) = omega arith

-- the range is read from the gaps, s further on, and its ends are set by the same pairs
module _ (a b : List ℤ) (s : ℕ) where
  pub low_at : lowest_at (length a) (lean_of a) (lean_of b) s ≡ largest_at (low_gap a b s) (length a - s - 1)
  low_at = largest_further (low_end (lean_of a) (lean_of b) s) (low_gap a b s) (pos s) (λ i. sym (low_is a b s i)) (length a - s - 1)

  pub high_at : highest_at (length a) (lean_of a) (lean_of b) s ≡ smallest_at (high_gap a b s) (length a - s - 1)
  high_at = smallest_further (high_end (lean_of a) (lean_of b) s) (high_gap a b s) (neg_ℤ (pos s)) (λ i. sym (high_is a b s i)) (length a - s - 1)

  pub low_of_gaps : (gaps_of a b s).low +ℤ pos s ≡ (range_of (length a) (lean_of a) (lean_of b) s).low
  low_of_gaps = rw low_at (low_is a b s (largest_at (low_gap a b s) (length a - s - 1)))

  pub high_of_gaps : (gaps_of a b s).high -ℤ pos s ≡ (range_of (length a) (lean_of a) (lean_of b) s).high
  high_of_gaps = rw high_at (high_is a b s (smallest_at (high_gap a b s) (length a - s - 1)))

  pub gap_of_low : (range_of (length a) (lean_of a) (lean_of b) s).low -ℤ pos s ≡ (gaps_of a b s).low
  gap_of_low = let r = range_of (length a) (lean_of a) (lean_of b) s in let g = gaps_of a b s in omega (arithℤ, low_of_gaps, sum g.low (pos s), dif r.low (pos s))

  pub gap_of_high : (range_of (length a) (lean_of a) (lean_of b) s).high +ℤ pos s ≡ (gaps_of a b s).high
  gap_of_high = let r = range_of (length a) (lean_of a) (lean_of b) s in let g = gaps_of a b s in omega (arithℤ, high_of_gaps, dif g.high (pos s), sum r.high (pos s))

  -- a pair has an end's gap, and the first that has it is the first that sets the end
  module _ (few : s < length a) where
    abbrev m : ℕ
    m = length a - s - 1

    pub low_there : (w : ℤ) → w ≡ (gaps_of a b s).low → GapFrom a b 0 s 0 w
    low_there w e =
        let l = largest_law (low_gap a b s) m in
        let p = largest_at (low_gap a b s) m in
        record { place = p; from = omega arith; within = omega (arith, l.within); is = rw (add-zero p, e) }

    pub high_there : (w : ℤ) → w ≡ (gaps_of a b s).high → GapFrom a b s 0 0 w
    high_there w e =
        let l = smallest_law (high_gap a b s) m in
        let p = smallest_at (high_gap a b s) m in
        record { place = p; from = omega arith; within = omega (arith, l.within); is = rw (add-zero p, e) }

    module _ (i : ℕ) where
      pub low_first : (w : ℤ) → w ≡ (gaps_of a b s).low → ((k : ℕ) → k < i → gap a b (k + 0) (k + s) ≢ w) → gap a b (i + 0) (i + s) ≡ w
          → i ≡ lowest_at (length a) (lean_of a) (lean_of b) s
      low_first w e before found =
          let l = largest_law (low_gap a b s) m in
          first_is (low_gap a b s) w (largest_at (low_gap a b s) m) i (sym e) (λ k h g. omega (arithℤ, l.first k h, g, e))
          (λ k h g. before k h (rw (add-zero k) g))
          (rw (add-zero i) at found)
          ∙ sym low_at

      pub high_first : (w : ℤ) → w ≡ (gaps_of a b s).high → ((k : ℕ) → k < i → gap a b (k + s) (k + 0) ≢ w) → gap a b (i + s) (i + 0) ≡ w
          → i ≡ highest_at (length a) (lean_of a) (lean_of b) s
      high_first w e before found =
          let l = smallest_law (high_gap a b s) m in
          first_is (high_gap a b s) w (smallest_at (high_gap a b s) m) i (sym e) (λ k h g. omega (arithℤ, l.first k h, g, e))
          (λ k h g. before k h (rw (add-zero k) g))
          (rw (add-zero i) at found)
          ∙ sym high_at

-- the range as the code has it, of which it takes off the s again
module _ (rows : Rows) (s : ℕ) (inside : s < length rows.bottom.now) (v : OffsetRange) (e : v ≡ range_of (length rows.bottom.now) (lean_of rows.bottom.now) (lean_of rows.top.now) s) where
  abbrev g : OffsetRange
  g = gaps_of rows.bottom.now rows.top.now s

  few : to_z w32 s ≡ pos s
  few = to_z_pos w32 s (omega (arith, rows.accepted.few))

  module _ (f : FitsSigned w32 v.low) where
    low_is_gap : to_z w32 (of_z w32 v.low) -ℤ to_z w32 s ≡ g.low
    low_is_gap = rw (to_z-of_z w32 v.low f, few, e, gap_of_low rows.bottom.now rows.top.now s)

    low_within : mag g.low < 2 ^ 31
    low_within = let i = largest_at (low_gap rows.bottom.now rows.top.now s) (length rows.bottom.now - s - 1) in fit_difference rows.accepted s i (i + s) inside

    pub low_fits : FitsSigned w32 (to_z w32 (of_z w32 v.low) -ℤ to_z w32 s)
    low_fits = rw low_is_gap (record { sfits = low_within })

    pub low_back : to_z w32 (of_z w32 (to_z w32 (of_z w32 v.low) -ℤ to_z w32 s)) ≡ g.low
    low_back = rw low_is_gap (back g.low low_within)

  module _ (f : FitsSigned w32 v.high) where
    high_is_gap : to_z w32 (of_z w32 v.high) +ℤ to_z w32 s ≡ g.high
    high_is_gap = rw (to_z-of_z w32 v.high f, few, e, gap_of_high rows.bottom.now rows.top.now s)

    high_within : mag g.high < 2 ^ 31
    high_within = let i = smallest_at (high_gap rows.bottom.now rows.top.now s) (length rows.bottom.now - s - 1) in fit_difference rows.accepted s (i + s) i inside

    pub high_fits : FitsSigned w32 (to_z w32 (of_z w32 v.high) +ℤ to_z w32 s)
    high_fits = rw high_is_gap (record { sfits = high_within })

    pub high_back : to_z w32 (of_z w32 (to_z w32 (of_z w32 v.high) +ℤ to_z w32 s)) ≡ g.high
    high_back = rw high_is_gap (back g.high high_within)
