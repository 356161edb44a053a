-- WHAT THE CALLS ANSWER of a jumper and of a part of it (02, #113): neither the least nor the best separation rises when pairs are dropped, and a pair added
-- after the last raises each by two at most. Said of any answers of `least_at` and `best_of`, by their promises.
use Rattle.std.specs.Prelude.{Result}
use mathlib.Core.Path.{◌≡◌}
use mathlib.Core.List.{List}
use Prim.Native.Nat.{ℕ, suc, ◌≤◌, ◌<◌}
use native.Mathlib.Decide.{dec_lt}
use native.Mathlib.Omega.{arith}
use lib.ListN.{length}
use lib.IntN.{ℤ}
use Rattle.whole.proofs.Arith.{arithℤ}
use Rattle.wiring.specs.Wiring.{HasWiring}
use Rattle.wiring.specs.Tracks.{rule_at}
use Rattle.wiring.specs.Part.{Choice, part_of, longer}
use Rattle.wiring.proofs.Serves.{rule_above, rule_most, rule_next, rule_up}
use Rattle.wiring.proofs.Parts.{dropped_wiring, shorter_wiring, added_wiring}
use Rattle.jumper.specs.Rows.{AcceptedRows}
use Rattle.jumper.specs.declared.refusal.Refusal.{Refusal}
use Rattle.fit.specs.Least.{least_numbers, LeastAnswer}
use Rattle.fit.specs.declared.least.Least.{Least}
use Rattle.best.specs.Best.{Best, best_numbers, ladder_of, BestAnswer}
use Rattle.parts.specs.Grows.{Grows}
use Rattle.parts.proofs.Remains.{part_rows, part_shift, shorter_rows}

-- what n has and nothing below m: then m is at most n
not_above : (Has : ℕ → Type 0) (m n : ℕ) → ((t : ℕ) → t < m → Has t → ⊥) → Has n → m ≤ n
not_above Has m n least there = go (dec_lt n m)
  where
    go : Dec (n < m) → m ≤ n
    go (yes h) = absurd (least n h there)
    go (no h) = omega arith

grows : (before after : ℕ) → before ≤ after → after ≤ suc (suc (rule_at before)) → Grows before after
grows before after low high =
    record {
      no_fall = low;
      two = omega (arith, rule_most before);
      inside = omega (arith, rule_up after (suc (suc (rule_at before))) high, rule_next (suc (rule_at before)));
      one = λ h. omega (arith, rule_above before h);
    }

-- at some offset there is a wiring
abbrev Somewhere : (a b : List ℤ) (s : ℕ) → Type 0
Somewhere a b s = (d : ℤ) × HasWiring a b s d

-- so it is at a best separation, at the lowest offset that is named
best_there : {a b : List ℤ} {before after : List ℕ} {r : Best} → BestAnswer a b before after r → (best_numbers r).refusal ≡ 0
    → Somewhere a b (best_numbers r).separation
best_there {r = r} p z = ((best_numbers r).lowest, (p.exactly z (best_numbers r).lowest).1 (record { low = omega arithℤ; high = p.some z }))

-- and where it is so, the separation isn't below the best
best_under : {a b : List ℤ} {before after : List ℕ} {r : Best} (s : ℕ) → BestAnswer a b before after r → (best_numbers r).refusal ≡ 0
    → Somewhere a b s → (best_numbers r).separation ≤ s
best_under {a} {b} s p z = not_above (Somewhere a b) _ s (λ t h w. p.none z t h w.0 w.1)

-- PAIRS DROPPED: the question about what remains is accepted too, and its answer isn't greater
module _ {a b : List ℤ} {kept : List ℕ} (c : Choice (length a) kept) (some : 1 ≤ length kept) where
  pub least_dropped : {d : ℤ} {r r' : Result Least Refusal}
      → LeastAnswer a b d r → LeastAnswer (part_of kept a) (part_of kept b) d r' → (least_numbers r).refusal ≡ 0
      → ((least_numbers r').refusal ≡ 0) × ((least_numbers r').separation ≤ (least_numbers r).separation)
  least_dropped {d} p q z =
      let z' = q.accepts.1 (part_shift c some (p.accepts.0 z)) in
      (z', not_above (λ t. HasWiring (part_of kept a) (part_of kept b) t d) _ _ (q.least z') (dropped_wiring a b c _ d (p.fits z)))

  -- if there is room for its ladder
  pub best_dropped : {before after before' after' : List ℕ} {r r' : Best}
      → BestAnswer a b before after r → BestAnswer (part_of kept a) (part_of kept b) before' after' r'
      → (best_numbers r).refusal ≡ 0 → length (ladder_of (part_of kept a) (part_of kept b)) ≤ length before'
      → ((best_numbers r').refusal ≡ 0) × ((best_numbers r').separation ≤ (best_numbers r).separation)
  best_dropped p q z room =
      let z' = q.accepts.1 (part_rows (p.accepts.0 z).0 c some, room) in
      let there = best_there p z in
      (z', best_under _ q z' (there.0, dropped_wiring a b c _ there.0 there.1))

-- A PAIR ADDED AFTER THE LAST, at column x below and y above: the question about the rows before it is accepted too, if they had a pair
module _ (a b : List ℤ) (x y : ℤ) (some : 1 ≤ length a) where
  module _ (l : AcceptedRows (longer a x) (longer b y)) where
    rows : AcceptedRows a b
    rows = shorter_rows a b x y l some

    more : (s : ℕ) (d : ℤ) → HasWiring a b s d → HasWiring (longer a x) (longer b y) (suc (suc (rule_at s))) d
    more s d = added_wiring a b x y rows.equal l.bottom.rising (rw (← l.equal) at l.top.rising) s d

    fewer : (s : ℕ) (d : ℤ) → HasWiring (longer a x) (longer b y) s d → HasWiring a b s d
    fewer s d = shorter_wiring a b x y rows.equal s d

  pub least_added : {d : ℤ} {p q : Result Least Refusal} → LeastAnswer a b d p → LeastAnswer (longer a x) (longer b y) d q → (least_numbers q).refusal ≡ 0
      → ((least_numbers p).refusal ≡ 0) × Grows (least_numbers p).separation (least_numbers q).separation
  least_added {d} f g z' =
      let l = g.accepts.0 z' in
      let z = f.accepts.1 (record { rows = rows l.rows; offset = l.offset }) in (
        z,
        grows _ _
            (not_above (λ t. HasWiring a b t d) _ _ (f.least z) (fewer l.rows _ d (g.fits z')))
            (not_above (λ t. HasWiring (longer a x) (longer b y) t d) _ _ (g.least z') (more l.rows _ d (f.fits z))),
      )

  -- if there is room for their ladder
  pub best_added : {before after before' after' : List ℕ} {p q : Best} → BestAnswer a b before after p → BestAnswer (longer a x) (longer b y) before' after' q
      → (best_numbers q).refusal ≡ 0 → length (ladder_of a b) ≤ length before
      → ((best_numbers p).refusal ≡ 0) × Grows (best_numbers p).separation (best_numbers q).separation
  best_added f g z' room =
      let l = (g.accepts.0 z').0 in
      let z = f.accepts.1 (rows l, room) in
      let old = best_there f z in
      let new = best_there g z' in
      (z, grows _ _ (best_under _ f z (new.0, fewer l _ new.0 new.1)) (best_under _ g z' (old.0, more l _ old.0 old.1)))
