-- THE LAWS OF THE HALVING: its best is the best (003, sections 3 and 4), at most half the number of pairs (lemma 2), its count is fixed by its
-- ladder and at most 12 for each pair.
use mathlib.Core.Path.{◌≡◌, refl, sym}
use mathlib.Core.Bool.{true, false}
use mathlib.Core.List.{List, [], ◌∷◌}
use Prim.Native.Nat.{ℕ, ◌+◌, ◌-◌, ◌*◌, ◌≤◌, ◌<◌}
use native.Mathlib.Decide.{dec_le}
use native.Mathlib.Omega.{arith}
use borrow.Author.Tests.{lt-ltb, le-ltb}
use lib.ListN.{length}
use lib.IntN.{ℤ, ◌-ℤ◌}
use Rattle.whole.proofs.Arith.{arithℤ}
use Rattle.whole.proofs.Order.{true_lt, false_lt}
use Rattle.wiring.specs.Fit.{Steady, Fits, evens, half}
use Rattle.wiring.proofs.Rule.{fits_above}
use Rattle.wiring.proofs.Halving.{evens_steady, to_half, from_half_lem}
use Rattle.jumper.specs.Span.{range_of}
use Rattle.jumper.proofs.Spans.{range_exactly, none_fits, half_fits}
use Rattle.best.specs.Halving.{empty_at, read_at, Taken, from_half, Halving, one_pair, level_over, halving, levels, read_between, count_under, ladder_count}
use Rattle.best.proofs.Levels.{one_pair_lem, more_pairs, one_level, more_levels, by_halving, Past, cases}

-- what a best number of m pairs is
pub record BestOf (m : ℕ) (x y : ℕ → ℤ) (b : ℕ) : Type 0 where
  pub within : 2 * b ≤ m
  pub some : (d : ℤ) × Fits m b x y d
  pub none : (t : ℕ) → t < b → (d : ℤ) → Fits m t x y d → ⊥

module _ (m : ℕ) (x y : ℕ → ℤ) (s : ℕ) (inside : s < m) where
  -- a trial that finds an offset, and one that finds none
  open_fits : empty_at m x y s ≡ false → (d : ℤ) × Fits m s x y d
  open_fits e =
      let l = (range_of m x y s).low in
      let h = false_lt (range_of m x y s).high l e in
      (l, (range_exactly m x y s inside l).0 (record { low = omega arithℤ; high = h }))

  empty_fits : empty_at m x y s ≡ true → (d : ℤ) → Fits m s x y d → ⊥
  empty_fits e = (none_fits m x y s inside).0 e

  -- one that finds none is made below half the number of pairs
  empty_wide : Steady m x → Steady m y → empty_at m x y s ≡ true → 2 * s + 1 < m
  empty_wide sx sy e = go (dec_le m (2 * s + 1))
    where
      go : Dec (m ≤ 2 * s + 1) → 2 * s + 1 < m
      go (yes h) = absurd (omega (arithℤ, half_fits m x y s sx sy inside h, true_lt (range_of m x y s).high (range_of m x y s).low e))
      go (no h) = omega arith

one_best : (x y : ℕ → ℤ) → BestOf 1 x y 0
one_best x y =
    record {
      within = omega arith;
      some = (
        x 0 -ℤ y 0,
        record { low = λ i h. let e : i ≡ 0 = omega arith in rw e (omega arithℤ); high = λ i h. let e : i ≡ 0 = omega arith in rw e (omega arithℤ) },
      );
      none = λ t h d f. omega arith;
    }

-- with h the best of the even half: 2h+1 has an offset, and 2h-2 has none
module _ (m : ℕ) (x y : ℕ → ℤ) (more : 1 < m) (sx : Steady m x) (sy : Steady m y) (h : ℕ) (e : BestOf (half m) (evens x) (evens y) h) where
  -- no offset at s, so none below it
  none_below : (s : ℕ) → ((d : ℤ) → Fits m s x y d → ⊥) → (t : ℕ) → t < s + 1 → (d : ℤ) → Fits m t x y d → ⊥
  none_below s z t l d f = z d (fits_above sx sy (s - t) t s (omega arith) f)

  past_two : (c c' : ℕ) → Past m x y h c c' → 4 * h ≤ m
  past_two c c' p = go (dec_le h 0)
    where
      go : Dec (h ≤ 0) → 4 * h ≤ m
      go (yes z) = omega arith
      go (no z) = omega (arith, empty_wide m x y (2 * h - 1) (omega (arith, e.within)) sx sy (p.odd (omega arith)).0)

  past_none : (c c' : ℕ) → Past m x y h c c' → (t : ℕ) → t < 2 * h → (d : ℤ) → Fits m t x y d → ⊥
  past_none c c' p t l = none_below (2 * h - 1) (empty_fits m x y (2 * h - 1) (omega (arith, e.within)) (p.odd (omega arith)).0) t (omega arith)

  level_best : (c : ℕ) → BestOf m x y (from_half m x y h c).best
  level_best c = cases m x y h (λ (t : Taken). BestOf m x y t.best) c odd even last
    where
      odd : 0 < h → empty_at m x y (2 * h - 1) ≡ false → BestOf m x y (2 * h - 1)
      odd s o =
          record {
            within = omega (arith, e.within);
            some = open_fits m x y (2 * h - 1) (omega (arith, e.within)) o;
            none = λ t l. none_below (2 * (h - 1)) (λ d f. e.none (h - 1) (omega arith) d (to_half {s = h - 1} f)) t (omega arith);
          }

      even : (c' : ℕ) → Past m x y h c c' → empty_at m x y (2 * h) ≡ false → BestOf m x y (2 * h)
      even c' p o =
          record {
            within = omega (arith, past_two c c' p);
            some = open_fits m x y (2 * h) (omega (arith, e.within)) o;
            none = past_none c c' p;
          }

      last : (c' : ℕ) → Past m x y h c c' → empty_at m x y (2 * h) ≡ true → BestOf m x y (2 * h + 1)
      last c' p o =
          record {
            within = omega (arith, empty_wide m x y (2 * h) (omega (arith, e.within)) sx sy o);
            some = (e.some.0, from_half_lem sx sy e.some.1);
            none = λ t l. none_below (2 * h) (empty_fits m x y (2 * h) (omega (arith, e.within)) o) t l;
          }

-- the best is the best
pub best_is_best : (m : ℕ) (x y : ℕ → ℤ) → 1 ≤ m → Steady m x → Steady m y → BestOf m x y (halving m x y).best
best_is_best =
    by_halving (λ m x y. Steady m x → Steady m y → BestOf m x y (halving m x y).best)
    (λ x y sx sy. rw (one_pair_lem x y) (one_best x y))
    (λ m x y l ih sx sy.
    let e = halving (half m) (evens x) (evens y) in
    rw (more_pairs m x y l) (level_best m x y l sx sy e.best (ih (evens_steady sx) (evens_steady sy)) e.count))

-- two differences a pair at most are read before 2h is tried
past_read : (m : ℕ) (x y : ℕ → ℤ) (h c c' : ℕ) → Past m x y h c c' → c' ≤ c + 2 * m
past_read m x y h c c' p = go (dec_le h 0)
  where
    go : Dec (h ≤ 0) → c' ≤ c + 2 * m
    go (yes z) = omega (arith, p.none (omega arith))
    go (no z) = omega (arith, (p.odd (omega arith)).1)

level_cheap : (m : ℕ) (x y : ℕ → ℤ) (h c : ℕ) → 1 < m → c + 12 ≤ 12 * half m → (from_half m x y h c).count + 12 ≤ 12 * m
level_cheap m x y h c l e =
    cases m x y h (λ (t : Taken). t.count + 12 ≤ 12 * m) c
    (λ s o. omega arith)
    (λ c' p o. omega (arith, past_read m x y h c c' p))
    (λ c' p o. omega (arith, past_read m x y h c c' p))

-- the count is at most 12 for each pair but one
pub count_cheap : (m : ℕ) (x y : ℕ → ℤ) → 1 ≤ m → (halving m x y).count + 12 ≤ 12 * m
count_cheap =
    by_halving (λ m x y. (halving m x y).count + 12 ≤ 12 * m)
    (λ x y. rw (one_pair_lem x y) (omega arith))
    (λ m x y l ih. rw (more_pairs m x y l) (level_cheap m x y (halving (half m) (evens x) (evens y)).best (halving (half m) (evens x) (evens y)).count l ih))

-- which trials a level made is told by its best and its even half's
level_counted : (m : ℕ) (x y : ℕ → ℤ) (h c : ℕ) → c + read_between m (from_half m x y h c).best h ≡ (from_half m x y h c).count
level_counted m x y h c =
    cases m x y h (λ (t : Taken). c + read_between m t.best h ≡ t.count) c odd
    (λ c' p o. past c' p (2 * h) (omega arith))
    (λ c' p o. past c' p (2 * h + 1) (omega arith))
  where
    odd : 0 < h → empty_at m x y (2 * h - 1) ≡ false → c + read_between m (2 * h - 1) h ≡ c + read_at m (2 * h - 1)
    odd s o = rw (lt-ltb 0 h s, lt-ltb (2 * h - 1) (2 * h) (omega arith)) (omega arith)

    past : (c' : ℕ) → Past m x y h c c' → (b : ℕ) → 2 * h ≤ b → c + read_between m b h ≡ c' + read_at m (2 * h)
    past c' p b w = go (dec_le h 0)
      where
        go : Dec (h ≤ 0) → c + read_between m b h ≡ c' + read_at m (2 * h)
        go (yes z) = rw (le-ltb 0 h z, le-ltb b (2 * h) w) (omega (arith, p.none (omega arith)))
        go (no z) = rw (lt-ltb 0 h (omega arith), le-ltb b (2 * h) w) (omega (arith, (p.odd (omega arith)).1))

-- a ladder begins with its own rung, and tells the count
record Counted (m : ℕ) (e : Halving) : Type 0 where
  rest : List ℕ
  ladder : e.ladder ≡ m ∷ e.best ∷ rest
  count : count_under m e.best rest ≡ e.count

one_counted : Counted 1 one_pair
unfolding count_under
one_counted = record { rest = []; ladder = refl; count = refl }

more_counted : (m : ℕ) (x y : ℕ → ℤ) (e : Halving) → Counted (half m) e → Counted m (level_over m x y e)
unfolding count_under
more_counted m x y e k = record { rest = e.ladder; ladder = refl; count = rw (k.ladder, k.count) (level_counted m x y e.best e.count) }

counted : (m : ℕ) (x y : ℕ → ℤ) → 1 ≤ m → Counted m (halving m x y)
counted =
    by_halving (λ m x y. Counted m (halving m x y))
    (λ x y. rw (one_pair_lem x y) one_counted)
    (λ m x y l ih. rw (more_pairs m x y l) (more_counted m x y (halving (half m) (evens x) (evens y)) ih))

-- "The count is therefore fixed by the ladder."
pub count_fixed : (m : ℕ) (x y : ℕ → ℤ) → 1 ≤ m → (halving m x y).count ≡ ladder_count (halving m x y).ladder
unfolding ladder_count
count_fixed m x y h = let k = counted m x y h in rw k.ladder (sym k.count)

-- two numbers for each level
pub ladder_length : (m : ℕ) (x y : ℕ → ℤ) → 1 ≤ m → length (halving m x y).ladder ≡ 2 * levels m
ladder_length =
    by_halving (λ m x y. length (halving m x y).ladder ≡ 2 * levels m)
    (λ x y. rw (one_pair_lem x y, one_level))
    (λ m x y l ih. rw (more_pairs m x y l, more_levels m l) (omega (arith, ih)))
