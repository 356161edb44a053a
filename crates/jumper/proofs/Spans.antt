-- The range at a number holds exactly the offsets that meet the rule there; so it is empty exactly when none does.
use mathlib.Core.Path.{◌≡◌}
use mathlib.Core.Bool.{true}
use mathlib.Core.Logic.{◌↔◌}
use Prim.Native.Nat.{ℕ, ◌+◌, ◌-◌, ◌*◌, ◌≤◌, ◌<◌}
use native.Mathlib.Omega.{arith}
use lib.IntN.{ℤ}
use lib.Signed.{◌≤ℤ◌, lt_z}
use Rattle.whole.proofs.Arith.{arithℤ, dif}
use Rattle.whole.proofs.Extremes.{largest_law, smallest_law}
use Rattle.wiring.specs.Fit.{Steady, low_end, high_end, Fits}
use Rattle.jumper.specs.Range.{Within}
use Rattle.jumper.specs.Span.{lowest_at, highest_at, range_of}
use Rattle.jumper.proofs.Ranges.{empty_exactly}

module _ (n : ℕ) (x y : ℕ → ℤ) (s : ℕ) (inside : s < n) where
  pub range_exactly : (d : ℤ) → Within d (range_of n x y s) ↔ Fits n s x y d
  range_exactly d =
      let l = largest_law (low_end x y s) (n - s - 1) in
      let h = smallest_law (high_end x y s) (n - s - 1) in (
        (λ w. record { low = λ i g. omega (arithℤ, l.bounds i (omega arith), w.low); high = λ i g. omega (arithℤ, h.bounds i (omega arith), w.high) }),
        (λ f. record { low = f.low (lowest_at n x y s) (omega (arith, l.within)); high = f.high (highest_at n x y s) (omega (arith, h.within)) }),
      )

  -- the code's test for an empty range
  pub none_fits : (lt_z (range_of n x y s).high (range_of n x y s).low ≡ true) ↔ ((d : ℤ) → Fits n s x y d → ⊥)
  none_fits =
      let e = empty_exactly (range_of n x y s) in
      ((λ t d f. e.0 t d ((range_exactly d).1 f)), (λ z. e.1 (λ d w. z d ((range_exactly d).0 w))))

-- the best number is "at most half the number of pairs" (003, lemma 2): at s with n <= 2s + 1 any low end is at most any high end
pub half_fits : (n : ℕ) (x y : ℕ → ℤ) (s : ℕ) → Steady n x → Steady n y → s < n → n ≤ 2 * s + 1 → (range_of n x y s).low ≤ℤ (range_of n x y s).high
half_fits n x y s sx sy inside h =
    let i = lowest_at n x y s in
    let j = highest_at n x y s in
    let l = largest_law (low_end x y s) (n - s - 1) in
    let g = smallest_law (high_end x y s) (n - s - 1) in
    let p : i ≤ j + s = omega (arith, l.within) in
    let q : j ≤ i + s = omega (arith, g.within) in
    omega (arithℤ, dif (x i) (y (i + s)), dif (x (j + s)) (y j), sx i (j + s) p (omega (arith, g.within)), sy j (i + s) q (omega (arith, l.within)))
