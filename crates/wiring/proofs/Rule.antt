-- Laws of rows and of the rule of fit, on x and y alone.
-- Sections: rising rows; a fit at s is a fit above s; what breaks the rule; the ends of s.
use mathlib.Core.Path.{◌≡◌, refl, ap}
use Prim.Native.Nat.{ℕ, zero, suc, ◌+◌, ◌-◌, ◌≤◌, ◌<◌}
use native.Mathlib.Omega.{arith}
use lib.IntN.{ℤ, pos, ◌+ℤ◌}
use lib.Signed.{◌≤ℤ◌, ◌<ℤ◌}
use Rattle.whole.proofs.Arith.{arithℤ, sum, dif}
use Rattle.wiring.specs.Fit.{lean, Rising, Steady, low_end, high_end, Fits, TooRight, TooLeft}

-- a rising row rises by one at least at each place
pub spread : {n : ℕ} {a : ℕ → ℤ} → Rising n a → (k i j : ℕ) → i + k ≡ j → j < n → (a i +ℤ pos k) ≤ℤ a j
spread {n} {a} r zero i j e lt = let f : i ≡ j = omega arith in omega (arithℤ, sum (a i) (pos 0), ap a f)
spread {n} {a} r (suc k) i j e lt =
    let f : i + k + 1 ≡ j = omega arith in
    omega (arithℤ, sum (a i) (pos k), sum (a i) (pos (suc k)), spread r k i (i + k) refl (omega arith), r (i + k) (omega arith), ap a f)

pub rising_less : {n : ℕ} {a : ℕ → ℤ} → Rising n a → (i j : ℕ) → i < j → j < n → a i <ℤ a j
rising_less {n} {a} r i j h l = omega (arithℤ, spread r (j - i) i j (omega arith) l, sum (a i) (pos (j - i)))

pub rising_steady : {n : ℕ} {a : ℕ → ℤ} → Rising n a → Steady n a
rising_steady {n} {a} r i j h l = omega (arithℤ, spread r (j - i) i j (omega arith) l, sum (a i) (pos (j - i)))

-- "Both never fall."
pub lean_steady : {n : ℕ} {a : ℕ → ℤ} → Rising n a → Steady n (lean a)
lean_steady {n} {a} r i j h l = omega (arithℤ, spread r (j - i) i j (omega arith) l, sum (a i) (pos (j - i)), dif (a i) (pos i), dif (a j) (pos j))

module _ {n : ℕ} {x y : ℕ → ℤ} (sx : Steady n x) (sy : Steady n y) where
  -- the ends that pair i sets lie within those that it, or the pair after it, sets at one less
  pub ends_next : (s i : ℕ) → i + suc s < n → (low_end x y (suc s) i ≤ℤ low_end x y s i) × (high_end x y s i ≤ℤ high_end x y (suc s) i)
  ends_next s i h = (
    omega (arithℤ, dif (x i) (y (i + suc s)), dif (x i) (y (i + s)), sy (i + s) (i + suc s) (omega arith) h),
    omega (arithℤ, dif (x (i + s)) (y i), dif (x (i + suc s)) (y i), sx (i + s) (i + suc s) (omega arith) h),
  )

  pub fits_next : {s : ℕ} {d : ℤ} → Fits n s x y d → Fits n (suc s) x y d
  fits_next {s} {d} f =
      record {
        low = λ i h. omega (arithℤ, f.low i (omega arith), (ends_next s i h).0);
        high = λ i h. omega (arithℤ, f.high i (omega arith), (ends_next s i h).1);
      }

  pub fits_above : (k s t : ℕ) {d : ℤ} → s + k ≡ t → Fits n s x y d → Fits n t x y d
  fits_above zero s t e f = let g : s ≡ t = omega arith in rw (← g) f
  fits_above (suc k) s t e f = fits_above k (suc s) t (omega arith) (fits_next f)

  -- both sides can't break at one pair
  pub one_side : {s : ℕ} {d : ℤ} (i : ℕ) → TooRight n s x y d i → TooLeft n s x y d i → ⊥
  one_side {s} {d} i r l =
      omega (arithℤ, r.above, l.under, dif (x (i + s)) (y i), dif (x i) (y (i + s)), sx i (i + s) (omega arith) r.inside, sy i (i + s) (omega arith) r.inside)

-- where it breaks it does not hold
pub right_breaks : {n s : ℕ} {x y : ℕ → ℤ} {d : ℤ} {i : ℕ} → TooRight n s x y d i → Fits n s x y d → ⊥
right_breaks {n} {s} {x} {y} {d} {i} r f = omega (arithℤ, r.above, f.high i r.inside)

pub left_breaks : {n s : ℕ} {x y : ℕ → ℤ} {d : ℤ} {i : ℕ} → TooLeft n s x y d i → Fits n s x y d → ⊥
left_breaks {n} {s} {x} {y} {d} {i} l f = omega (arithℤ, l.under, f.low i l.inside)

-- "For s >= n there is nothing to meet and every offset fits."
pub fits_past : (n s : ℕ) (x y : ℕ → ℤ) (d : ℤ) → n ≤ s → Fits n s x y d
fits_past n s x y d h = record { low = λ i l. absurd (omega arith); high = λ i l. absurd (omega arith) }
