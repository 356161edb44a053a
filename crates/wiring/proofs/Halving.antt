-- The halving law (003, sections 3 and 4), with one offset in hand: what fits the even half, and what fits the whole.
use mathlib.Core.Path.{◌≡◌, ap}
use Prim.Native.Nat.{ℕ, ◌+◌, ◌*◌, ◌/◌}
use native.Mathlib.Omega.{arith}
use lib.IntN.{ℤ, ◌-ℤ◌}
use Rattle.whole.proofs.Arith.{arithℤ, dif}
use Rattle.wiring.specs.Fit.{Steady, Fits, evens, half}

pub evens_steady : {n : ℕ} {x : ℕ → ℤ} → Steady n x → Steady (half n) (evens x)
evens_steady {n} s i j h l = s (2 * i) (2 * j) (omega arith) (omega arith)

-- the conditions of the half at s are among those of the whole at 2s
pub to_half : {n s : ℕ} {x y : ℕ → ℤ} {d : ℤ} → Fits n (2 * s) x y d → Fits (half n) s (evens x) (evens y) d
to_half {n} {s} {x} {y} {d} f =
    record {
      low = λ i h. let e : 2 * i + 2 * s ≡ 2 * (i + s) = omega arith in omega (arithℤ, f.low (2 * i) (omega arith), ap (λ (k : ℕ). x (2 * i) -ℤ y k) e);
      high = λ i h. let e : 2 * i + 2 * s ≡ 2 * (i + s) = omega arith in omega (arithℤ, f.high (2 * i) (omega arith), ap (λ (k : ℕ). x k -ℤ y (2 * i)) e);
    }

-- each condition of the whole at 2s + 1 follows from one of the half at s: from the even entries at or after its first, and at or before its last
pub from_half_lem : {n s : ℕ} {x y : ℕ → ℤ} {d : ℤ} → Steady n x → Steady n y → Fits (half n) s (evens x) (evens y) d → Fits n (2 * s + 1) x y d
from_half_lem {n} {s} {x} {y} {d} sx sy f =
    record {
      low = λ i h.
          let k = (i + 1) / 2 in
          omega (arithℤ, f.low k (omega arith), dif (x (2 * k)) (y (2 * (k + s))), dif (x i) (y (i + (2 * s + 1))), sx i (2 * k) (omega arith) (omega arith), sy (2 * (k + s)) (i + (2 * s + 1)) (omega arith) h);
      high = λ i h.
          let k = (i + 1) / 2 in
          omega (arithℤ, f.high k (omega arith), dif (x (2 * (k + s))) (y (2 * k)), dif (x (i + (2 * s + 1))) (y i), sx (2 * (k + s)) (i + (2 * s + 1)) (omega arith) h, sy i (2 * k) (omega arith) (omega arith));
    }
