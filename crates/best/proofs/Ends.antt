-- The ends of a range, one round more: as a trial reads them.
use mathlib.Core.Path.{◌≡◌, ◌∙◌}
use mathlib.Core.List.{List}
use Prim.Native.Nat.{ℕ, ◌+◌, ◌-◌, ◌≤◌}
use native.Mathlib.Omega.{arith}
use native.Mathlib.Nat.{mul-zero, zero-add}
use lib.IntN.{ℤ, ◌-ℤ◌}
use Rattle.std.specs.Int.{int_max, int_min}
use Rattle.whole.specs.Pick.{first_by, largest, smallest}
use Rattle.whole.proofs.Order.{larger_is, smaller_is}
use Rattle.whole.proofs.Extremes.{largest_more, smallest_more}
use Rattle.wiring.specs.Wiring.{pad}
use Rattle.best.specs.Work.{low_read, high_read}

-- as a loop takes them, in round i
pub larger_step : (f : ℕ → ℤ) (i : ℕ) (old new r : ℤ) → 1 ≤ i → old ≡ largest f (i - 1) → new ≡ f i → r ≡ int_max old new → r ≡ largest f (i + 1 - 1)
larger_step f i old new r h p q e =
    let n : i - 1 + 1 ≡ i = omega arith in
    let n' : i + 1 - 1 ≡ i = omega arith in
    e ∙ larger_is old new ∙ rw (p, q, n') (rw n at (largest_more f (i - 1)))

pub smaller_step : (f : ℕ → ℤ) (i : ℕ) (old new r : ℤ) → 1 ≤ i → old ≡ smallest f (i - 1) → new ≡ f i → r ≡ int_min old new → r ≡ smallest f (i + 1 - 1)
smaller_step f i old new r h p q e =
    let n : i - 1 + 1 ≡ i = omega arith in
    let n' : i + 1 - 1 ≡ i = omega arith in
    e ∙ smaller_is old new ∙ rw (p, q, n') (rw n at (smallest_more f (i - 1)))

module _ (a b : List ℤ) (p gap : ℕ) where
  -- before the first round
  pub low_first : pad a 0 -ℤ pad b gap ≡ largest (low_read a b 0 p gap) 0
  unfolding first_by
  low_first = rw (mul-zero p, zero-add gap)

  pub high_first : pad a gap -ℤ pad b 0 ≡ smallest (high_read a b 0 p gap) 0
  unfolding first_by
  high_first = rw (mul-zero p, zero-add gap)
