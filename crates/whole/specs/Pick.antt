-- Whether two whole numbers differ, the larger and the smaller of two, and the first place at which a run of them is largest or smallest.
-- Contracts of every floor cite these.
use Rattle.std.specs.Prelude.{Bool, true, cond, ℕ, zero, suc, ℤ}
use Rattle.std.specs.Int.Signed.{lt_z}

abbrev pub differ : ℤ → ℤ → Bool
differ x y = cond (lt_z x y) true (lt_z y x)

unfoldable pub larger_of : ℤ → ℤ → ℤ
larger_of x y = cond (lt_z x y) y x

unfoldable pub smaller_of : ℤ → ℤ → ℤ
smaller_of x y = cond (lt_z y x) y x

-- `over x y`: y goes before x. The first of the places 0 to n that no place goes before
unfoldable pub first_by : (ℤ → ℤ → Bool) → (ℕ → ℤ) → ℕ → ℕ
first_by over f zero = zero
first_by over f (suc n) = cond (over (f (first_by over f n)) (f (suc n))) (suc n) (first_by over f n)

-- the first of the places 0 to n at which f is largest, and at which it is smallest
abbrev pub largest_at : (ℕ → ℤ) → ℕ → ℕ
largest_at f n = first_by lt_z f n

abbrev pub smallest_at : (ℕ → ℤ) → ℕ → ℕ
smallest_at f n = first_by (λ x y. lt_z y x) f n

-- the largest and the smallest of f 0 to f n
abbrev pub largest : (ℕ → ℤ) → ℕ → ℤ
largest f n = f (largest_at f n)

abbrev pub smallest : (ℕ → ℤ) → ℕ → ℤ
smallest f n = f (smallest_at f n)
