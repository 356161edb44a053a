-- The first place of the largest, and of the smallest: one law over the order by which they are picked.
use mathlib.Core.Path.{◌≡◌, refl}
use mathlib.Core.Bool.{Bool, true, false, cond}
use mathlib.Core.Logic.{⊎_elim}
use Prim.Native.Nat.{ℕ, zero, suc, ◌+◌, ◌≤◌, ◌<◌}
use native.Mathlib.Nat.{eq-or-lt_of_le}
use native.Mathlib.Numerals.{add-one}
use native.Mathlib.Omega.{arith}
use lib.IntN.{ℤ, ◌+ℤ◌}
use lib.Signed.{◌≤ℤ◌, ◌<ℤ◌, lt_z}
use Rattle.whole.specs.Pick.{larger_of, smaller_of, first_by, largest_at, smallest_at, largest, smallest}
use Rattle.whole.proofs.Arith.{up, down, arithℤ, sum}
use Rattle.whole.proofs.Order.{true_lt, false_lt, lt_same}

-- u and d are the halves of a whole number for the largest, and change places for the smallest
module _ (u d : ℤ → ℕ) (over : ℤ → ℤ → Bool)
    (yes' : (x y : ℤ) → over x y ≡ true → u x + d y < u y + d x)
    (no' : (x y : ℤ) → over x y ≡ false → u y + d x ≤ u x + d y)
    (f : ℕ → ℤ) where
  record First (n k : ℕ) : Type 0 where
    within : k ≤ n
    bounds : (j : ℕ) → j ≤ n → u (f j) + d (f k) ≤ u (f k) + d (f j)
    first : (j : ℕ) → j < k → u (f j) + d (f k) < u (f k) + d (f j)

  first_by_lem : (n : ℕ) → First n (first_by over f n)
  unfolding first_by
  first_by_lem zero = record { within = omega arith; bounds = λ j h. let e : j ≡ 0 = omega arith in rw e (omega arith); first = λ j h. absurd (omega arith) }
  first_by_lem (suc n) = go (over (f (first_by over f n)) (f (suc n))) refl (first_by_lem n)
    where
      go : (t : Bool) → over (f (first_by over f n)) (f (suc n)) ≡ t → First n (first_by over f n) → First (suc n) (cond t (suc n) (first_by over f n))
      go true e p =
          let m = yes' _ _ e in
          record {
            within = omega arith;
            bounds = λ j h. ⊎_elim (λ g. rw g (omega arith)) (λ g. omega (arith, p.bounds j (omega arith))) (eq-or-lt_of_le h);
            first = λ j h. omega (arith, p.bounds j (omega arith));
          }
      go false e p =
          let m = no' _ _ e in
          record {
            within = omega (arith, p.within);
            bounds = λ j h. ⊎_elim (λ g. rw g m) (λ g. p.bounds j (omega arith)) (eq-or-lt_of_le h);
            first = p.first;
          }

pub record Largest (f : ℕ → ℤ) (n k : ℕ) : Type 0 where
  pub within : k ≤ n
  pub bounds : (j : ℕ) → j ≤ n → f j ≤ℤ f k
  pub first : (j : ℕ) → j < k → f j <ℤ f k

pub record Smallest (f : ℕ → ℤ) (n k : ℕ) : Type 0 where
  pub within : k ≤ n
  pub bounds : (j : ℕ) → j ≤ n → f k ≤ℤ f j
  pub first : (j : ℕ) → j < k → f k <ℤ f j

pub largest_law : (f : ℕ → ℤ) (n : ℕ) → Largest f n (largest_at f n)
largest_law f n =
    let p = first_by_lem up down lt_z (λ x y e. omega (arithℤ, true_lt x y e)) (λ x y e. omega (arithℤ, false_lt x y e)) f n in
    record { within = p.within; bounds = λ j h. omega (arithℤ, p.bounds j h); first = λ j h. omega (arithℤ, p.first j h) }

pub smallest_law : (f : ℕ → ℤ) (n : ℕ) → Smallest f n (smallest_at f n)
smallest_law f n =
    let p = first_by_lem down up (λ x y. lt_z y x) (λ x y e. omega (arithℤ, true_lt y x e)) (λ x y e. omega (arithℤ, false_lt y x e)) f n in
    record { within = p.within; bounds = λ j h. omega (arithℤ, p.bounds j h); first = λ j h. omega (arithℤ, p.first j h) }

-- numbers that all stand z further on are largest and smallest at the same places
module _ (f g : ℕ → ℤ) (z : ℤ) (e : (i : ℕ) → f i ≡ g i +ℤ z) where
  further : (i j : ℕ) → lt_z (f i) (f j) ≡ lt_z (g i) (g j)
  further i j = lt_same (f i) (f j) (g i) (g j) (λ h. omega (arithℤ, e i, e j, sum (g i) z, sum (g j) z)) (λ h. omega (arithℤ, e i, e j, sum (g i) z, sum (g j) z))

  pub largest_further : (n : ℕ) → largest_at f n ≡ largest_at g n
  unfolding first_by
  largest_further zero = refl
  largest_further (suc n) = rw (largest_further n, further (largest_at g n) (suc n))

  pub smallest_further : (n : ℕ) → smallest_at f n ≡ smallest_at g n
  unfolding first_by
  smallest_further zero = refl
  smallest_further (suc n) = rw (smallest_further n, further (suc n) (smallest_at g n))

-- one place more, as a loop takes it
pub largest_more : (f : ℕ → ℤ) (n : ℕ) → larger_of (largest f n) (f (n + 1)) ≡ largest f (n + 1)
unfolding first_by larger_of
largest_more f n = rw (add-one n) (go (lt_z (f (largest_at f n)) (f (suc n))))
  where
    go : (t : Bool) → cond t (f (suc n)) (f (largest_at f n)) ≡ f (cond t (suc n) (largest_at f n))
    go true = refl
    go false = refl

pub smallest_more : (f : ℕ → ℤ) (n : ℕ) → smaller_of (smallest f n) (f (n + 1)) ≡ smallest f (n + 1)
unfolding first_by smaller_of
smallest_more f n = rw (add-one n) (go (lt_z (f (suc n)) (f (smallest_at f n))))
  where
    go : (t : Bool) → cond t (f (suc n)) (f (smallest_at f n)) ≡ f (cond t (suc n) (smallest_at f n))
    go true = refl
    go false = refl

pub largest_first : (f : ℕ → ℤ) → largest f 0 ≡ f 0
unfolding first_by
largest_first f = refl

pub smallest_first : (f : ℕ → ℤ) → smallest f 0 ≡ f 0
unfolding first_by
smallest_first f = refl
