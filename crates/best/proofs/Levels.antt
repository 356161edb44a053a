-- The two equations of the halving, with no number of halvings in them; induction along the levels; and the cases of a level.
use mathlib.Core.Path.{◌≡◌, refl}
use mathlib.Core.Bool.{Bool, true, false}
use mathlib.Core.Logic.{⊎_elim}
use Prim.Native.Nat.{ℕ, zero, suc, ◌+◌, ◌-◌, ◌*◌, ◌≤◌, ◌<◌}
use native.Mathlib.Nat.{eq-or-lt_of_le}
use native.Mathlib.Omega.{arith}
use borrow.Author.Tests.{lt-ltb, le-ltb, ltb-true, ltb-false}
use lib.Dec.{ltb}
use lib.IntN.{ℤ, pos}
use Rattle.wiring.specs.Fit.{evens, half}
use Rattle.best.specs.Halving.{empty_at, read_at, Taken, taken, from_even, from_half, one_pair, level_over, halving_in, halving, levels_in, levels}

-- as many halvings as there are pairs, or more, come to the same
enough : (f g m : ℕ) (x y : ℕ → ℤ) → m ≤ f + 1 → m ≤ g + 1 → halving_in f m x y ≡ halving_in g m x y
unfolding halving_in
enough zero zero m x y p q = refl
enough zero (suc g) m x y p q = rw (le-ltb 1 m (omega arith))
enough (suc f) zero m x y p q = rw (le-ltb 1 m (omega arith))
enough (suc f) (suc g) m x y p q = rw (enough f g (half m) (evens x) (evens y) (omega arith) (omega arith))

enough_levels : (f g m : ℕ) → m ≤ f + 1 → m ≤ g + 1 → levels_in f m ≡ levels_in g m
unfolding levels_in
enough_levels zero zero m p q = refl
enough_levels zero (suc g) m p q = rw (le-ltb 1 m (omega arith))
enough_levels (suc f) zero m p q = rw (le-ltb 1 m (omega arith))
enough_levels (suc f) (suc g) m p q = rw (enough_levels f g (half m) (omega arith) (omega arith))

-- "One pair: best is 0."
pub one_pair_lem : (x y : ℕ → ℤ) → halving 1 x y ≡ one_pair
unfolding halving_in
one_pair_lem x y = refl

-- "For m > 1 pairs the best separation of the even half .. is worked out first .. Then the best is 2h-1, 2h or 2h+1."
pub more_pairs : (m : ℕ) (x y : ℕ → ℤ) → 1 < m → halving m x y ≡ level_over m x y (halving (half m) (evens x) (evens y))
unfolding halving_in
more_pairs zero x y h = absurd (omega arith)
more_pairs (suc f) x y h = rw (lt-ltb 1 (suc f) h, enough f (half (suc f)) (half (suc f)) (evens x) (evens y) (omega arith) (omega arith))

pub one_level : levels 1 ≡ 1
unfolding levels_in
one_level = refl

pub more_levels : (m : ℕ) → 1 < m → levels m ≡ levels (half m) + 1
unfolding levels_in
more_levels zero h = absurd (omega arith)
more_levels (suc f) h = rw (lt-ltb 1 (suc f) h, enough_levels f (half (suc f)) (half (suc f)) (omega arith) (omega arith))

pub no_more_levels : (m : ℕ) → 1 ≤ m → m ≤ 1 → levels m ≡ 1
no_more_levels m h k = let e : m ≡ 1 = omega arith in rw (e, one_level)

pub level_up : (m k : ℕ) → 1 < m → m ≤ 2 * k → 2 * k ≤ m + 1 → levels m ≡ levels k + 1
level_up m k h low high = let e : half m ≡ k = omega arith in rw e at (more_levels m h)

pub some_levels : (m : ℕ) → 1 ≤ m → 1 ≤ levels m
some_levels m h = ⊎_elim (λ e. rw (← e, one_level) (omega arith)) (λ l. omega (arith, more_levels m l)) (eq-or-lt_of_le h)

-- what holds of one pair, and of more if it holds of their even half, holds of every level
module _ (P : ℕ → (ℕ → ℤ) → (ℕ → ℤ) → Type 0)
    (one : (x y : ℕ → ℤ) → P 1 x y)
    (more : (m : ℕ) (x y : ℕ → ℤ) → 1 < m → P (half m) (evens x) (evens y) → P m x y) where
  up_to : (n m : ℕ) (x y : ℕ → ℤ) → m ≤ n → 1 ≤ m → P m x y
  up_to zero m x y p q = absurd (omega arith)
  up_to (suc n) m x y p q =
      ⊎_elim (λ e. rw (← e) (one x y)) (λ l. more m x y l (up_to n (half m) (evens x) (evens y) (omega arith) (omega arith))) (eq-or-lt_of_le q)

  pub by_halving : (m : ℕ) (x y : ℕ → ℤ) → 1 ≤ m → P m x y
  by_halving m x y q = up_to m m x y (omega arith) q

-- there are no more levels than pairs
pub few_levels : (m : ℕ) → 1 ≤ m → levels m ≤ m
few_levels m h =
    by_halving (λ n x y. levels n ≤ n) (λ x y. rw one_level (omega arith)) (λ n x y l ih. omega (arith, more_levels n l, ih)) m (λ i. pos 0) (λ i. pos 0) h

-- how a level comes to its best, c differences having been read for the even half: at 2h-1; or past it, with c' read, at 2h or 2h+1
pub record Past (m : ℕ) (x y : ℕ → ℤ) (h c c' : ℕ) : Type 0 where
  pub none : h ≡ 0 → c' ≡ c
  pub odd : 0 < h → (empty_at m x y (2 * h - 1) ≡ true) × (c' ≡ c + read_at m (2 * h - 1))

module _ (m : ℕ) (x y : ℕ → ℤ) (h : ℕ) where
  pub from_odd : (c : ℕ) → 0 < h → empty_at m x y (2 * h - 1) ≡ false → from_half m x y h c ≡ taken (2 * h - 1) (c + read_at m (2 * h - 1))
  unfolding from_half
  from_odd c s e = rw (lt-ltb 0 h s, e)

  pub from_past : (c : ℕ) → 0 < h → empty_at m x y (2 * h - 1) ≡ true → from_half m x y h c ≡ from_even m x y h (c + read_at m (2 * h - 1))
  unfolding from_half
  from_past c s e = rw (lt-ltb 0 h s, e)

  pub from_none : (c : ℕ) → h ≡ 0 → from_half m x y h c ≡ from_even m x y h c
  unfolding from_half
  from_none c e = rw (le-ltb 0 h (omega arith))

  pub from_open : (c : ℕ) → empty_at m x y (2 * h) ≡ false → from_even m x y h c ≡ taken (2 * h) (c + read_at m (2 * h))
  unfolding from_even
  from_open c e = rw e

  pub from_empty : (c : ℕ) → empty_at m x y (2 * h) ≡ true → from_even m x y h c ≡ taken (2 * h + 1) (c + read_at m (2 * h))
  unfolding from_even
  from_empty c e = rw e

  module _ (P : Taken → Type 0) (c : ℕ)
      (odd : 0 < h → empty_at m x y (2 * h - 1) ≡ false → P (taken (2 * h - 1) (c + read_at m (2 * h - 1))))
      (even : (c' : ℕ) → Past m x y h c c' → empty_at m x y (2 * h) ≡ false → P (taken (2 * h) (c' + read_at m (2 * h))))
      (last : (c' : ℕ) → Past m x y h c c' → empty_at m x y (2 * h) ≡ true → P (taken (2 * h + 1) (c' + read_at m (2 * h)))) where
    by_even : (c' : ℕ) (t : Bool) → empty_at m x y (2 * h) ≡ t → Past m x y h c c' → P (from_even m x y h c')
    by_even c' true e p = rw (from_empty c' e) (last c' p e)
    by_even c' false e p = rw (from_open c' e) (even c' p e)

    by_odd : (t : Bool) → empty_at m x y (2 * h - 1) ≡ t → 0 < h → P (from_half m x y h c)
    by_odd true e s = rw (from_past c s e) (by_even _ _ refl (record { none = λ z. absurd (omega arith); odd = λ q. (e, refl) }))
    by_odd false e s = rw (from_odd c s e) (odd s e)

    by_half : (t : Bool) → ltb 0 h ≡ t → P (from_half m x y h c)
    by_half true e = by_odd _ refl (ltb-true 0 h e)
    by_half false e =
        let z = ltb-false 0 h e in
        rw (from_none c (omega arith)) (by_even c _ refl (record { none = λ q. refl; odd = λ q. absurd (omega arith) }))

    pub cases : P (from_half m x y h c)
    cases = by_half _ refl
