-- What an i32 holds. In an invariant a signed local is its bits, a ℕ: `to_z w32 v`; `back` turns the bits of a whole number into it again.
use mathlib.Core.Path.{◌≡◌, refl, sym, ap, ◌∙◌}
use mathlib.Core.Bool.{Bool, true, false, not}
use mathlib.Core.Logic.{◌⊎◌, inl, inr, ⊎_elim}
use Prim.Native.Nat.{ℕ, ◌+◌, ◌≤◌, ◌<◌, ◌^◌}
use native.Mathlib.Omega.{arith}
use borrow.Author.Tests.{eqb-true, eqb-false}
use lib.Dec.{eqb}
use lib.IntN.{ℤ, pos, negsuc, ◌+ℤ◌, ◌-ℤ◌, nat_abs}
use lib.Signed.{mag}
use mir.Syntax.{w32}
use mir.Val.{to_z, of_z, SFits}
use mir.ValLaws.{to_z-of_z}
use Rattle.whole.specs.Pick.{differ}
use Rattle.whole.proofs.Arith.{up, down, arithℤ, sum, dif, ≤_or_<}
use Rattle.whole.proofs.Order.{lt_true, lt_false}

pub back : (z : ℤ) → mag z < 2 ^ 31 → to_z w32 (of_z w32 z) ≡ z
back z h = to_z-of_z w32 z (record { sfits = h })

pub abs_halves : (z : ℤ) → nat_abs z ≡ up z + down z
abs_halves (pos n) = omega arith
abs_halves (negsuc n) = omega arith

-- a whole number between -B and B
pub abs_of : (z : ℤ) (B : ℕ) → up z ≤ down z + B → down z ≤ up z + B → nat_abs z ≤ B
abs_of (pos n) B h k = omega arith
abs_of (negsuc n) B h k = omega arith

pub abs_is : (z : ℤ) (B : ℕ) → (up z ≡ down z + B) ⊎ (down z ≡ up z + B) → nat_abs z ≡ B
abs_is (pos n) B (inl h) = omega arith
abs_is (pos n) B (inr h) = omega arith
abs_is (negsuc n) B (inl h) = omega arith
abs_is (negsuc n) B (inr h) = omega arith

pub abs_sum : (x y : ℤ) → nat_abs (x +ℤ y) ≤ nat_abs x + nat_abs y
abs_sum x y = abs_of (x +ℤ y) (nat_abs x + nat_abs y) (omega (arith, sum x y, abs_halves x, abs_halves y)) (omega (arith, sum x y, abs_halves x, abs_halves y))

pub abs_dif : (x y : ℤ) → nat_abs (x -ℤ y) ≤ nat_abs x + nat_abs y
abs_dif x y = abs_of (x -ℤ y) (nat_abs x + nat_abs y) (omega (arith, dif x y, abs_halves x, abs_halves y)) (omega (arith, dif x y, abs_halves x, abs_halves y))

mag_abs : (z : ℤ) → mag z ≤ nat_abs z
mag_abs (pos n) = omega arith
mag_abs (negsuc n) = omega arith

-- a number within two thousand millions fits an i32
pub fits32 : (z : ℤ) → nat_abs z ≤ 2000000000 → mag z < 2 ^ 31
fits32 z h = omega (arith, mag_abs z)

-- the machine compares bits: what `!=` says of two i32
pub bits_differ : (x y : ℤ) → SFits w32 x → SFits w32 y → not (eqb (of_z w32 x) (of_z w32 y)) ≡ differ x y
bits_differ x y hx hy = go (eqb (of_z w32 x) (of_z w32 y)) refl
  where
    go : (t : Bool) → eqb (of_z w32 x) (of_z w32 y) ≡ t → not t ≡ differ x y
    go true e =
        let p : x ≡ y = sym (to_z-of_z w32 x hx) ∙ ap (to_z w32) (eqb-true (of_z w32 x) (of_z w32 y) e) ∙ to_z-of_z w32 y hy in
        rw (lt_false x y (omega arithℤ), lt_false y x (omega arithℤ))
    go false e =
        ⊎_elim
        (λ le. ⊎_elim (λ ge. let p : x ≡ y = omega arithℤ in absurd (eqb-false (of_z w32 x) (of_z w32 y) e (ap (of_z w32) p))) (λ lt. rw (lt_true x y lt)) (≤_or_< y x))
        (λ lt. rw (lt_false x y (omega arithℤ), lt_true y x lt))
        (≤_or_< x y)
