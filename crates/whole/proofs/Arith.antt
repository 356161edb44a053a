-- Linear arithmetic over ℤ by omega, which reads ℕ alone.
-- Sections: the two halves of a whole number; orders and equations to halves and back; sums; the ruleset `arithℤ`.
-- A sum, a difference or a negation is an unknown to omega until its law is listed: `omega (arithℤ, sum a b, dif a b, neg a)`.
-- Not here: the tests of the code (Order), what an i32 holds (Machine), largest and smallest (Extremes).
use mathlib.Core.Path.{◌≡◌, ap}
use mathlib.Core.Bool.{Bool, true, false, not, cond}
use mathlib.Core.Logic.{◌⊎◌, inl, inr}
use Prim.Native.Nat.{ℕ, zero, suc, ◌+◌, ◌-◌, ◌≤◌, ◌<◌}
use native.Mathlib.Decide.{dec_le}
use native.Mathlib.Omega.{arith}
use lib.Dec.{T, ltb, leb→le, le→leb, ltb→lt, lt→ltb, nltb→le}
use lib.IntN.{ℤ, pos, negsuc, neg_ℤ, ◌+ℤ◌, ◌-ℤ◌, sub_ℕ}
use lib.Signed.{◌≤ℤ◌, ◌<ℤ◌, le_z, lt_z}

-- z is up z - down z
abbrev pub up : ℤ → ℕ
up (pos n) = n
up (negsuc n) = 0

abbrev pub down : ℤ → ℕ
down (pos n) = 0
down (negsuc n) = suc n

le_to : (a b : ℤ) → T (le_z a b) → up a + down b ≤ up b + down a
le_to (pos a) (pos b) t = omega (arith, leb→le)
le_to (pos a) (negsuc b) t = absurd t
le_to (negsuc a) (pos b) t = omega arith
le_to (negsuc a) (negsuc b) t = omega (arith, leb→le)

pub ≤_to : {a b : ℤ} → a ≤ℤ b → up a + down b ≤ up b + down a
≤_to {a} {b} h = le_to a b h.le

lt_to : (a b : ℤ) → T (lt_z a b) → up a + down b < up b + down a
lt_to (pos a) (pos b) t = omega (arith, ltb→lt)
lt_to (pos a) (negsuc b) t = absurd t
lt_to (negsuc a) (pos b) t = omega arith
lt_to (negsuc a) (negsuc b) t = omega (arith, ltb→lt)

pub <_to : {a b : ℤ} → a <ℤ b → up a + down b < up b + down a
<_to {a} {b} h = lt_to a b h.lt

le_of : (a b : ℤ) → up a + down b ≤ up b + down a → T (le_z a b)
le_of (pos a) (pos b) h = omega (arith, le→leb)
le_of (pos a) (negsuc b) h = omega arith
le_of (negsuc a) (pos b) h = tt
le_of (negsuc a) (negsuc b) h = omega (arith, le→leb)

pub ≤_of : {a b : ℤ} → up a + down b ≤ up b + down a → a ≤ℤ b
≤_of {a} {b} h = record { le = le_of a b h }

lt_of : (a b : ℤ) → up a + down b < up b + down a → T (lt_z a b)
lt_of (pos a) (pos b) h = omega (arith, lt→ltb)
lt_of (pos a) (negsuc b) h = omega arith
lt_of (negsuc a) (pos b) h = tt
lt_of (negsuc a) (negsuc b) h = omega (arith, lt→ltb)

pub <_of : {a b : ℤ} → up a + down b < up b + down a → a <ℤ b
<_of {a} {b} h = record { lt = lt_of a b h }

pub ≡_to : (a b : ℤ) → a ≡ b → up a + down b ≡ up b + down a
≡_to a b h = rw h

pub ≡_of : (a b : ℤ) → up a + down b ≡ up b + down a → a ≡ b
≡_of (pos a) (pos b) h = ap pos (omega arith)
≡_of (pos a) (negsuc b) h = absurd (omega arith)
≡_of (negsuc a) (pos b) h = absurd (omega arith)
≡_of (negsuc a) (negsuc b) h = ap negsuc (omega arith)

sub_law : (a b : ℕ) → up (sub_ℕ a b) + b ≡ down (sub_ℕ a b) + a
sub_law a b = go (ltb a b) (ltb→lt a b) (nltb→le a b)
  where
    go : (t : Bool) → (T t → a < b) → (T (not t) → b ≤ a) → up (cond t (negsuc (b - suc a)) (pos (a - b))) + b ≡ down (cond t (negsuc (b - suc a)) (pos (a - b))) + a
    go true f g = let h : a < b = f tt in omega arith
    go false f g = let h : b ≤ a = g tt in omega arith

pub sum : (a b : ℤ) → up (a +ℤ b) + down a + down b ≡ down (a +ℤ b) + up a + up b
sum (pos a) (pos b) = omega arith
sum (pos a) (negsuc b) = omega (arith, sub_law a (suc b))
sum (negsuc a) (pos b) = omega (arith, sub_law b (suc a))
sum (negsuc a) (negsuc b) = omega arith

pub neg : (a : ℤ) → up (neg_ℤ a) + up a ≡ down (neg_ℤ a) + down a
neg (pos zero) = omega arith
neg (pos (suc n)) = omega arith
neg (negsuc n) = omega arith

pub dif : (a b : ℤ) → up (a -ℤ b) + down a + up b ≡ down (a -ℤ b) + up a + down b
dif a b = omega (arith, sum a (neg_ℤ b), neg b)

pub ruleset arithℤ = (arith, ≤_to, <_to, ≡_to, ≤_of, <_of, ≡_of)

pub ≤_or_< : (a b : ℤ) → (a ≤ℤ b) ⊎ (b <ℤ a)
≤_or_< a b = go (dec_le (up a + down b) (up b + down a))
  where
    go : Dec (up a + down b ≤ up b + down a) → (a ≤ℤ b) ⊎ (b <ℤ a)
    go (yes h) = inl (omega arithℤ)
    go (no h) = inr (omega arithℤ)
