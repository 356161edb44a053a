-- The laws of `rule_at` and `tracks_for`, by which all else uses them.
use mathlib.Core.Path.{◌≡◌, refl}
use mathlib.Core.Logic.{◌↔◌}
use Prim.Native.Nat.{ℕ, zero, suc, ◌+◌, ◌-◌, ◌≤◌, ◌<◌}
use native.Mathlib.Omega.{arith}
use Rattle.wiring.specs.Tracks.{rule_at, tracks_for}

pub rule_zero : rule_at 0 ≡ 0
unfolding rule_at
rule_zero = refl

pub rule_next : (t : ℕ) → rule_at (suc t) ≡ t
unfolding rule_at
rule_next t = omega arith

pub rule_most : (t : ℕ) → rule_at t ≤ t
unfolding rule_at
rule_most t = omega arith

pub rule_up : (t u : ℕ) → t ≤ u → rule_at t ≤ rule_at u
unfolding rule_at
rule_up t u h = omega arith

-- above 0 one less
pub rule_above : (t : ℕ) → 0 < t → rule_at t + 1 ≡ t
unfolding rule_at
rule_above t h = omega arith

-- one track more reads the rule at most one further on
pub rule_near : (t u : ℕ) → t ≤ suc u → rule_at t ≤ suc (rule_at u)
unfolding rule_at
rule_near t u h = omega arith

-- at the least separation that s serves the rule is read at s, at any smaller one below it, and at one track fewer just below it
pub rule_back : (s : ℕ) → rule_at (tracks_for s) ≡ s
unfolding rule_at tracks_for
rule_back zero = refl
rule_back (suc r) = omega arith

pub rule_below : (s t : ℕ) → t < tracks_for s → rule_at t < s
unfolding rule_at tracks_for
rule_below zero t h = absurd (omega arith)
rule_below (suc r) t h = omega arith

pub rule_fewer : (s : ℕ) → rule_at (tracks_for s - 1) ≡ s - 1
unfolding rule_at tracks_for
rule_fewer zero = refl
rule_fewer (suc r) = omega arith

-- where the rule is read below s, the separation is at most the one that s serves
pub rule_under : (s t : ℕ) → rule_at t < s → t ≤ tracks_for s
unfolding rule_at tracks_for
rule_under zero t h = absurd (omega arith)
rule_under (suc r) t h = omega arith

-- the rule is read at n or more exactly at separations above n
pub rule_past : (n t : ℕ) → 0 < n → (n ≤ rule_at t) ↔ (n < t)
unfolding rule_at
rule_past n t some = ((λ h. omega arith), (λ h. omega arith))

-- "a least or best separation of 0 stays and any other grows by one"
pub tracks_zero : tracks_for 0 ≡ 0
unfolding tracks_for
tracks_zero = refl

pub tracks_above : (s : ℕ) → 0 < s → tracks_for s ≡ s + 1
unfolding tracks_for
tracks_above zero h = absurd (omega arith)
tracks_above (suc r) h = omega arith

pub tracks_some : (s : ℕ) → 0 < s → 0 < tracks_for s
unfolding tracks_for
tracks_some zero h = h
tracks_some (suc r) h = omega arith

pub tracks_up : (s t : ℕ) → s ≤ t → tracks_for s ≤ tracks_for t
unfolding tracks_for
tracks_up zero t h = omega arith
tracks_up (suc r) zero h = absurd (omega arith)
tracks_up (suc r) (suc q) h = omega arith

pub tracks_near : (s : ℕ) → tracks_for s ≤ suc s
unfolding tracks_for
tracks_near zero = omega arith
tracks_near (suc r) = omega arith
