-- Sufficient: 01's drawing is one clamp, its runs never touch, and it ends on the top pads exactly where the rule holds; with one straight step put below,
-- it is ours.
use mathlib.Core.Path.{◌≡◌, refl, ap}
use mathlib.Core.Bool.{Bool, true, false, cond}
use mathlib.Core.Logic.{◌⊎◌, inl, inr, ⊎_elim}
use Prim.Native.Nat.{ℕ, zero, suc, ◌+◌, ◌-◌, ◌≤◌, ◌<◌}
use native.Mathlib.Omega.{arith}
use borrow.Author.Tests.{ltb-true, ltb-false}
use lib.Dec.{ltb}
use lib.IntN.{ℤ, pos, ◌+ℤ◌, ◌-ℤ◌}
use lib.Signed.{◌≤ℤ◌, ◌<ℤ◌, lt_z}
use Rattle.whole.specs.Pick.{larger_of, smaller_of}
use Rattle.whole.proofs.Arith.{arithℤ, sum, dif}
use Rattle.whole.proofs.Order.{true_lt, false_lt, larger_law, smaller_law}
use Rattle.wiring.specs.Fit.{Rising}
use Rattle.wiring.specs.Drawing.{rightward, leftward, entry, column_at, drawn}
use Rattle.wiring.specs.Tracks.{rule_at}
use Rattle.wiring.proofs.Rule.{spread, rising_less}
use Rattle.wiring.proofs.Serves.{rule_zero, rule_next, rule_near}
use Rattle.wiring.proofs.Build.{Ordered}

-- All that is needed of 01's column z = e_t of a wire: it is c, held from the left by pad i - t and from the right by pad i + t.
pub record Clamped (n : ℕ) (a : ℕ → ℤ) (c : ℤ) (i t : ℕ) (z : ℤ) : Type 0 where
  pub lower : t ≤ i → (a (i - t) +ℤ pos t) ≤ℤ z
  pub upper : i + t < n → z ≤ℤ (a (i + t) -ℤ pos t)
  pub below : (z ≤ℤ c) ⊎ ((t ≤ i) × (z ≡ a (i - t) +ℤ pos t))
  pub above : (c ≤ℤ z) ⊎ ((i + t < n) × (z ≡ a (i + t) -ℤ pos t))

module _ (n : ℕ) (a : ℕ → ℤ) (ra : Rising n a) (c : ℤ) (i t : ℕ) (here : i < n) where
  -- the pad t places on is t columns away at least, and so is the pad t places back
  on : i + t < n → a i ≤ℤ (a (i + t) -ℤ pos t)
  on h = omega (arithℤ, spread ra t i (i + t) refl h, sum (a i) (pos t), dif (a (i + t)) (pos t))

  back : t ≤ i → (a (i - t) +ℤ pos t) ≤ℤ a i
  back h = spread ra t (i - t) i (omega arith) here

  to_left : c <ℤ a i → Clamped n a c i t (leftward a c i t)
  unfolding leftward
  to_left lt = go (ltb i t) refl
    where
      go : (x : Bool) → ltb i t ≡ x → Clamped n a c i t (cond x c (larger_of c (a (i - t) +ℤ pos t)))
      go true e =
          record {
            lower = λ h. absurd (omega (arith, ltb-true i t e));
            upper = λ h. omega (arithℤ, on h);
            below = inl (omega arithℤ);
            above = inl (omega arithℤ);
          }
      go false e =
          let l : t ≤ i = ltb-false i t e in
          let m = larger_law c (a (i - t) +ℤ pos t) in
          record {
            lower = λ h. m.second;
            upper = λ h. ⊎_elim (λ g. omega (arithℤ, on h)) (λ g. omega (arithℤ, on h, back l)) m.one;
            below = ⊎_elim (λ g. inl (omega arithℤ)) (λ g. inr (l, g)) m.one;
            above = inl m.first;
          }

  to_right : a i ≤ℤ c → Clamped n a c i t (rightward n a c i t)
  unfolding rightward
  to_right le = go (ltb (i + t) n) refl
    where
      go : (x : Bool) → ltb (i + t) n ≡ x → Clamped n a c i t (cond x (smaller_of c (a (i + t) -ℤ pos t)) c)
      go true e =
          let l : i + t < n = ltb-true (i + t) n e in
          let m = smaller_law c (a (i + t) -ℤ pos t) in
          record {
            lower = λ h. ⊎_elim (λ g. omega (arithℤ, back h)) (λ g. omega (arithℤ, on l, back h)) m.one;
            upper = λ h. m.second;
            below = inl m.first;
            above = ⊎_elim (λ g. inl (omega arithℤ)) (λ g. inr (l, g)) m.one;
          }
      go false e =
          record {
            lower = λ h. omega (arithℤ, back h);
            upper = λ h. absurd (omega (arith, ltb-false (i + t) n e));
            below = inl (omega arithℤ);
            above = inl (omega arithℤ);
          }

pub entry_clamped : (n : ℕ) (a : ℕ → ℤ) → Rising n a → (c : ℤ) (i t : ℕ) → i < n → Clamped n a c i t (entry n a c i t)
unfolding entry
entry_clamped n a ra c i zero here =
    let p : a (i - 0) ≡ a i = ap a (omega arith) in
    let q : a (i + 0) ≡ a i = ap a (omega arith) in
    record {
      lower = λ h. omega (arithℤ, sum (a (i - 0)) (pos 0));
      upper = λ h. omega (arithℤ, dif (a (i + 0)) (pos 0));
      below = inr (omega arith, omega (arithℤ, sum (a (i - 0)) (pos 0)));
      above = inr (omega arith, omega (arithℤ, dif (a (i + 0)) (pos 0)));
    }
entry_clamped n a ra c i (suc t) here = go (lt_z c (a i)) refl
  where
    go : (x : Bool) → lt_z c (a i) ≡ x → Clamped n a c i (suc t) (cond x (leftward a c i (suc t)) (rightward n a c i (suc t)))
    go true e = to_left n a ra c i (suc t) here (true_lt c (a i) e)
    go false e = to_right n a ra c i (suc t) here (false_lt c (a i) e)

-- our columns: a wire enters track 0 on its pad's column, and track t + 1 on 01's e_t; so it enters track 1 on its pad's column too
pub column_first : (n : ℕ) (a : ℕ → ℤ) (c : ℤ) (i : ℕ) → column_at n a c i 0 ≡ a i
unfolding entry
column_first n a c i = rw rule_zero

pub column_next : (n : ℕ) (a : ℕ → ℤ) (c : ℤ) (i t : ℕ) → column_at n a c i (suc t) ≡ entry n a c i t
column_next n a c i t = rw (rule_next t)

pub column_second : (n : ℕ) (a : ℕ → ℤ) (c : ℤ) (i : ℕ) → column_at n a c i 1 ≡ column_at n a c i 0
column_second n a c i = rw (rule_next 0, rule_zero)

-- in columns, the rule says that each pad is s columns clear of the pad of the other row that stands s places on
abbrev pub Clear : (n s : ℕ) (a c : ℕ → ℤ) → Type 0
Clear n s a c = (i : ℕ) → i + s < n → ((a i +ℤ pos s) ≤ℤ c (i + s)) × ((c i +ℤ pos s) ≤ℤ a (i + s))

module _ (n : ℕ) (a c : ℕ → ℤ) (ra : Rising n a) (rc : Rising n c) where
  -- 01's column of wire i
  abbrev e : ℕ → ℕ → ℤ
  e i t = entry n a (c i) i t

  law : (i t : ℕ) → i < n → Clamped n a (c i) i t (e i t)
  law i t h = entry_clamped n a ra (c i) i t h

  -- its runs are in order, whether or not the rule holds
  entry_less : (i j : ℕ) → i < j → j < n → (t t' : ℕ) → t ≤ suc t' → t' ≤ suc t → e i t <ℤ e j t'
  entry_less i j lt lt' t t' h k =
      ⊎_elim (λ p. ⊎_elim (λ q. omega (arithℤ, rising_less rc i j lt lt')) held_right y.above) held_left x.below
    where
      x : Clamped n a (c i) i t (e i t)
      x = law i t (omega arith)

      y : Clamped n a (c j) j t' (e j t')
      y = law j t' lt'

      -- pad j + t' holds wire j
      held_right : (j + t' < n) × (e j t' ≡ a (j + t') -ℤ pos t') → e i t <ℤ e j t'
      held_right q =
          let gap = j + t' - (i + t) in
          let far = spread ra gap (i + t) (j + t') (omega arith) q.0 in
          omega (arithℤ, q.1, x.upper (omega (arith, q.0)), dif (a (i + t)) (pos t), dif (a (j + t')) (pos t'), sum (a (i + t)) (pos gap), far)

      -- pad i - t holds wire i
      held_left : (t ≤ i) × (e i t ≡ a (i - t) +ℤ pos t) → e i t <ℤ e j t'
      held_left p =
          let gap = j - t' - (i - t) in
          let far = spread ra gap (i - t) (j - t') (omega (arith, p.0)) (omega arith) in
          omega (arithℤ, p.1, y.lower (omega (arith, p.0)), sum (a (i - t)) (pos t), sum (a (j - t')) (pos t'), sum (a (i - t)) (pos gap), far)

  entry_top : (s : ℕ) → Clear n s a c → (i : ℕ) → i < n → e i s ≡ c i
  entry_top s clear i h =
      let x = law i s h in
      let le : e i s ≤ℤ c i = ⊎_elim (λ p. p) (λ p. omega (arithℤ, p.1, there p.0, (clear (i - s) (omega (arith, p.0))).0)) x.below in
      let ge : c i ≤ℤ e i s = ⊎_elim (λ p. p) (λ p. omega (arithℤ, p.1, (clear i p.0).1, sum (c i) (pos s), dif (a (i + s)) (pos s))) x.above in
      omega arithℤ
    where
      there : s ≤ i → c (i - s + s) ≡ c i
      there p = ap c (omega arith)

  pub drawn_ordered : (s : ℕ) → Clear n (rule_at s) a c → Ordered n s a c (drawn n a c)
  drawn_ordered s clear =
      record {
        bottom = λ i h. column_first n a (c i) i;
        rises = λ i h _. column_second n a (c i) i;
        top = entry_top (rule_at s) clear;
        clear = λ i j lt lt' t t' _ _ h k. entry_less i j lt lt' (rule_at t) (rule_at t') (rule_near t t' h) (rule_near t' t k);
      }
