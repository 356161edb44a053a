-- THE THEOREM OF FIT: a legal wiring, of any shape, exists at (s, d) exactly when the rule of fit holds at the number that serves s. And what follows
-- from it at once, in the words of 02's #106: at 0 exactly straight wires, at t + 1 exactly the rule at t.
use mathlib.Core.Path.{◌≡◌, ap}
use mathlib.Core.List.{List}
use mathlib.Core.Logic.{◌↔◌}
use Prim.Native.Nat.{ℕ, zero, suc, ◌+◌, ◌-◌, ◌≤◌, ◌<◌}
use native.Mathlib.Decide.{dec_lt}
use native.Mathlib.Omega.{arith}
use lib.IntN.{ℤ, pos, ◌+ℤ◌}
use Rattle.whole.proofs.Arith.{arithℤ, sum, dif}
use Rattle.wiring.specs.Wiring.{Point, Legal, Wirable}
use Rattle.wiring.specs.Fit.{lean, Rising, Steady, high_end, Fits}
use Rattle.wiring.specs.Tracks.{rule_at}
use Rattle.wiring.specs.Table.{LegalTable}
use Rattle.wiring.specs.Drawing.{drawn}
use Rattle.wiring.proofs.Rule.{rising_steady, lean_steady, fits_above, fits_past}
use Rattle.wiring.proofs.Serves.{rule_zero, rule_next, rule_up, rule_past}
use Rattle.wiring.proofs.Diagonal.{upright, left, right}
use Rattle.wiring.proofs.Build.{ordered_legal}
use Rattle.wiring.proofs.Drawing.{Clear, drawn_ordered}

-- the top row, moved by d
abbrev pub shifted : (ℕ → ℤ) → ℤ → ℕ → ℤ
shifted b d i = b i +ℤ d

pub shifted_rising : {n : ℕ} {b : ℕ → ℤ} (d : ℤ) → Rising n b → Rising n (shifted b d)
shifted_rising {n} {b} d r i h = omega (arithℤ, r i h, sum (b i) d, sum (b (i + 1)) d)

module _ (n s : ℕ) (a b : ℕ → ℤ) (d : ℤ) where
  -- the rule in x and y, and in columns
  pub fits_clear : Fits n s (lean a) (lean b) d → Clear n s a (shifted b d)
  fits_clear f i h = (
    omega (arithℤ, f.low i h, dif (lean a i) (lean b (i + s)), dif (a i) (pos i), dif (b (i + s)) (pos (i + s)), sum (a i) (pos s), sum (b (i + s)) d),
    omega (arithℤ, f.high i h, dif (lean a (i + s)) (lean b i), dif (a (i + s)) (pos (i + s)), dif (b i) (pos i), sum (b i) d, sum (shifted b d i) (pos s)),
  )

  pub clear_fits : Clear n s a (shifted b d) → Fits n s (lean a) (lean b) d
  clear_fits g =
      record {
        low = λ i h. omega (arithℤ, (g i h).0, dif (lean a i) (lean b (i + s)), dif (a i) (pos i), dif (b (i + s)) (pos (i + s)), sum (a i) (pos s), sum (b (i + s)) d);
        high = λ i h. omega (arithℤ, (g i h).1, dif (lean a (i + s)) (lean b i), dif (a (i + s)) (pos (i + s)), dif (b i) (pos i), sum (b i) d, sum (shifted b d i) (pos s));
      }

-- pads that stand straight above each other meet the rule at 0
same_clear : {n : ℕ} {a c : ℕ → ℤ} → ((i : ℕ) → i < n → a i ≡ c i) → Clear n 0 a c
same_clear {n} {a} {c} e i h =
    let g : i + 0 ≡ i = omega arith in
    let f = e i (omega arith) in
    (omega (arithℤ, f, sum (a i) (pos 0), ap c g), omega (arithℤ, f, sum (c i) (pos 0), ap a g))

-- what a legal wiring says of the pads: over no track that they stand straight above each other, over s + 1 tracks what the diagonal says
legal_clear : {n : ℕ} {a c : ℕ → ℤ} {w : ℕ → List Point} (s : ℕ) → Steady n a → Steady n c → Legal n s a c w → Clear n (rule_at s) a c
legal_clear zero sa sc l = rw rule_zero (same_clear (upright l))
legal_clear (suc s) sa sc l = rw (rule_next s) (λ i h. (left l sa sc i h, right l sa sc i h))

module _ (n s : ℕ) (a b : ℕ → ℤ) (d : ℤ) (ra : Rising n a) (rb : Rising n b) where
  legal_fits : {w : ℕ → List Point} → Legal n s a (shifted b d) w → Fits n (rule_at s) (lean a) (lean b) d
  legal_fits l = clear_fits n (rule_at s) a b d (legal_clear s (rising_steady ra) (rising_steady (shifted_rising d rb)) l)

  -- our drawing is legal exactly when the rule holds
  pub drawing_legal : LegalTable n s a (shifted b d) (drawn n a (shifted b d)) ↔ Fits n (rule_at s) (lean a) (lean b) d
  drawing_legal = (legal_fits, (λ f. ordered_legal (drawn_ordered n a (shifted b d) ra (shifted_rising d rb) s (fits_clear n (rule_at s) a b d f))))

  pub fit_exactly : Wirable n s a (shifted b d) ↔ Fits n (rule_at s) (lean a) (lean b) d
  fit_exactly = ((λ w. legal_fits w.1), (λ f. (_, drawing_legal.1 f)))

-- "At s = 0 this forces a_i = b_i + d for every i."
pub straight : (n : ℕ) (a b : ℕ → ℤ) (d : ℤ) → Fits n 0 (lean a) (lean b) d ↔ ((i : ℕ) → i < n → a i ≡ b i +ℤ d)
straight n a b d = (
  (λ f i h.
      let g : i + 0 ≡ i = omega arith in
      let c = fits_clear n 0 a b d f i (omega arith) in
      omega (arithℤ, c.0, c.1, sum (a i) (pos 0), sum (shifted b d i) (pos 0), ap (shifted b d) g, ap a g)),
  (λ e. clear_fits n 0 a b d (same_clear e)),
)

-- the same of wirings: there is one at s = 0 exactly when every top pad stands straight above its bottom pad
pub straight_wiring : (n : ℕ) (a b : ℕ → ℤ) (d : ℤ) → Rising n a → Rising n b → Wirable n 0 a (shifted b d) ↔ ((i : ℕ) → i < n → a i ≡ b i +ℤ d)
straight_wiring n a b d ra rb =
    let f = rw rule_zero at (fit_exactly n 0 a b d ra rb) in
    let g = straight n a b d in
    ((λ w. g.0 (f.0 w)), (λ e. f.1 (g.1 e)))

-- "at t >= 1 a jumper fits where it fitted at t - 1 before": there is one at t + 1 exactly when the rule holds at t
pub stiffened_wiring : (n t : ℕ) (a b : ℕ → ℤ) (d : ℤ) → Rising n a → Rising n b → Wirable n (suc t) a (shifted b d) ↔ Fits n t (lean a) (lean b) d
stiffened_wiring n t a b d ra rb = rw (rule_next t) at (fit_exactly n (suc t) a b d ra rb)

-- so the first track wins nothing: what fits at 1 fits at 0
pub first_track : (n : ℕ) (a b : ℕ → ℤ) (d : ℤ) → Rising n a → Rising n b → Wirable n 1 a (shifted b d) → Wirable n 0 a (shifted b d)
first_track n a b d ra rb w = (fit_exactly n 0 a b d ra rb).1 (rw rule_zero ((stiffened_wiring n 0 a b d ra rb).0 w))

-- a fit at s is a fit at s + 1: one track more never hurts
pub wirable_next : (n s : ℕ) (a b : ℕ → ℤ) (d : ℤ) → Rising n a → Rising n b → Wirable n s a (shifted b d) → Wirable n (suc s) a (shifted b d)
wirable_next n s a b d ra rb w =
    let on = rule_at (suc s) - rule_at s in
    let there : rule_at s + on ≡ rule_at (suc s) = omega (arith, rule_up s (suc s) (omega arith)) in
    (fit_exactly n (suc s) a b d ra rb).1 (fits_above (lean_steady ra) (lean_steady rb) on (rule_at s) (rule_at (suc s)) there ((fit_exactly n s a b d ra rb).0 w))

-- where the rule has no pairs to meet, every offset has a wiring
pub wide_enough : (n s : ℕ) (a b : ℕ → ℤ) (d : ℤ) → Rising n a → Rising n b → n ≤ rule_at s → Wirable n s a (shifted b d)
wide_enough n s a b d ra rb h = (fit_exactly n s a b d ra rb).1 (fits_past n (rule_at s) (lean a) (lean b) d h)

-- "every offset fits only above n": at n tracks and fewer one past the high end of pair 0 does not
pub every_offset : (n s : ℕ) (a b : ℕ → ℤ) → 0 < n → Rising n a → Rising n b → ((d : ℤ) → Wirable n s a (shifted b d)) ↔ (n < s)
every_offset n s a b some ra rb = ((λ w. (rule_past n s some).0 (past w)), (λ h d. wide_enough n s a b d ra rb ((rule_past n s some).1 h)))
  where
    x : ℤ
    x = high_end (lean a) (lean b) (rule_at s) 0

    past : ((d : ℤ) → Wirable n s a (shifted b d)) → n ≤ rule_at s
    past w = go (dec_lt (rule_at s) n)
      where
        go : Dec (rule_at s < n) → n ≤ rule_at s
        go (yes h) = absurd (omega (arithℤ, sum x (pos 1), ((fit_exactly n s a b (x +ℤ pos 1) ra rb).0 (w (x +ℤ pos 1))).high 0 (omega arith)))
        go (no h) = omega arith
