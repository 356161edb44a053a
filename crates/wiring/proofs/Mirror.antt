-- The mirror law, of the rule and of wirings: the jumper seen from behind (columns negated, order of pairs and sign of the offset turned) fits
-- exactly where the jumper does, and a witness there is the witness here with its pads counted from the other end and its side exchanged.
use mathlib.Core.Path.{◌≡◌, refl, ap}
use mathlib.Core.Logic.{◌↔◌}
use Prim.Native.Nat.{ℕ, suc, ◌+◌, ◌-◌, ◌<◌}
use native.Mathlib.Omega.{arith}
use lib.IntN.{ℤ, pos, neg_ℤ, ◌-ℤ◌}
use Rattle.whole.proofs.Arith.{arithℤ, dif, neg}
use Rattle.wiring.specs.Wiring.{Wirable}
use Rattle.wiring.specs.Tracks.{rule_at}
use Rattle.wiring.specs.Fit.{lean, Rising, low_end, high_end, Fits, TooRight, TooLeft, behind}
use Rattle.wiring.proofs.Theorem.{shifted, fit_exactly}

pub behind_rising : (n : ℕ) (a : ℕ → ℤ) → Rising n a → Rising n (behind n a)
behind_rising n a r i h =
    let e : n - suc (i + 1) + 1 ≡ n - suc i = omega arith in
    omega (arithℤ, r (n - suc (i + 1)) (omega arith), ap a e, neg (a (n - suc i)), neg (a (n - suc (i + 1))))

-- the pair that i is from the other end, with pads i and i + s
abbrev pub turned : (n s i : ℕ) → ℕ
turned n s i = n - suc (i + s)

module _ (n s : ℕ) (a b : ℕ → ℤ) (i : ℕ) (h : i + s < n) where
  first : n - suc (i + s) ≡ turned n s i
  first = refl

  last : turned n s i + s ≡ n - suc i
  last = omega arith

  -- each end that pair i sets from behind is the other end of the turned pair, negated
  pub low_turned : low_end (lean (behind n a)) (lean (behind n b)) s i ≡ neg_ℤ (high_end (lean a) (lean b) s (turned n s i))
  low_turned =
      let x = lean (behind n a) i in
      let y = lean (behind n b) (i + s) in
      let u = lean a (turned n s i + s) in
      let v = lean b (turned n s i) in
      omega (
        arithℤ,
        neg (u -ℤ v),
        dif u v,
        dif x y,
        dif (behind n a i) (pos i),
        dif (behind n b (i + s)) (pos (i + s)),
        neg (a (n - suc i)),
        neg (b (turned n s i)),
        dif (a (turned n s i + s)) (pos (turned n s i + s)),
        dif (b (turned n s i)) (pos (turned n s i)),
        ap a last,
      )

  pub high_turned : high_end (lean (behind n a)) (lean (behind n b)) s i ≡ neg_ℤ (low_end (lean a) (lean b) s (turned n s i))
  high_turned =
      let x = lean (behind n a) (i + s) in
      let y = lean (behind n b) i in
      let u = lean a (turned n s i) in
      let v = lean b (turned n s i + s) in
      omega (
        arithℤ,
        neg (u -ℤ v),
        dif u v,
        dif x y,
        dif (behind n a (i + s)) (pos (i + s)),
        dif (behind n b i) (pos i),
        neg (a (turned n s i)),
        neg (b (n - suc i)),
        dif (a (turned n s i)) (pos (turned n s i)),
        dif (b (turned n s i + s)) (pos (turned n s i + s)),
        ap b last,
      )

-- turning twice is not turning
pub turned_twice : (n s i : ℕ) → i + s < n → turned n s (turned n s i) ≡ i
turned_twice n s i h = omega arith

module _ (n s : ℕ) (a b : ℕ → ℤ) (d : ℤ) where
  abbrev Front : Type 0
  Front = Fits n s (lean a) (lean b) d

  abbrev Back : Type 0
  Back = Fits n s (lean (behind n a)) (lean (behind n b)) (neg_ℤ d)

  pub mirror : Fits n s (lean (behind n a)) (lean (behind n b)) (neg_ℤ d) ↔ Fits n s (lean a) (lean b) d
  mirror = (forth, back)
    where
      forth : Fits n s (lean (behind n a)) (lean (behind n b)) (neg_ℤ d) → Fits n s (lean a) (lean b) d
      forth f =
          record {
            low = λ i h.
                let k = turned n s i in
                let e = high_turned n s a b k (omega arith) in
                let g = ap (low_end (lean a) (lean b) s) (turned_twice n s i h) in
                omega (arithℤ, f.high k (omega arith), e, g, neg d, neg (low_end (lean a) (lean b) s (turned n s k)));
            high = λ i h.
                let k = turned n s i in
                let e = low_turned n s a b k (omega arith) in
                let g = ap (high_end (lean a) (lean b) s) (turned_twice n s i h) in
                omega (arithℤ, f.low k (omega arith), e, g, neg d, neg (high_end (lean a) (lean b) s (turned n s k)));
          }

      back : Fits n s (lean a) (lean b) d → Fits n s (lean (behind n a)) (lean (behind n b)) (neg_ℤ d)
      back f =
          record {
            low = λ i h. omega (arithℤ, f.high (turned n s i) (omega arith), low_turned n s a b i h, neg d, neg (high_end (lean a) (lean b) s (turned n s i)));
            high = λ i h. omega (arithℤ, f.low (turned n s i) (omega arith), high_turned n s a b i h, neg d, neg (low_end (lean a) (lean b) s (turned n s i)));
          }

  -- the witness, turned
  pub right_turned : (i : ℕ) → TooRight n s (lean (behind n a)) (lean (behind n b)) (neg_ℤ d) i ↔ ((i + s < n) × TooLeft n s (lean a) (lean b) d (turned n s i))
  right_turned i = (
    (λ r.
        let ends = high_turned n s a b i r.inside in
        let turn = neg (low_end (lean a) (lean b) s (turned n s i)) in
        (r.inside, record { inside = omega (arith, r.inside); under = omega (arithℤ, r.above, ends, neg d, turn) })),
    (λ l. record { inside = l.0; above = omega (arithℤ, l.1.under, high_turned n s a b i l.0, neg d, neg (low_end (lean a) (lean b) s (turned n s i))) }),
  )

  pub left_turned : (i : ℕ) → TooLeft n s (lean (behind n a)) (lean (behind n b)) (neg_ℤ d) i ↔ ((i + s < n) × TooRight n s (lean a) (lean b) d (turned n s i))
  left_turned i = (
    (λ l.
        let ends = low_turned n s a b i l.inside in
        let turn = neg (high_end (lean a) (lean b) s (turned n s i)) in
        (l.inside, record { inside = omega (arith, l.inside); above = omega (arithℤ, l.under, ends, neg d, turn) })),
    (λ r. record { inside = r.0; under = omega (arithℤ, r.1.above, low_turned n s a b i r.0, neg d, neg (high_end (lean a) (lean b) s (turned n s i))) }),
  )

-- THE MIRROR LAW OF WIRINGS, over as many tracks
pub mirror_wiring : (n s : ℕ) (a b : ℕ → ℤ) (d : ℤ) → Rising n a → Rising n b
    → Wirable n s (behind n a) (shifted (behind n b) (neg_ℤ d)) ↔ Wirable n s a (shifted b d)
mirror_wiring n s a b d ra rb =
    let back = fit_exactly n s (behind n a) (behind n b) (neg_ℤ d) (behind_rising n a ra) (behind_rising n b rb) in
    let front = fit_exactly n s a b d ra rb in
    let turn = mirror n (rule_at s) a b d in
    ((λ w. front.1 (turn.0 (back.0 w))), (λ w. back.1 (turn.1 (front.0 w))))
