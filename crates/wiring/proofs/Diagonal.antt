-- Necessary: where n wires are legal over s + 1 tracks, each pad is s columns clear of the pad of the other row that stands s places on.
-- The idea: a diagonal of the grid has s points on tracks 1 to s. If a pad were nearer, s + 1 wires would all have to cross one diagonal there.
use mathlib.Core.Path.{◌≡◌, refl, sym, ap, ◌∙◌}
use mathlib.Core.List.{List, [], ◌∷◌}
use mathlib.Core.Logic.{◌⊎◌, inl, inr, ⊎_elim}
use Prim.Native.Nat.{ℕ, suc, ◌+◌, ◌-◌, ◌≤◌, ◌<◌}
use native.Mathlib.Decide.{ℕ_discrete}
use native.Mathlib.Omega.{arith}
use lib.IntN.{ℤ, pos, ◌+ℤ◌}
use lib.Signed.{◌≤ℤ◌}
use Rattle.whole.proofs.Arith.{up, down, arithℤ, sum, ≤_or_<}
use Rattle.wiring.specs.Wiring.{Point, Beside, Step, Legal}
use Rattle.wiring.specs.Fit.{Steady}
use Rattle.wiring.proofs.Walk.{Among, among_on, Leads, Walk, wire_walk, same_point}
use Rattle.wiring.proofs.Pigeon.{pigeon}

-- the second point of a wire over one track or more stands on track 1, straight above its pad
second : (s : ℕ) (a c : ℤ) (p q : Point) (r : List Point) → Walk (suc s) a c (p ∷ q ∷ r) → (q.column ≡ a) × (q.track ≡ 1)
second s a c p q r h = go h.1.1
  where
    column : p.column ≡ a
    column = ap (λ (z : Point). z.column) h.0

    track : p.track ≡ 0
    track = ap (λ (z : Point). z.track) h.0

    go : Step p q → (q.column ≡ a) × (q.track ≡ 1)
    go (inl n) = absurd (h.2 q (inl refl) (sym n.0 ∙ track))
    go (inr n) = (sym n.0 ∙ column, ⊎_elim (λ e. omega (arith, track)) (λ e. absurd (omega (arith, track))) n.1)

-- over no track a wire is one point
pub upright : {n : ℕ} {a c : ℕ → ℤ} {w : ℕ → List Point} → Legal n 0 a c w → (i : ℕ) → i < n → a i ≡ c i
upright {n} {a} {c} {w} legal i h = go (w i) (wire_walk 0 (a i) (c i) (w i) (legal.wires i h))
  where
    go : (l : List Point) → Walk 0 (a i) (c i) l → a i ≡ c i
    go [] k = absurd k
    go (p ∷ []) k = ap (λ (z : Point). z.column) (sym k.0 ∙ k.1)
    go (p ∷ q ∷ r) k = absurd (omega (arith, k.1.0))

-- The points at which u - d + track is k - m. With u and d the two halves of the column it falls to the right; with the halves changed over it
-- rises, and the same proof serves the left side.
module _ (u d : ℤ → ℕ)
    (near : (x y : ℤ) → Beside x y → (u y + d x ≡ suc (u x + d y)) ⊎ (u x + d y ≡ suc (u y + d x)))
    (same : (x y : ℤ) → u x + d y ≡ u y + d x → x ≡ y)
    (k m : ℕ) where
  abbrev lhs : Point → ℕ
  lhs p = u p.column + p.track + m

  abbrev rhs : Point → ℕ
  rhs p = d p.column + k

  -- one step from a point before the diagonal does not lead past it
  step : (p q : Point) → Step p q → lhs p < rhs p → lhs q ≤ rhs q
  step p q (inl n) h = ⊎_elim (λ e. omega arith) (λ e. omega arith) (near p.column q.column n.1)
  step p q (inr n) h = ⊎_elim (λ e. omega (arith, ap u n.0, ap d n.0)) (λ e. omega (arith, ap u n.0, ap d n.0)) n.1

  -- a wire from before the diagonal to past it has a point on it, below track s
  cross : (s : ℕ) (c : ℤ) (p : Point) (r : List Point) → Leads s c p r → lhs p ≤ rhs p → d c + k < u c + s + m
      → (q : Point) × Among q (p ∷ r) × (q.track < s) × (lhs q ≡ rhs q)
  cross s c p [] l h past = absurd (omega (arith, ap (λ (z : Point). u z.column) l, ap (λ (z : Point). d z.column) l, ap (λ (z : Point). z.track) l))
  cross s c p (q ∷ r) l h past = go (ℕ_discrete (lhs p) (rhs p)) (λ h'. cross s c q r l.2 h' past)
    where
      go : Dec (lhs p ≡ rhs p) → (lhs q ≤ rhs q → (z : Point) × Among z (q ∷ r) × (z.track < s) × (lhs z ≡ rhs z))
          → (z : Point) × Among z (p ∷ q ∷ r) × (z.track < s) × (lhs z ≡ rhs z)
      go (yes e) f = (p, inl refl, l.0, e)
      go (no e) f = let z = f (step p q l.1 (omega arith)) in (z.0, inr z.1, z.2, z.3)

  -- a wire over s + 1 tracks that stands before the diagonal on track 1 and ends past it has a point on it, on a track from 1 to s
  crosses : (s : ℕ) (a c : ℤ) (w : List Point) → Walk (suc s) a c w → u a + 1 + m ≤ d a + k → d c + k < u c + suc s + m
      → (q : Point) × Among q w × (t : ℕ) × (t < s) × (q.track ≡ suc t) × (lhs q ≡ rhs q)
  crosses s a c [] h before past = absurd h
  crosses s a c (p ∷ []) h before past = absurd (omega (arith, ap (λ (z : Point). z.track) h.0, ap (λ (z : Point). z.track) h.1))
  crosses s a c (p ∷ q ∷ r) h before past =
      let e = second s a c p q r h in
      let z = cross (suc s) c q r h.1.2 (omega (arith, e.1, ap u e.0, ap d e.0)) past in
      let up = h.2 z.0 z.1 in
      (z.0, inr z.1, z.0.track - 1, omega (arith, z.2, up), omega (arith, up), z.3)

  -- so no s + 1 wires in a row all go from before the diagonal to past it
  crowd : {n s : ℕ} {a c : ℕ → ℤ} {w : ℕ → List Point} → Legal n (suc s) a c w → (i : ℕ) → i + s < n
      → ((j : ℕ) → i ≤ j → j ≤ i + s → u (a j) + 1 + m ≤ d (a j) + k)
      → ((j : ℕ) → i ≤ j → j ≤ i + s → d (c j) + k < u (c j) + suc s + m) → ⊥
  crowd {n} {s} {a} {c} {w} legal i fits before past = pigeon s Hits apart hits
    where
      Hits : ℕ → ℕ → Type 0
      Hits j t = (q : Point) × Among q (w (i + j)) × (q.track ≡ suc t) × (lhs q ≡ rhs q)

      apart : (j j' t : ℕ) → j < j' → j' ≤ s → Hits j t → Hits j' t → ⊥
      apart j j' t lt le x y =
          legal.apart (i + j) (i + j') (omega arith) (omega arith) y.0
          (among_on y.0 (w (i + j)) (rw (same_point x.0 y.0 (same _ _ (omega arith)) (omega arith)) at x.1))
          (among_on y.0 (w (i + j')) y.1)

      hits : (j : ℕ) → j ≤ s → (t : ℕ) × (t < s) × Hits j t
      hits j le =
          let walk = wire_walk (suc s) (a (i + j)) (c (i + j)) (w (i + j)) (legal.wires (i + j) (omega arith)) in
          let z = crosses s (a (i + j)) (c (i + j)) (w (i + j)) walk (before (i + j) (omega arith) (omega arith)) (past (i + j) (omega arith) (omega arith)) in
          (z.2, z.3, (z.0, z.1, z.4, z.5))

near⁺ : (x y : ℤ) → Beside x y → (up y + down x ≡ suc (up x + down y)) ⊎ (up x + down y ≡ suc (up y + down x))
near⁺ x y (inl e) = inl (omega (arithℤ, sum x (pos 1)))
near⁺ x y (inr e) = inr (omega (arithℤ, sum y (pos 1)))

near⁻ : (x y : ℤ) → Beside x y → (down y + up x ≡ suc (down x + up y)) ⊎ (down x + up y ≡ suc (down y + up x))
near⁻ x y h = ⊎_elim (λ e. inr (omega arith)) (λ e. inl (omega arith)) (near⁺ x y h)

module _ {n s : ℕ} {a c : ℕ → ℤ} {w : ℕ → List Point} (legal : Legal n (suc s) a c w) (ra : Steady n a) (rc : Steady n c) (i : ℕ) (fits : i + s < n) where
  pub right : (c i +ℤ pos s) ≤ℤ a (i + s)
  right = ⊎_elim (λ h. h) (λ h. absurd (crowd up down near⁺ (λ x y e. omega arithℤ) (up (c i) + suc s) (down (c i) + 1) legal i fits
      (λ j lo hi. omega (arithℤ, sum (c i) (pos s), ra j (i + s) hi fits))
      (λ j lo hi. omega (arithℤ, rc i j lo (omega arith))))) (≤_or_< (c i +ℤ pos s) (a (i + s)))

  pub left : (a i +ℤ pos s) ≤ℤ c (i + s)
  left = ⊎_elim (λ h. h) (λ h. absurd (crowd down up near⁻ (λ x y e. omega arithℤ) (down (a i) + 1) (up (a i)) legal i fits
      (λ j lo hi. omega (arithℤ, ra i j lo (omega arith)))
      (λ j lo hi. omega (arithℤ, sum (a i) (pos s), rc j (i + s) hi fits)))) (≤_or_< (a i +ℤ pos s) (c (i + s)))
