-- THE LAWS OF A PART (02, #113): wires taken out of a legal wiring leave a legal wiring; and a pair added after the last moves the rule of fit by one at most.
use mathlib.Core.Path.{◌≡◌, refl, sym, ap}
use mathlib.Core.List.{List, [], ◌∷◌}
use Prim.Native.Nat.{ℕ, zero, suc, ◌+◌, ◌-◌, ◌<◌}
use native.Mathlib.Omega.{arith}
use lib.ListN.{length, length-map, length-append, get_or-append}
use lib.IntN.{ℤ, pos, ◌+ℤ◌}
use Rattle.whole.proofs.Arith.{arithℤ}
use Rattle.wiring.specs.Wiring.{Point, Legal, Wirable, pad, top_pad, HasWiring}
use Rattle.wiring.specs.Fit.{Rising, Steady, Fits}
use Rattle.wiring.specs.Tracks.{rule_at}
use Rattle.wiring.specs.Part.{pair_of, Choice, part_of, longer}
use Rattle.wiring.proofs.Rule.{lean_steady, ends_next}
use Rattle.wiring.proofs.Theorem.{shifted, fit_exactly, stiffened_wiring}

-- WIRES TAKEN OUT: of n wires the m with numbers k 0, k 1 .. stay, between the same pads
pub wires_left : (m n s : ℕ) (k : ℕ → ℕ) {a c a' c' : ℕ → ℤ} {w : ℕ → List Point} → ((i : ℕ) → i < m → k i < n) → ((i j : ℕ) → i < j → j < m → k i < k j)
    → ((i : ℕ) → i < m → a' i ≡ a (k i)) → ((i : ℕ) → i < m → c' i ≡ c (k i)) → Legal n s a c w → Legal m s a' c' (λ i. w (k i))
wires_left m n s k inside rises bottom top l =
    record {
      wires = λ i h. rw (bottom i h, top i h) (l.wires (k i) (inside i h));
      apart = λ i j h g p x y. l.apart (k i) (k j) (rises i j h g) (inside j g) p x y;
    }

-- a choice rises over more than one place too
choice_less : {n : ℕ} {kept : List ℕ} → Choice n kept → (i j : ℕ) → i < j → j < length kept → pair_of kept i < pair_of kept j
choice_less {n} {kept} c i j h l = go (j - suc i) j l (omega arith)
  where
    go : (m j : ℕ) → j < length kept → suc i + m ≡ j → pair_of kept i < pair_of kept j
    go zero j l e = let f : i + 1 ≡ j = omega arith in rw (← f) (c.rises i (omega arith))
    go (suc m) j l e =
        let f : i + 1 + m + 1 ≡ j = omega arith in
        rw (← f) (omega (arith, go m (i + 1 + m) (omega arith) (omega arith), c.rises (i + 1 + m) (omega arith)))

pub part_length : (kept : List ℕ) (a : List ℤ) → length (part_of kept a) ≡ length kept
part_length kept a = length-map kept (pad a)

-- pad i of the part is the pad of the jumper's pair i of the choice
pub part_pad : (kept : List ℕ) (a : List ℤ) (i : ℕ) → i < length kept → pad (part_of kept a) i ≡ pad a (pair_of kept i)
part_pad [] a i h = absurd (omega arith)
part_pad (k ∷ kept) a zero h = refl
part_pad (k ∷ kept) a (suc i) h = part_pad kept a i (omega arith)

-- THE LAW OF DROPPED PAIRS: a separation and offset that fit still fit, whichever pairs are taken off. It needs no accepted and no rising rows, and not even
-- that a pair is left
pub dropped_legal : (a b : List ℤ) {kept : List ℕ} → Choice (length a) kept → (s : ℕ) (d : ℤ) {w : ℕ → List Point} → Legal (length a) s (pad a) (top_pad b d) w
    → Legal (length (part_of kept a)) s (pad (part_of kept a)) (top_pad (part_of kept b) d) (λ i. w (pair_of kept i))
dropped_legal a b {kept} c s d l =
    let top : (i : ℕ) → i < length kept → top_pad (part_of kept b) d i ≡ top_pad b d (pair_of kept i) = λ i h. ap (λ (x : ℤ). x +ℤ d) (part_pad kept b i h) in
    rw (part_length kept a) (wires_left (length kept) (length a) s (pair_of kept) c.inside (choice_less c) (part_pad kept a) top l)

pub dropped_wiring : (a b : List ℤ) {kept : List ℕ} → Choice (length a) kept → (s : ℕ) (d : ℤ)
    → HasWiring a b s d → HasWiring (part_of kept a) (part_of kept b) s d
dropped_wiring a b c s d w = (_, dropped_legal a b c s d w.1)

-- A PAIR ADDED AFTER THE LAST. The ends that pair i sets at s + 1 leave no less between them than those that it sets at s, and pads i and i + s are old ones
pub rule_added : {n s : ℕ} {x y : ℕ → ℤ} {d : ℤ} → Steady (suc n) x → Steady (suc n) y → Fits n s x y d → Fits (suc n) (suc s) x y d
rule_added {n} {s} sx sy f =
    record {
      low = λ i h. omega (arithℤ, f.low i (omega arith), (ends_next sx sy s i h).0);
      high = λ i h. omega (arithℤ, f.high i (omega arith), (ends_next sx sy s i h).1);
    }

fewer : {n : ℕ} {a : ℕ → ℤ} → Rising (suc n) a → Rising n a
fewer r i h = r i (omega arith)

-- so a jumper that fits at s fits, with the pair added, where the rule is read one further on: at s + 1, or at 2 if s is 0
wirable_added : (n s : ℕ) (a b : ℕ → ℤ) (d : ℤ) → Rising (suc n) a → Rising (suc n) b
    → Wirable n s a (shifted b d) → Wirable (suc n) (suc (suc (rule_at s))) a (shifted b d)
wirable_added n s a b d ra rb w =
    let f = (fit_exactly n s a b d (fewer ra) (fewer rb)).0 w in
    (stiffened_wiring (suc n) (suc (rule_at s)) a b d ra rb).1 (rule_added (lean_steady ra) (lean_steady rb) f)

-- THE SAME OF ROWS, a and b, which with the pads x and y after their last are accepted or at least rise
module _ (a b : List ℤ) (x y : ℤ) (e : length a ≡ length b) where
  longer_length : length (longer a x) ≡ suc (length a)
  longer_length = omega (arith, length-append a (x ∷ []))

  bottom : (i : ℕ) → i < length a → pad (longer a x) i ≡ pad a i
  bottom i h = get_or-append a (x ∷ []) (pos 0) i h

  top : (d : ℤ) (i : ℕ) → i < length a → top_pad (longer b y) d i ≡ top_pad b d i
  top d i h = ap (λ (z : ℤ). z +ℤ d) (get_or-append b (y ∷ []) (pos 0) i (omega arith))

  -- without the last pair it is the jumper again
  pub shorter_wiring : (s : ℕ) (d : ℤ) → HasWiring (longer a x) (longer b y) s d → HasWiring a b s d
  shorter_wiring s d w =
      let inside : (i : ℕ) → i < length a → i < length (longer a x) = λ i h. omega (arith, longer_length) in
      (_, wires_left (length a) (length (longer a x)) s (λ i. i) inside (λ i j h g. h) (λ i h. sym (bottom i h)) (λ i h. sym (top d i h)) w.1)

  pub added_wiring : Rising (length (longer a x)) (pad (longer a x)) → Rising (length (longer a x)) (pad (longer b y))
      → (s : ℕ) (d : ℤ) → HasWiring a b s d → HasWiring (longer a x) (longer b y) (suc (suc (rule_at s))) d
  added_wiring ra rb s d w =
      let old : Wirable (length a) s (pad (longer a x)) (top_pad (longer b y) d) = (
        _,
        wires_left (length a) (length a) s (λ i. i) (λ i h. h) (λ i j h g. h) bottom (top d) w.1,
      ) in
      rw longer_length
      (wirable_added (length a) s (pad (longer a x)) (pad (longer b y)) d (rw longer_length at ra) (rw longer_length at rb) old)
