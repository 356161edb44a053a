-- A wire taken apart from its first point on, as the proofs go, and that this is the wire of the definitions.
use mathlib.Core.Path.{◌≡◌, refl, ap, sym}
use mathlib.Core.List.{List, [], ◌∷◌}
use mathlib.Core.Logic.{◌⊎◌, inl, inr, ◌≢◌}
use Prim.Native.Nat.{ℕ, zero, suc, ◌+◌, ◌-◌, ◌≤◌, ◌<◌}
use native.Mathlib.Decide.{ℕ_discrete}
use native.Mathlib.Numerals.{add-one}
use native.Mathlib.Omega.{arith}
use lib.ListN.{length}
use lib.IntN.{ℤ}
use Rattle.wiring.specs.Wiring.{Point, at, nth, Step, Wire, On}

pub same_point : (p q : Point) → p.column ≡ q.column → p.track ≡ q.track → p ≡ q
same_point p q e f = λ i. record { column = e i; track = f i }

-- p is the first point or one of the others
abbrev pub Among : Point → List Point → Type 0
Among p [] = ⊥
Among p (q ∷ w) = (p ≡ q) ⊎ Among p w

pub on_among : (p : Point) (w : List Point) → On p w → Among p w
on_among p [] h = omega (arith, h.1)
on_among p (q ∷ w) h = go (on_among p w) h.0 h.1 h.2
  where
    go : (On p w → Among p w) → (k : ℕ) → k < suc (length w) → nth (q ∷ w) k ≡ p → (p ≡ q) ⊎ Among p w
    go rest zero l e = inl (sym e)
    go rest (suc k) l e = inr (rest (k, omega arith, e))

pub among_on : (p : Point) (w : List Point) → Among p w → On p w
among_on p [] h = absurd h
among_on p (q ∷ w) (inl e) = (0, omega arith, sym e)
among_on p (q ∷ w) (inr h) = let k = among_on p w h in (suc k.0, omega (arith, k.1), k.2)

-- from p, the points of r lead to column c of track s: each is one step from the one before, and only the last is on track s, the others below
abbrev pub Leads : ℕ → ℤ → Point → List Point → Type 0
Leads s c p [] = p ≡ at c s
Leads s c p (q ∷ r) = (p.track < s) × Step p q × Leads s c q r

-- no point of r stands on track 0
abbrev pub Lifted : List Point → Type 0
Lifted r = (q : Point) → Among q r → q.track ≢ 0

abbrev pub Walk : ℕ → ℤ → ℤ → List Point → Type 0
Walk s a c [] = ⊥
Walk s a c (p ∷ r) = (p ≡ at a 0) × Leads s c p r × Lifted r

-- what the definition says of the points that follow p
record Tail (s : ℕ) (c : ℤ) (p : Point) (r : List Point) : Type 0 where
  ends : nth (p ∷ r) (length r) ≡ at c s
  steps : (k : ℕ) → k < length r → Step (nth (p ∷ r) k) (nth (p ∷ r) (suc k))
  below : (k : ℕ) → k < length r → (nth (p ∷ r) k).track < s

leads_of : (s : ℕ) (c : ℤ) (p : Point) (r : List Point) → Tail s c p r → Leads s c p r
leads_of s c p [] t = t.ends
leads_of s c p (q ∷ r) t =
    let rest : Tail s c q r = record { ends = t.ends; steps = λ k h. t.steps (suc k) (omega arith); below = λ k h. t.below (suc k) (omega arith) } in
    (t.below 0 (omega arith), t.steps 0 (omega arith), leads_of s c q r rest)

more : (s : ℕ) (c : ℤ) (p q : Point) (r : List Point) → p.track < s → Step p q → Tail s c q r → Tail s c p (q ∷ r)
more s c p q r lt n t = record { ends = t.ends; steps = steps; below = below }
  where
    steps : (k : ℕ) → k < suc (length r) → Step (nth (p ∷ q ∷ r) k) (nth (p ∷ q ∷ r) (suc k))
    steps zero h = n
    steps (suc k) h = t.steps k (omega arith)

    below : (k : ℕ) → k < suc (length r) → (nth (p ∷ q ∷ r) k).track < s
    below zero h = lt
    below (suc k) h = t.below k (omega arith)

tail_of : (s : ℕ) (c : ℤ) (p : Point) (r : List Point) → Leads s c p r → Tail s c p r
tail_of s c p [] l = record { ends = l; steps = λ k h. absurd (omega arith); below = λ k h. absurd (omega arith) }
tail_of s c p (q ∷ r) l = more s c p q r l.0 l.1 (tail_of s c q r l.2)

pub wire_walk : (s : ℕ) (a c : ℤ) (w : List Point) → Wire s a c w → Walk s a c w
wire_walk s a c [] h = omega (arith, h.some)
wire_walk s a c (p ∷ r) h = (h.starts, leads_of s c p r tail, lifted)
  where
    l : suc (length r) - 1 ≡ length r
    l = omega arith

    tail : Tail s c p r
    tail =
        record {
          ends = rw l at h.ends;
          steps = λ k lt. rw (add-one k) at (h.steps k (omega arith));
          below = λ k lt. omega (arith, h.stays k (omega arith), h.below k (omega arith));
        }

    lifted : Lifted r
    lifted q among z =
        let on = among_on q r among in
        let k = on.0 in
        let e : nth (p ∷ r) (k + 1) ≡ q = rw (add-one k) on.2 in
        h.leaves k (omega (arith, on.1)) (rw (← e) at z)

pub walk_wire : (s : ℕ) (a c : ℤ) (w : List Point) → Walk s a c w → Wire s a c w
walk_wire s a c [] h = absurd h
walk_wire s a c (p ∷ r) h =
    record {
      some = omega arith;
      starts = h.0;
      ends = rw l t.ends;
      steps = λ k lt. rw (add-one k) (t.steps k (omega arith));
      stays = λ k lt. stays k lt (ℕ_discrete k (length r));
      below = λ k lt. omega (arith, t.below k (omega arith));
      leaves = λ k lt. rw (add-one k) (h.2 (nth r k) (on_among (nth r k) r (k, omega arith, refl)));
    }
  where
    l : suc (length r) - 1 ≡ length r
    l = omega arith

    t : Tail s c p r
    t = tail_of s c p r h.1

    stays : (k : ℕ) → k < suc (length r) → Dec (k ≡ length r) → (nth (p ∷ r) k).track ≤ s
    stays k lt (yes e) = rw e (omega (arith, ap (λ (q : Point). q.track) t.ends))
    stays k lt (no e) = omega (arith, t.below k (omega arith))
