-- s + 1 pigeons, s holes: some two share one.
use mathlib.Core.Path.{◌≡◌, refl}
use mathlib.Core.Logic.{◌⊎◌, inl, inr}
use Prim.Native.Nat.{ℕ, zero, suc, ◌≤◌, ◌<◌}
use native.Mathlib.Decide.{ℕ_discrete}
use native.Mathlib.Omega.{arith}

-- `R k t`: pigeon k sits in hole t. If no two of the pigeons 0 .. s share a hole, they do not all sit in holes below s.
-- Pigeon s + 1 sits in v. Whoever sits in s is moved to v: then the pigeons 0 .. s all sit below s.
pub pigeon : (s : ℕ) (R : ℕ → ℕ → Type 0) → ((i j t : ℕ) → i < j → j ≤ s → R i t → R j t → ⊥) → ((k : ℕ) → k ≤ s → (t : ℕ) × (t < s) × R k t) → ⊥
pigeon zero R apart h = let hit = h 0 (omega arith) in omega arith
pigeon (suc s) R apart h = pigeon s Moved apart' (λ k le. move k le (h k (omega arith)))
  where
    last : (t : ℕ) × (t < suc s) × R (suc s) t
    last = h (suc s) (omega arith)

    v : ℕ
    v = last.0

    Moved : ℕ → ℕ → Type 0
    Moved k u = R k u ⊎ ((u ≡ v) × R k s)

    apart' : (i j u : ℕ) → i < j → j ≤ s → Moved i u → Moved j u → ⊥
    apart' i j u lt le (inl x) (inl y) = apart i j u lt (omega arith) x y
    apart' i j u lt le (inl x) (inr y) = apart i (suc s) v (omega arith) (omega arith) (rw y.0 at x) last.2
    apart' i j u lt le (inr x) (inl y) = apart j (suc s) v (omega arith) (omega arith) (rw x.0 at y) last.2
    apart' i j u lt le (inr x) (inr y) = apart i j s lt (omega arith) x.1 y.1

    move : (k : ℕ) → k ≤ s → (t : ℕ) × (t < suc s) × R k t → (u : ℕ) × (u < s) × Moved k u
    move k le hit = go (ℕ_discrete hit.0 s) (ℕ_discrete v s)
      where
        go : Dec (hit.0 ≡ s) → Dec (v ≡ s) → (u : ℕ) × (u < s) × Moved k u
        go (yes e) (yes f) = absurd (apart k (suc s) s (omega arith) (omega arith) (rw e at hit.2) (rw f at last.2))
        go (yes e) (no f) = (v, omega (arith, last.1), inr (refl, rw e at hit.2))
        go (no e) d = (hit.0, omega arith, inl hit.2)
