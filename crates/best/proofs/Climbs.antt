-- A level as `climb` works it out, over plain lists and the ladder l.
use Rattle.std.specs.Prelude.{None}
use mathlib.Core.Path.{◌≡◌, refl}
use mathlib.Core.List.{List, ◌∷◌}
use Prim.Native.Nat.{ℕ, suc, ◌+◌, ◌*◌, ◌≤◌, ◌<◌}
use native.Mathlib.Omega.{arith}
use lib.ListN.{length, drop}
use lib.Seq.{drop-drop}
use lib.IntN.{ℤ}
use Rattle.wiring.specs.Fit.{evens, half}
use Rattle.best.specs.Halving.{from_half, halving}
use Rattle.best.specs.Work.{x_of, y_of, IsLevel, Halved}
use Rattle.best.specs.declared.entries.Entries.{Entries}
use Rattle.best.specs.declared.level.Level.{Level}
use Rattle.best.proofs.Levels.{one_pair_lem, more_pairs}
use Rattle.best.proofs.Bests.{best_is_best, count_cheap}
use Rattle.best.proofs.Strides.{even_entries, bottom_steady, top_steady}

-- one entry
pub one_halved : (m : ℕ) (x y : ℕ → ℤ) (l : List ℕ) → m ≡ 1 → Halved m x y l (m ∷ 0 ∷ drop 2 l) (record { best = 0; count = 0; range = None })
one_halved m x y l f = rw f (record { level = rw (one_pair_lem x y) (record { best = refl; count = refl; kept = tt }); ladder = rw (one_pair_lem x y) refl })

-- more, over what their even half came to in the rest of the ladder
pub more_halved : {m : ℕ} {x y : ℕ → ℤ} {l z : List ℕ} {u r : Level} → 1 < m → Halved (half m) (evens x) (evens y) (drop 2 l) z u
    → IsLevel m x y (from_half m x y u.best u.count) r → Halved m x y l (m ∷ r.best ∷ z) r
more_halved {m} {x} {y} {l} {r = r} more under c =
    let e = halving (half m) (evens x) (evens y) in
    let v : IsLevel m x y (from_half m x y e.best e.count) r = rw (under.level.best, under.level.count) at c in
    let n : 2 + length e.ladder ≡ suc (suc (length e.ladder)) = omega arith in
    record { level = rw (more_pairs m x y more) v; ladder = rw (more_pairs m x y more, v.best, under.ladder, drop-drop (length e.ladder) 2 l, n) refl }

-- what e's even half came to, by the rule's name for it
pub by_evens : (e o : Entries) → {l l' : List ℕ} {u : Level} → (o.rows ≡ e.rows) × (o.step ≡ 2 * e.step) × (o.len ≡ half e.len)
    → Halved o.len (x_of o) (y_of o) l l' u → Halved (half e.len) (evens (x_of e)) (evens (y_of e)) l l' u
by_evens e o q h = rw (even_entries e.rows.now.bottom.now e.step, even_entries e.rows.now.top.now e.step) (rw (q.0, q.1, q.2) at h)

-- and what entries came to says of the level over them
pub over_next : (e : Entries) → {l l' : List ℕ} {u : Level} → Halved e.len (x_of e) (y_of e) l l' u → (2 * u.best ≤ e.len) × (u.count + 12 ≤ 12 * e.len)
over_next e h =
    let s = e.strided in
    let r = e.rows.now.accepted in
    let b = best_is_best e.len (x_of e) (y_of e) s.some (bottom_steady r s) (top_steady r s) in
    (rw h.level.best b.within, rw h.level.count (count_cheap e.len (x_of e) (y_of e) s.some))
