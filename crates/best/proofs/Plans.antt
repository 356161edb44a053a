-- The whole call on accepted rows: climbed at stride 1, and the range read.
use mathlib.Core.Path.{◌≡◌, ap, ◌∙◌}
use mathlib.Core.List.{List}
use Prim.Native.Nat.{ℕ, min, ◌<◌}
use native.Mathlib.Omega.{arith}
use lib.ListN.{length}
use lib.IntN.{ℤ}
use Rattle.wiring.specs.Fit.{lean_of}
use Rattle.wiring.specs.Tracks.{tracks_for}
use Rattle.jumper.specs.Limits.{max_tracks}
use Rattle.jumper.specs.Span.{range_of}
use Rattle.jumper.specs.declared.range.OffsetRange.{OffsetRange}
use Rattle.jumper.specs.declared.rows.Rows.{Rows}
use Rattle.best.specs.Work.{x_of, y_of, Halved, IsPlanned}
use Rattle.best.specs.declared.entries.Entries.{Entries}
use Rattle.best.specs.declared.level.Level.{Level}
use Rattle.jumper.proofs.Wired.{tracks_given}
use Rattle.best.proofs.Strides.{whole_entries}
use Rattle.best.proofs.Climbs.{over_next}

module _ (e : Entries) (l z : List ℕ) (u : Level) (h : Halved e.len (x_of e) (y_of e) l z u) where
  pub best_inside : u.best < e.len
  best_inside = omega (arith, e.strided.some, (over_next e h).0)

  -- what was climbed, in words of x and y
  pub planned : (w : Rows) (r : OffsetRange) (t : ℕ) → e.rows.now ≡ w → e.step ≡ 1 → e.len ≡ length w.bottom.now → r ≡ range_of e.len (x_of e) (y_of e) u.best
      → t ≡ min (tracks_for u.best) max_tracks → IsPlanned w.bottom.now w.top.now l z (record { separation = t; range = r; count = u.count })
  planned w r t p q n er et =
      let hx : x_of e ≡ lean_of w.bottom.now = rw (p, q) (whole_entries w.bottom.now) in
      let hy : y_of e ≡ lean_of w.top.now = rw (p, q) (whole_entries w.top.now) in
      let h' : Halved (length w.bottom.now) (lean_of w.bottom.now) (lean_of w.top.now) l z u = rw (n, hx, hy) at h in
      let r' = er ∙ ap (λ (m : ℕ). range_of m (x_of e) (y_of e) u.best) n ∙ ap (λ (x : ℕ → ℤ). range_of (length w.bottom.now) x (y_of e) u.best) hx
      ∙ ap (λ (y : ℕ → ℤ). range_of (length w.bottom.now) (lean_of w.bottom.now) y u.best) hy in
      let s : t ≡ tracks_for u.best = et ∙ tracks_given u.best (omega (arith, best_inside, n, w.accepted.few)) in
      record { planned = rw (r', s, h'.level.best, h'.level.count); ladder = h'.ladder }
