-- The place of a stretch names the stretch, and how many pads it has.
use Rattle.std.specs.Prelude.{Option, Some, None, Ok, Err}
use mathlib.Core.Path.{◌≡◌, refl, ap, ◌∙◌}
use mathlib.Core.Bool.{Bool, true, false, cond}
use mathlib.Core.List.{List}
use Prim.Native.Nat.{ℕ, ◌+◌, ◌≤◌, ◌<◌}
use native.Mathlib.Omega.{arith}
use lib.Dec.{eqb}
use lib.ListN.{length, take, drop}
use lib.IntN.{ℤ}
use lib.Signed.{le_z}
use Rattle.wiring.specs.Tracks.{rule_at}
use Rattle.wiring.proofs.Serves.{rule_zero, rule_above}
use Rattle.jumper.specs.Asked.{check_asked}
use Rattle.jumper.specs.Rows.{Checked}
use Rattle.jumper.specs.declared.asked.Question.{Question}
use Rattle.jumper.proofs.Checks.{accepted_asked, asked_accepted}
use Rattle.fit.proofs.Misfits.{at_broken, broken_inside, asked_of, found_of}
use Rattle.fit.specs.Misfit.{misfit_of}
use Rattle.fit.specs.Stretch.{span, stretch_after, place_after, place_of, part_at, StretchPlace}
use Rattle.fit.specs.declared.stretch.Place.{Place}
use Rattle.fit.specs.declared.misfit.Misfit.{Misfit}

by_cases : (c : Checked) (m : Option Misfit) (a b : List ℤ) (s : ℕ) → part_at a b (place_after c m a b s) ≡ stretch_after c m a b s
by_cases (Err r) m a b s = refl
by_cases (Ok u) None a b s = refl
by_cases (Ok u) (Some m) a b s = go (le_z (span a m.pair s) (span b m.pair s))
  where
    go : (t : Bool) → cond (eqb (cond t 0 1) 0) (take (s + 1) (drop m.pair a)) (take (s + 1) (drop m.pair b)) ≡ cond t (take (s + 1) (drop m.pair a)) (take (s + 1) (drop m.pair b))
    go true = refl
    go false = refl

pub named : (a b : List ℤ) (s : ℕ) (d : ℤ) (r : Place) → r ≡ place_of a b s d → StretchPlace a b s d r
named a b s d r e = record { answer = e; names = rw e (by_cases (check_asked a b s d) (misfit_of a b (rule_at s) d) a b (rule_at s)) }

-- the place of a misfit that is found
module _ (q : Question) {a b : List ℤ} {s : ℕ} {d : ℤ} (e : (q.rows.bottom.now ≡ a) × (q.rows.top.now ≡ b) × (q.separation ≡ s) × (q.offset ≡ d)) where
  pub placed : (m : Misfit) → Some m ≡ misfit_of q.rows.bottom.now q.rows.top.now (rule_at q.separation) q.offset → (r : Place)
      → r ≡ place_after (Ok tt) (Some m) q.rows.bottom.now q.rows.top.now (rule_at s) → StretchPlace a b s d r
  placed m f r h = named a b s d r (rw (asked_accepted a b s d (asked_of q e), found_of q e (Some m) f) (rw (e.0, e.1) at h))

-- and it lies in both rows
pub within : (a b : List ℤ) (s : ℕ) (d : ℤ) (r : Place) → r ≡ place_of a b s d → (r.start + r.pads ≤ length a) × (r.start + r.pads ≤ length b)
within a b s d r e = rw e (go (check_asked a b s d) (misfit_of a b (rule_at s) d) refl refl)
  where
    go : (c : Checked) (m : Option Misfit) → check_asked a b s d ≡ c → misfit_of a b (rule_at s) d ≡ m
        → let p = place_after c m a b (rule_at s) in (p.start + p.pads ≤ length a) × (p.start + p.pads ≤ length b)
    go (Err q) m f g = (omega arith, omega arith)
    go (Ok u) None f g = (omega arith, omega arith)
    go (Ok u) (Some m) f g =
        let inside = broken_inside (at_broken a b (rule_at s) d m g) in
        let rows = (accepted_asked a b s d f).rows in
        (omega (arith, inside), omega (arith, inside, rows.equal))

-- the stretch "from the one [pad of the witness] to the other" (02, #106): as many pads as tracks, and one at separation 0
pub stretch_pads : (a b : List ℤ) (s : ℕ) (d : ℤ) (m : Misfit) → check_asked a b s d ≡ Ok tt → misfit_of a b (rule_at s) d ≡ Some m
    → (s ≡ 0 → (place_of a b s d).pads ≡ 1) × (0 < s → (place_of a b s d).pads ≡ s)
stretch_pads a b s d m asked misfit =
    let pads : (place_of a b s d).pads ≡ rule_at s + 1 = rw (asked, misfit) in
    ((λ z. pads ∙ ap (λ (t : ℕ). rule_at t + 1) z ∙ ap (λ (r : ℕ). r + 1) rule_zero), (λ h. pads ∙ rule_above s h))
