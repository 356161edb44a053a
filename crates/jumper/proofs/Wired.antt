-- Offsets at which accepted rows have a legal wiring.
use mathlib.Core.Path.{◌≡◌, refl}
use mathlib.Core.List.{List}
use mathlib.Core.Logic.{◌↔◌}
use Prim.Native.Nat.{ℕ, ◌+◌, ◌≤◌, ◌<◌, min}
use native.Mathlib.Omega.{arith}
use lib.ListN.{length}
use lib.IntN.{ℤ, pos, ◌-ℤ◌}
use Rattle.whole.proofs.Arith.{arithℤ, dif, sum}
use Rattle.wiring.specs.Wiring.{HasWiring, pad}
use Rattle.wiring.specs.Fit.{lean_of, Fits}
use Rattle.wiring.specs.Tracks.{rule_at, tracks_for}
use Rattle.wiring.proofs.Rule.{spread}
use Rattle.wiring.proofs.Serves.{rule_most, tracks_near}
use Rattle.wiring.proofs.Theorem.{fit_exactly, first_track, every_offset}
use Rattle.jumper.specs.Limits.{max_pairs, max_tracks, first_column, last_column, lowest_offset, highest_offset, AcceptedColumn, AcceptedOffset}
use Rattle.jumper.specs.Rows.{AcceptedRow, AcceptedRows}
use Rattle.jumper.specs.Asked.{AcceptedTracks}

-- the theorem of fit, of accepted rows
pub wiring_exactly : {a b : List ℤ} → AcceptedRows a b → (s : ℕ) (d : ℤ) → HasWiring a b s d ↔ Fits (length a) (rule_at s) (lean_of a) (lean_of b) d
wiring_exactly {a} {b} r s d = fit_exactly (length a) s (pad a) (pad b) d r.bottom.rising (rw r.equal r.top.rising)

-- the first track wins nothing, and all whole-number offsets fit exactly at separations above n (02, #106)
pub wired_first : {a b : List ℤ} → AcceptedRows a b → (d : ℤ) → HasWiring a b 1 d → HasWiring a b 0 d
wired_first {a} {b} r d = first_track (length a) (pad a) (pad b) d r.bottom.rising (rw r.equal r.top.rising)

pub wired_every : {a b : List ℤ} → AcceptedRows a b → (s : ℕ) → ((d : ℤ) → HasWiring a b s d) ↔ (length a < s)
wired_every {a} {b} r s = every_offset (length a) s (pad a) (pad b) r.some r.bottom.rising (rw r.equal r.top.rising)

-- what is asked at a separation is accepted where the rule is read
pub tracks_rule : {a b : List ℤ} {s : ℕ} → AcceptedTracks a b s → AcceptedTracks a b (rule_at s)
tracks_rule {s = s} k = record { rows = k.rows; tracks = omega (arith, k.tracks, rule_most s) }

-- the separation that any accepted number of pairs serves is accepted, so the code gives it as it is
pub tracks_most : (n : ℕ) → n ≤ max_pairs → tracks_for n ≤ max_tracks
tracks_most n h = omega (arith, tracks_near n)

pub tracks_given : (n : ℕ) → n ≤ max_pairs → min (tracks_for n) max_tracks ≡ tracks_for n
tracks_given n h = let m : tracks_for n ≤ max_tracks = tracks_most n h in omega arith

-- a difference of two columns is an accepted offset
pub difference_accepted : {x y : ℤ} → AcceptedColumn x → AcceptedColumn y → AcceptedOffset (x -ℤ y)
difference_accepted {x} {y} p q = record { low = omega (arithℤ, dif x y, p.low, q.high); high = omega (arithℤ, dif x y, p.high, q.low) }

-- and the two limits of an offset are such differences (02, #105: "Differences and offsets then reach ..")
pub differences_reach : (first_column -ℤ last_column ≡ lowest_offset) × (last_column -ℤ first_column ≡ highest_offset)
differences_reach = (refl, refl)

-- x_k of an accepted row is within the limits of a column too; so the ends of a range, differences of an x and a y, need no clipping
lean_accepted : {a : List ℤ} → AcceptedRow a → (k : ℕ) → k < length a → AcceptedColumn (lean_of a k)
lean_accepted {a} h k l =
    record {
      low = omega (arithℤ, dif (pad a k) (pos k), sum (pad a 0) (pos k), spread h.rising k 0 k (omega arith) l, (h.columns 0 (omega arith)).low);
      high = omega (arithℤ, dif (pad a k) (pos k), (h.columns k l).high);
    }

-- where the rule is read below the number of pairs, every whole-number offset at which a legal wiring exists is an accepted one
pub wired_accepted : {a b : List ℤ} → AcceptedRows a b → (s : ℕ) (d : ℤ) → rule_at s < length a → HasWiring a b s d → AcceptedOffset d
wired_accepted {a} {b} h s d l w =
    let f = (wiring_exactly h s d).0 w in
    let e = h.equal in
    let i = 0 + rule_at s in
    let lowest = difference_accepted (lean_accepted h.bottom 0 (omega arith)) (lean_accepted h.top i (omega arith)) in
    let highest = difference_accepted (lean_accepted h.bottom i (omega arith)) (lean_accepted h.top 0 (omega arith)) in
    record { low = omega (arithℤ, f.low 0 (omega arith), lowest.low); high = omega (arithℤ, f.high 0 (omega arith), highest.high) }
