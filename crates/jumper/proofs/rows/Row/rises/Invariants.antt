-- The invariant: `rises` is at most the number of columns passed, and where it is that number, each of them is below the next.
use Rattle.std.proofs.Common.{◌≡◌, ℕ, ◌+◌, ◌-◌, ◌≤◌, ◌<◌, ◌<ℤ◌}
use Rattle.wiring.specs.Wiring.{pad}
use Rattle.jumper.proofs.rows.Row.rises.Given as goal

abbrev pub invariant-loop-i : goal.invariant-loop-i
invariant-loop-i l = (l.i ≤ l.last) × (l.rises ≤ l.i) × (l.rises ≡ l.i → (k : ℕ) → k < l.i → pad l.fn.self.pads.now k <ℤ pad l.fn.self.pads.now (k + 1))

abbrev pub decreases-loop-i : goal.decreases-loop-i
decreases-loop-i l = l.last - l.i
