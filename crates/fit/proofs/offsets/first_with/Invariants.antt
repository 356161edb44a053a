-- The loop's invariant: no pair before round k has the gap, and one from it on has it.
use Rattle.std.proofs.Common.{◌≢◌, ℕ, ◌+◌, ◌-◌, ◌<◌, length}
use Rattle.fit.specs.Offsets.{gap, GapFrom}
use Rattle.fit.proofs.offsets.first_with.Given as goal

abbrev pub invariant-loop-k : goal.invariant-loop-k
invariant-loop-k l =
    record {
      before : (p : ℕ) → p < l.k → gap l.rows.bottom.now l.rows.top.now (p + l.i) (p + l.j) ≢ l.wanted;
      left : GapFrom l.rows.bottom.now l.rows.top.now l.i l.j l.k l.wanted;
    }

abbrev pub decreases-loop-k : goal.decreases-loop-k
decreases-loop-k l = length l.rows.bottom.now - l.k
