-- The invariant: low and high are the largest low gap and the smallest high gap of the pairs before i.
use Rattle.std.proofs.Common.{◌≡◌, ◌-◌}
use Rattle.whole.specs.Pick.{largest, smallest}
use Rattle.fit.specs.Offsets.{low_gap, high_gap}
use Rattle.fit.proofs.offsets.gaps_of.Given as goal

abbrev pub invariant-loop-i : goal.invariant-loop-i
invariant-loop-i l =
    (l.low ≡ largest (low_gap l.rows.bottom.now l.rows.top.now l.s) (l.i - 1)) × (l.high ≡ smallest (high_gap l.rows.bottom.now l.rows.top.now l.s) (l.i - 1))
