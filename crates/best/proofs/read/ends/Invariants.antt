-- The loop's invariant: low and high are the ends that the pads before round i set, and two differences were read for each of them.
use Rattle.std.proofs.Common.{◌≡◌, ◌-◌, ◌*◌}
use Rattle.whole.specs.Pick.{largest, smallest}
use Rattle.best.specs.Work.{low_read, high_read}
use Rattle.best.proofs.read.ends.Given as goal

abbrev pub invariant-loop-i : goal.invariant-loop-i
invariant-loop-i l =
    record {
      low : l.low ≡ largest (low_read l.rows.bottom.now l.rows.top.now 0 l.step l.gap) (l.i - 1);
      high : l.high ≡ smallest (high_read l.rows.bottom.now l.rows.top.now 0 l.step l.gap) (l.i - 1);
      read : l.read ≡ 2 * l.i;
    }
