-- The loop's invariant: what the rule makes of the trials so far, and how many differences they read at most.
use Rattle.std.proofs.Common.{◌+◌, ◌-◌, ◌*◌, ◌≤◌}
use Rattle.best.specs.Work.{x_of, y_of}
use Rattle.best.proofs.Choices.{Tried}
use Rattle.best.proofs.level.Level.over.Given as goal

abbrev pub invariant-loop-s : goal.invariant-loop-s
invariant-loop-s l =
    record {
      tried : Tried l.entries.len (x_of l.entries) (y_of l.entries) l.fn.self.best l.fn.self.count l.s l.count;
      few : l.count ≤ 100000 + 4096 * (l.s + 1 - 2 * l.fn.self.best);
    }
