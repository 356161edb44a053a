-- The loop's invariant: the count is 0 exactly where the runs of the tracks passed are in order, and it is at most 4 for each.
use Rattle.std.proofs.Common.{◌≡◌, ◌↔◌, ◌*◌, ◌≤◌}
use Rattle.wiring.specs.Wiring.{pad}
use Rattle.route.specs.Check.{RunsApart}
use Rattle.route.proofs.checking.runs_apart.Given as goal

abbrev pub invariant-loop-t : goal.invariant-loop-t
invariant-loop-t l = (l.count ≤ 4 * l.t) × ((l.count ≡ 0) ↔ RunsApart (pad l.p) (pad l.q) l.t)
