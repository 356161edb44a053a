-- The loop's invariant: on each track passed stands the column that was asked for it.
use Rattle.std.proofs.Common.{ℕ, ◌<◌}
use Rattle.wiring.specs.Wiring.{pad}
use Rattle.route.proofs.drawing.draw_held.Given as goal

abbrev pub invariant-loop-t : goal.invariant-loop-t
invariant-loop-t g l = (u : ℕ) → u < l.t → goal.F-post g l.column u (pad l.place-items u)
