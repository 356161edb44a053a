-- The loop's invariant: the first i wires stand.
use Rattle.std.proofs.Common.{◌≡◌, ◌++◌, ◌+◌, ◌*◌, drop}
use Rattle.route.specs.Table.{wires}
use Rattle.route.specs.Draw.{drawn_of}
use Rattle.route.proofs.drawing.draw_wires.Given as goal

abbrev pub invariant-loop-i : goal.invariant-loop-i
invariant-loop-i l =
    l.out ≡ wires (drawn_of l.q.rows.bottom.now l.q.rows.top.now l.q.offset) l.q.separation l.i ++ drop (l.i * (l.q.separation + 1)) l.initial.out
