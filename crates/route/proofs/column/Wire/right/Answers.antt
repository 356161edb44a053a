use Rattle.std.proofs.Common.{arith, length, ◌+◌}
use Rattle.std.proofs.lemmas.Int.{ints, clamps}
use Rattle.wiring.specs.Wiring.{pad}
use Rattle.route.proofs.Wires.{rightward_held}
use Rattle.route.proofs.column.Wire.right.Goals as goal

pub returns : goal.returns
returns c =
    let w = c.args.self in
    let e = rightward_held (length w.row.now) (pad w.row.now) w.end w.pad c.args.t (omega arith) in
    omega (arith, ints, clamps, e, c.min.ensures.value, w.accepted.columns (w.pad + c.args.t) (omega arith))
