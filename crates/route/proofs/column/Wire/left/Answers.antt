use Rattle.std.proofs.Common.{arith, ◌-◌}
use Rattle.std.proofs.lemmas.Int.{ints, clamps}
use Rattle.wiring.specs.Wiring.{pad}
use Rattle.route.proofs.Wires.{leftward_held}
use Rattle.route.proofs.column.Wire.left.Goals as goal

pub returns : goal.returns
returns c =
    let w = c.args.self in
    let e = leftward_held 0 (pad w.row.now) w.end w.pad c.args.t (omega arith) in
    omega (arith, ints, clamps, e, c.max.ensures.value, w.accepted.columns (w.pad - c.args.t) (omega (arith, w.inside)))
