use Rattle.std.proofs.Common.{length}
use Rattle.route.specs.Draw.{drawn_of}
use Rattle.route.proofs.Places.{wire_next}
use Rattle.route.proofs.drawing.draw_wires.Goals as goal

pub loop-i-preserved : goal.loop-i-preserved
loop-i-preserved c =
    let q = c.args.q in
    wire_next (drawn_of q.rows.bottom.now q.rows.top.now q.offset) q.separation (length q.rows.bottom.now) c.args.out.now c.loop-i.out c.loop-i.i
    c.places.result c.places.ensures c.loop-i-test.true c.requires c.loop-i.invariant _ c.draw_columns.ensures
